-- The pace after slots.
use Rattle.std.proofs.Common.{◌<◌, ℕ, List, [], ◌∷◌, ◌++◌, Option}
use Rattle.asc_base.specs.Settings.{IsConfig}
use Rattle.asc_base.specs.declared.block.Message.{Message}
use Rattle.asc_base.specs.declared.block.Point.{Point}
use Rattle.asc_base.specs.declared.settings.Config.{Config}
use Rattle.bus_schedule.specs.Timetable.{Public, public_of, count_of}
use Rattle.data_cache.specs.Lines.{LineRequest}
use Rattle.run_play.specs.Slots.{Pace, first_pace, Numbers, Slot, pace_after, slot_next, passed}
use Rattle.run_play.specs.Requests.{Standing, one_by_one, request_slots}
use Rattle.run_play.specs.OnTime.{IsPace}
use Rattle.run_play.proofs.Paces.{paced-none, is-pace, from-pace}
use Rattle.run_play.proofs.Keeping.{paced-next, paced-passed, keeps-requests}
use Rattle.run_play.proofs.PlaysOnTime.{some-rate}

pub pace-start : (p : Public) → IsPace p [] (first_pace p)
pace-start p = is-pace p [] (first_pace p) (paced-none p)

pub pace-slot : (p : Public) → 0 < count_of p → (slots : List Slot) (pace : Pace) (numbers : Numbers) (asked : Option ℕ)
    (point : Point) (put appended : Option Message) → IsPace p slots pace
    → IsPace p (slots ++ slot_next p pace numbers asked point put appended ∷ []) (pace_after p pace asked)
pace-slot p some slots pace numbers asked point put appended h =
    is-pace p (slots ++ slot_next p pace numbers asked point put appended ∷ []) (pace_after p pace asked)
    (paced-next p some slots pace numbers asked point put appended (from-pace p slots pace h))

pub pace-dummies : (p : Public) → 0 < count_of p → (slots : List Slot) (pace : Pace) (numbers : Numbers) (time : ℕ)
    → IsPace p slots pace → let more = passed p numbers time pace in IsPace p (slots ++ more.slots) more.pace
pace-dummies p some slots pace numbers time h =
    let more = passed p numbers time pace in
    is-pace p (slots ++ more.slots) more.pace
    (paced-passed p some numbers time pace slots (from-pace p slots pace h))

pub pace-requests : (config : Config) → IsConfig config → (slots : List Slot) (now : Standing)
    (requests : List LineRequest) → IsPace (public_of config) slots now.pace
    → let taken = one_by_one (request_slots config) requests now in
    IsPace (public_of config) (slots ++ taken.slots) taken.standing.pace
pace-requests config is slots now requests h =
    let taken = one_by_one (request_slots config) requests now in
    is-pace (public_of config) (slots ++ taken.slots) taken.standing.pace
    (keeps-requests config (some-rate config is) requests now slots (from-pace (public_of config) slots now.pace h))
