-- The slots of a play's access.
use Rattle.std.proofs.Common.{◌≡◌, ◌<◌, ℕ, ◌+◌, true, List, [], ◌∷◌, ◌++◌, Option, Some, sym, ap, ◌∙◌, subst}
use Rattle.std.specs.Prelude.{min}
use Rattle.std.specs.Option.{option_map}
use Rattle.asc_base.specs.TreeShape.{olat_of}
use Rattle.asc_base.specs.declared.block.Line.{Line}
use Rattle.asc_base.specs.declared.block.Message.{Message}
use Rattle.asc_base.specs.declared.block.Point.{Point}
use Rattle.asc_base.specs.declared.block.Point.TheVariants.{Real}
use Rattle.asc_base.specs.declared.settings.Config.{Config}
use Rattle.bus_schedule.specs.Timetable.{public_of}
use Rattle.oram_walk.specs.declared.slots.Access.{Access}
use Rattle.posmap_lookaside.specs.Walk.{WalkAccess}
use Rattle.run_play.specs.Requests.{Standing, Taken, access_slot, take_slot, put_back, message_of}
use Rattle.run_play.specs.Slots.{Passed, passed, slot_next, pace_after}
use Rattle.run_play.proofs.Accesses.{access-early}
use Rattle.oram_play.specs.Taken.{put_in, asked_start, slots_taken}

module _ (config : Config) (now : Standing) (before : Passed) where
  -- its slot, of this point and with these messages
  abbrev taken_by : ℕ → Point → Option Message → Option Message → Taken
  taken_by asked point put appended = record {
    slots = before.slots ++ slot_next (public_of config) before.pace now.numbers (Some asked) point put appended ∷ [];
    standing = record now {
      pace = pace_after (public_of config) before.pace (Some asked);
      clock = before.pace.beat.next + olat_of config.shape.levels;
    };
  }

pub play-access : (config : Config) (value : Option (List ℕ)) (now : Standing) (walked : WalkAccess) (access : Access)
    (line : Line) → now.clock ≡ access.asked → walked.address ≡ access.address.0 → walked.counter ≡ access.counter
    → put_back config now.data_lines value walked walked.purpose ≡ put_in access line access.purpose
    → asked_start config now.numbers now.pace access < config.time
    → access_slot config value now walked
    ≡ slots_taken config now access line
    (option_map (message_of config walked.counters now.data_lines) walked.displaced)
play-access config value now walked access line clock address counter put early =
    let appended : Option Message = option_map (message_of config walked.counters now.data_lines) walked.displaced in
    let mine : Passed = passed (public_of config) now.numbers (min now.clock config.time) now.pace in
    let same : mine ≡ passed (public_of config) now.numbers (min access.asked config.time) now.pace =
    ap (λ asked. passed (public_of config) now.numbers (min asked config.time) now.pace) clock in
    let first : access_slot config value now walked ≡ take_slot config value now walked mine true =
    (access-early config value now walked
    (subst (λ (b : Passed). b.pace.beat.next < config.time) (sym same) early)).0 in
    first
    ∙ ap (λ asked. taken_by config now mine asked (Real (record { 0 = walked.address }) walked.counter)
    (put_back config now.data_lines value walked walked.purpose) appended) clock
    ∙ ap (λ a. taken_by config now mine access.asked (Real (record { 0 = a }) walked.counter)
    (put_back config now.data_lines value walked walked.purpose) appended) address
    ∙ ap (λ c. taken_by config now mine access.asked (Real access.address c)
    (put_back config now.data_lines value walked walked.purpose) appended) counter
    ∙ ap (λ back. taken_by config now mine access.asked (Real access.address access.counter) back appended) put
    ∙ ap (λ (b : Passed). taken_by config now b access.asked (Real access.address access.counter)
    (put_in access line access.purpose) appended) same
