-- The slot of an access, and those that pass before it.
use Rattle.std.proofs.Common.{◌≡◌, ◌<◌, ◌≤◌, ℕ, zero, suc, Bool, true, false, List, Option, Some, None, refl, ap}
use Rattle.std.proofs.Common.{arith, append-nil}
use Rattle.std.specs.Prelude.{min, nat_lt}
use Rattle.std.specs.List.{All}
use Rattle.std.proofs.lemmas.Bool.{le-ltb, lt-ltb, ltb-true}
use Rattle.std.proofs.lemmas.List.Elements.{All-nil, All-cons}
use Rattle.asc_base.specs.declared.settings.Config.{Config}
use Rattle.bus_schedule.specs.Timetable.{Public, public_of}
use Rattle.data_cache.specs.Lines.{LineRequest}
use Rattle.posmap_lookaside.specs.Walk.{WalkAccess, walk}
use Rattle.run_play.specs.PlayEvents.{starts_in}
use Rattle.run_play.specs.Requests.{Standing, Taken, none_taken, followed, one_by_one, request_done, requested}
use Rattle.run_play.specs.Requests.{value_of}
use Rattle.run_play.specs.Requests.{take_slot, access_slot, walk_sizes, request_slots}
use Rattle.run_play.specs.Slots.{Pace, Numbers, Passed, pass_one, pass_up_to, passed, pace_after}
use Rattle.run_play.proofs.Keeping.{passed-far}

pub access-early : (config : Config) (value : Option (List ℕ)) (now : Standing) (access : WalkAccess)
    → let before = passed (public_of config) now.numbers (min now.clock config.time) now.pace in
    before.pace.beat.next < config.time
    → (access_slot config value now access ≡ take_slot config value now access before true)
    × (now.clock ≤ before.pace.beat.next)
access-early config value now access early =
    let before : Passed = passed (public_of config) now.numbers (min now.clock config.time) now.pace in (
      ap (take_slot config value now access before) (lt-ltb before.pace.beat.next config.time early),
      omega (arith, passed-far (public_of config) now.numbers (min now.clock config.time) now.pace),
    )

pub access-late : (config : Config) (value : Option (List ℕ)) (now : Standing) (access : WalkAccess)
    → let before = passed (public_of config) now.numbers (min now.clock config.time) now.pace in
    config.time ≤ before.pace.beat.next
    → access_slot config value now access ≡ take_slot config value now access before false
access-late config value now access late =
    let before : Passed = passed (public_of config) now.numbers (min now.clock config.time) now.pace in
    ap (take_slot config value now access before) (le-ltb before.pace.beat.next config.time late)

-- slots that pass start before the time
one-before : (p : Public) (numbers : Numbers) (rest : Pace → Passed) (time : ℕ) (pace : Pace) (early : Bool)
    → nat_lt pace.beat.next time ≡ early
    → ((next : Pace) → All (λ start. start < time) (starts_in (rest next).slots))
    → All (λ start. start < time) (starts_in (pass_one p numbers rest pace early).slots)
one-before p numbers rest time pace false is more = All-nil (λ start. start < time)
one-before p numbers rest time pace true is more =
    All-cons (λ start. start < time) pace.beat.next (starts_in (rest (pace_after p pace None)).slots)
    (ltb-true pace.beat.next time is) (more (pace_after p pace None))

up-before : (p : Public) (numbers : Numbers) (most time : ℕ) (pace : Pace)
    → All (λ start. start < time) (starts_in (pass_up_to p numbers most time pace).slots)
unfolding pass_up_to
up-before p numbers zero time pace = All-nil (λ start. start < time)
up-before p numbers (suc most) time pace =
    one-before p numbers (pass_up_to p numbers most time) time pace (nat_lt pace.beat.next time) refl
    (up-before p numbers most time)

pub passed-before : (p : Public) (numbers : Numbers) (time : ℕ) (pace : Pace)
    → All (λ start. start < time) (starts_in (passed p numbers time pace).slots)
passed-before p numbers time pace = up-before p numbers time time pace

-- a request that is answered
answered-by : (first : Taken) (done : Standing → Standing) (late : Option ℕ) → late ≡ None
    → ((followed first (λ after. none_taken (done after)) late).slots ≡ first.slots)
    × ((followed first (λ after. none_taken (done after)) late).standing ≡ done first.standing)
answered-by first done None fresh = (append-nil first.slots, refl)
answered-by first done (Some late) fresh = absurd cc

pub request-answered : (config : Config) (now : Standing) (request : LineRequest)
    → let walked = walk (walk_sizes config) now.chip (requested request) in
    let taken = one_by_one (access_slot config (value_of request)) walked.accesses now in
    taken.standing.late ≡ None
    → ((request_slots config now request).slots ≡ taken.slots)
    × ((request_slots config now request).standing
    ≡ request_done request (record taken.standing { chip = walked.chip }))
request-answered config now request fresh =
    let walked = walk (walk_sizes config) now.chip (requested request) in
    let taken : Taken = one_by_one (access_slot config (value_of request)) walked.accesses now in
    answered-by taken (λ after. request_done request (record after { chip = walked.chip })) taken.standing.late fresh
