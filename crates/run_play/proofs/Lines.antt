-- The slots of requests for lines, one by one and by a plan that makes them.
use Rattle.std.proofs.Common.{◌≡◌, ℕ, List, [], ◌∷◌, ◌++◌, Option, Some, None, refl, sym, ap, ◌∙◌, append-nil, subst}
use Rattle.asc_base.specs.declared.settings.Config.{Config}
use Rattle.data_cache.specs.CacheLists.{Requests}
use Rattle.data_cache.specs.Lines.{LineRequest}
use Rattle.request_plan.specs.Plan.{Plan, Done, Ask}
use Rattle.request_plan.specs.Play.{Played, play, marked}
use Rattle.run_play.specs.Slots.{Slot}
use Rattle.run_play.specs.Requests.{Standing, Taken, none_taken, followed, one_by_one, request_slots}
use Rattle.data_cache.specs.CacheLists.{Lines}
use Rattle.rv32_core.specs.Access.{Access}
use Rattle.rv32_core.specs.Machine.{CoreState}
use Rattle.run_play.specs.Play.{access_turn}
use Rattle.run_play.specs.Turns.{access_slots, unless_late, answered, line_slots, Takes}
use Rattle.run_play.proofs.Turns.{bare-turn}

module _ (config : Config) where
  -- the play goes on after the slots of the first request
  abbrev after_first : {B A : Type 0} → B → Plan LineRequest (List ℕ) B A → Taken → Played Slot Standing B A
  after_first left plan first =
      let rest = play (line_slots config) plan first.standing in
      record { records = marked left first.slots ++ rest.records; held = rest.held; outcome = rest.outcome }

  -- nothing is taken after a slot that came too late
  pub too_late : {B A : Type 0} (plan : Plan LineRequest (List ℕ) B A) (now : Standing) (late : ℕ)
      → now.late ≡ Some late
      → Takes (play (line_slots config) plan now) (none_taken now)
  too_late (Done a) now late is = record { slots = refl; held = refl }
  too_late {B} {A} (Ask request left next) now late is =
      let rest = too_late (next (answered now.data_lines request)) now late is in
      subst
      (λ (o : Option ℕ).
      Takes (after_first left (next (answered now.data_lines request))
      (unless_late o (request_slots config now request) now)) (none_taken now)) (sym is)
      (record { slots = rest.slots; held = rest.held })

  goes_on : {B A : Type 0} (left : B) (requests : List LineRequest) (plan : Plan LineRequest (List ℕ) B A)
      (first : Taken) (late : Option ℕ) → first.standing.late ≡ late
      → (first.standing.late ≡ None
      → Takes (play (line_slots config) plan first.standing)
      (one_by_one (request_slots config) requests first.standing))
      → Takes (after_first left plan first) (followed first (one_by_one (request_slots config) requests) late)
  goes_on left requests plan first None is more =
      let m = more is in
      let rest = play (line_slots config) plan first.standing in
      record {
        slots = bare-turn left first.slots rest.records ∙ ap (λ l. first.slots ++ l) m.slots;
        held = m.held;
      }
  goes_on left requests plan first (Some l) is more =
      let m = too_late plan first.standing l is in
      let rest = play (line_slots config) plan first.standing in
      record {
        slots = bare-turn left first.slots rest.records ∙ ap (λ l. first.slots ++ l) m.slots
            ∙ append-nil first.slots;
        held = m.held;
      }

  -- a plan that makes these requests takes their slots
  pub takes : {B A : Type 0} (plan : Plan LineRequest (List ℕ) B A) (requests : List LineRequest) (now : Standing)
      → Requests plan requests → now.late ≡ None
      → Takes (play (line_slots config) plan now) (one_by_one (request_slots config) requests now)
  unfolding one_by_one
  takes {B} {A} (Done a) requests now makes is =
      subst
      (λ l. Takes {B = B} {A = A} (play (line_slots config) (Done a) now) (one_by_one (request_slots config) l now))
      (sym makes)
      (record { slots = refl; held = refl })
  takes (Ask request left next) [] now makes is = absurd makes
  takes {B} {A} (Ask request left next) (first ∷ others) now makes is =
      let taken : Taken = request_slots config now request in
      let answer : List ℕ = answered now.data_lines request in
      subst
      (λ (q : LineRequest). Takes (play (line_slots config) (Ask request left next) now)
      (followed (request_slots config now q) (one_by_one (request_slots config) others)
      (request_slots config now q).standing.late)) makes.0
      (subst
      (λ (o : Option ℕ). Takes (after_first left (next answer) (unless_late o taken now))
      (followed taken (one_by_one (request_slots config) others) taken.standing.late)) (sym is)
      (goes_on left others (next answer) taken taken.standing.late refl
      (λ fresh. takes (next answer) others taken.standing (makes.1 answer) fresh)))

-- ---- a server once a slot came too late
none-late : (taken : Taken) (now : Standing) (o : Option ℕ) (late : ℕ) → o ≡ Some late
    → ((unless_late o taken now).slots ≡ []) × ((unless_late o taken now).standing ≡ now)
none-late taken now None late is = absurd cc
none-late taken now (Some l) late is = (refl, refl)

pub late-request : (config : Config) (now : Standing) (request : LineRequest) (late : ℕ) → now.late ≡ Some late
    → let turn = line_slots config now request in (turn.records ≡ []) × (turn.held ≡ now)
late-request config now request late is = none-late (request_slots config now request) now now.late late is

pub late-access : (config : Config) (core : CoreState) (lines : Lines) (now : Standing) (access : Access) (late : ℕ)
    → now.late ≡ Some late → let turn = access_slots config core (lines, now) access in
    (turn.records ≡ []) × ((turn.held).1 ≡ now)
late-access config core lines now access late is =
    none-late (one_by_one (request_slots config)
    (access_turn config.ways core lines access).records now) now now.late late
    is
