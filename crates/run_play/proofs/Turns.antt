-- An instruction's slots, access by access.
use Rattle.std.proofs.Common.{◌≡◌, ℕ, List, ◌++◌, Option, Some, None, refl, sym, ap, ◌∙◌, append-nil, subst}
use Rattle.asc_base.specs.declared.settings.Config.{Config}
use Rattle.data_cache.specs.CacheLists.{Lines}
use Rattle.data_cache.specs.Lines.{LineRequest}
use Rattle.request_plan.specs.Plan.{Plan, Done, Ask}
use Rattle.request_plan.specs.Play.{Played, play, bare, marked}
use Rattle.request_plan.proofs.Plays.{bare-marked, bare-append}
use Rattle.rv32_core.specs.Access.{Access}
use Rattle.rv32_core.specs.Machine.{CoreState}
use Rattle.run_play.specs.Slots.{Slot}
use Rattle.run_play.specs.Requests.{Standing, Taken, none_taken, followed, one_by_one, request_slots}
use Rattle.run_play.specs.Play.{access_turn}
use Rattle.run_play.specs.Turns.{unless_late, access_slots, Matches}
use Rattle.run_play.proofs.Steps.{one_by_one-append}

pub bare-turn : {R B : Type 0} (b : B) (rs : List R) (more : List (R × B))
    → bare (marked b rs ++ more) ≡ rs ++ bare more
bare-turn b rs more = bare-append (marked b rs) more ∙ ap (λ l. l ++ bare more) (bare-marked b rs)

module _ (config : Config) (core : CoreState) where
  -- the play goes on after the slots of the first access
  abbrev after_first : {B A : Type 0} → B → Plan Access (List ℕ) B A → Lines → Taken
      → Played Slot (Lines × Standing) B A
  after_first left plan lines first =
      let rest = play (access_slots config core) plan (lines, first.standing) in
      record {
        records = marked left first.slots ++ rest.records;
        held = rest.held;
        outcome = rest.outcome;
      }

  -- nothing is taken after a slot that came too late
  pub too_late : {B A : Type 0} (plan : Plan Access (List ℕ) B A) (lines : Lines) (now : Standing) (late : ℕ)
      → now.late ≡ Some late
      → Matches (play (access_slots config core) plan (lines, now)) (play (access_turn config.ways core) plan lines)
      (none_taken now)
  too_late (Done a) lines now late is = record { slots = refl; held = refl; outcome = refl }
  too_late {B} {A} (Ask access left next) lines now late is =
      let turn = access_turn config.ways core lines access in
      let first : Taken = one_by_one (request_slots config) turn.records now in
      let rest = too_late (next turn.answer) turn.held now late is in
      subst (λ (o : Option ℕ). Matches (after_first left (next turn.answer) turn.held (unless_late o first now))
      (play (access_turn config.ways core) (Ask access left next) lines) (none_taken now)) (sym is)
      (record { slots = rest.slots; held = rest.held; outcome = rest.outcome })

  goes_on : {B A : Type 0} (left : B) (requests : List LineRequest) (plan : Plan Access (List ℕ) B A) (lines : Lines)
      (first : Taken) (late : Option ℕ) → first.standing.late ≡ late
      → (first.standing.late ≡ None
      → Matches (play (access_slots config core) plan (lines, first.standing))
      (play (access_turn config.ways core) plan lines)
      (one_by_one (request_slots config) (bare (play (access_turn config.ways core) plan lines).records)
      first.standing))
      → Matches (after_first left plan lines first)
      (let rest = play (access_turn config.ways core) plan lines in
      record { records = marked left requests ++ rest.records; held = rest.held; outcome = rest.outcome })
      (followed first
      (one_by_one (request_slots config) (bare (play (access_turn config.ways core) plan lines).records)) late)
  goes_on left requests plan lines first None is more =
      let m = more is in
      let both = play (access_slots config core) plan (lines, first.standing) in
      record {
        slots = bare-turn left first.slots both.records ∙ ap (λ l. first.slots ++ l) m.slots;
        held = m.held;
        outcome = m.outcome;
      }
  goes_on left requests plan lines first (Some l) is more =
      let m = too_late plan lines first.standing l is in
      let both = play (access_slots config core) plan (lines, first.standing) in
      record {
        slots = bare-turn left first.slots both.records ∙ ap (λ l. first.slots ++ l) m.slots
            ∙ append-nil first.slots;
        held = m.held;
        outcome = m.outcome;
      }

  -- the slots of all its accesses are those of its requests
  pub matches : {B A : Type 0} (plan : Plan Access (List ℕ) B A) (lines : Lines) (now : Standing) → now.late ≡ None
      → Matches (play (access_slots config core) plan (lines, now)) (play (access_turn config.ways core) plan lines)
      (one_by_one (request_slots config) (bare (play (access_turn config.ways core) plan lines).records) now)
  unfolding one_by_one
  matches (Done a) lines now is = record { slots = refl; held = refl; outcome = refl }
  matches {B} {A} (Ask access left next) lines now is =
      let turn = access_turn config.ways core lines access in
      let first : Taken = one_by_one (request_slots config) turn.records now in
      let rest = play (access_turn config.ways core) (next turn.answer) turn.held in
      let whole = play (access_turn config.ways core) (Ask access left next) lines in
      let same : one_by_one (request_slots config) (bare whole.records) now
      ≡ followed first (one_by_one (request_slots config) (bare rest.records)) first.standing.late =
      ap (λ l. one_by_one (request_slots config) l now) (bare-turn left turn.records rest.records)
      ∙ one_by_one-append (request_slots config) turn.records (bare rest.records) now is in
      subst (λ (o : Option ℕ). Matches (after_first left (next turn.answer) turn.held (unless_late o first now)) whole
      (one_by_one (request_slots config) (bare whole.records) now)) (sym is)
      (subst (λ (t : Taken). Matches (after_first left (next turn.answer) turn.held first) whole t) (sym same)
      (goes_on left turn.records (next turn.answer) turn.held first first.standing.late refl
      (λ fresh. matches (next turn.answer) turn.held first.standing fresh)))
