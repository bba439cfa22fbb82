-- An instruction through the cache's lists takes the slots of the play, and comes to what the play does.
use Rattle.std.proofs.Common.{◌≡◌, ℕ, ◌*◌, ◌%◌, ◌<◌, List, [], ◌∷◌, ◌++◌, length, Option, Some, None, refl, sym, ap}
use Rattle.std.proofs.Common.{subst, ◌∙◌, arith, append-nil}
use Rattle.asc_base.specs.declared.settings.Config.{Config}
use Rattle.data_cache.specs.Cached.{lists_access, use_at, HasBytes}
use Rattle.data_cache.specs.CacheLists.{Kept, Sets, Lines, set_of, with_kept, use_set, after_use, write_whole_line}
use Rattle.data_cache.specs.CacheLists.{requests_of, Requests}
use Rattle.data_cache.specs.Lines.{LineRequest}
use Rattle.data_cache.proofs.UseLaws.{use-requests, access-requests}
use Rattle.fed_run.proofs.SomeBytes.{Asks-both, step_plan-bytes}
use Rattle.request_plan.specs.Plan.{Plan, Done, Ask, Asks, through}
use Rattle.request_plan.specs.Play.{Played, play, bare, marked}
use Rattle.request_plan.proofs.Plays.{play-bind, put_all, bare-append}
use Rattle.rv32_core.specs.Access.{Access, Load, Store, IsAccess, spliced}
use Rattle.rv32_core.specs.LineList.{LineUse, line_used}
use Rattle.rv32_core.specs.Machine.{CoreState, Machine, IsCore}
use Rattle.rv32_core.specs.StepPlan.{step_plan}
use Rattle.rv32_core.proofs.PlanLaws.{Asks-step_plan}
use Rattle.run_play.specs.Honest.{IsHonest}
use Rattle.run_play.specs.Play.{access_turn, image_use, instruction}
use Rattle.run_play.specs.Requests.{Standing, Taken, none_taken, followed, one_by_one, request_slots}
use Rattle.run_play.specs.Slots.{Slot}
use Rattle.run_play.specs.Turns.{line_slots, Takes, Comes}
use Rattle.run_play.proofs.Answered.{access-plays}
use Rattle.run_play.proofs.HonestPlays.{access-honest, access-long}
use Rattle.run_play.proofs.Lines.{takes, too_late}
use Rattle.run_play.proofs.Steps.{one_by_one-append}
use Rattle.run_play.proofs.Stored.{requests-data}
use Rattle.run_play.proofs.Turns.{bare-turn}

bare-put : {R B C : Type 0} (put : B → C) (rs : List (R × B)) → bare (put_all put rs) ≡ bare rs
bare-put put [] = refl
bare-put put (r ∷ rs) = ap (λ l. r.0 ∷ l) (bare-put put rs)

use-is : (core : CoreState) (access : Access) → use_at core.base access ≡ line_used core access
use-is core (Load address size) = refl
use-is core (Store address bytes) = refl

module _ (config : Config) where
  -- the first access, and then the rest
  comes-next : {B A : Type 0} (left : B) (requests : List LineRequest)
      (first : Played Slot Standing Sets (Lines × List ℕ)) (taken : Taken)
      (second : Played Slot Standing (Sets × B) (Lines × A)) (rest : Played LineRequest Lines B A) (late : Option ℕ)
      → Takes first taken → taken.standing.late ≡ late
      → (taken.standing.late ≡ None
      → Comes second rest (one_by_one (request_slots config) (bare rest.records) taken.standing))
      → ((l : ℕ) → taken.standing.late ≡ Some l → Takes second (none_taken taken.standing))
      → Comes (record second { records = put_all (λ (c : Sets). (c, left)) first.records ++ second.records })
      (let whole : Played LineRequest Lines B A =
      record { records = marked left requests ++ rest.records; held = rest.held; outcome = rest.outcome } in whole)
      (followed taken (one_by_one (request_slots config) (bare rest.records)) late)
  comes-next {B} {A} left requests first taken second rest None t is more none =
      let g = more is in
      record {
        slots = bare-append (put_all (λ (c : Sets). (c, left)) first.records) second.records
            ∙ ap (λ l. l ++ bare second.records) (bare-put (λ (c : Sets). (c, left)) first.records ∙ t.slots)
            ∙ ap (λ l. taken.slots ++ l) g.slots;
        held = g.held;
        outcome = g.outcome;
      }
  comes-next {B} {A} left requests first taken second rest (Some l) t is more none =
      let g = none l is in
      record {
        slots = bare-append (put_all (λ (c : Sets). (c, left)) first.records) second.records
            ∙ ap (λ l. l ++ bare second.records) (bare-put (λ (c : Sets). (c, left)) first.records ∙ t.slots)
            ∙ ap (λ l. taken.slots ++ l) g.slots ∙ append-nil taken.slots;
        held = g.held;
        outcome = λ fresh. (let no : Some l ≡ None = sym is ∙ fresh in absurd cc);
      }

  module _ (ways count : ℕ) (core : CoreState) (some : 0 < ways) (aligned : core.base % 64 ≡ 0) where
    pub comes : {B A : Type 0} (plan : Plan Access (List ℕ) B A) (lines : Lines) (now : Standing)
        → Asks (λ access. IsAccess core.base (64 * count) access × HasBytes access) plan
        → length lines.memory ≡ 64 * count → IsHonest ways count [] lines now.data_lines → now.late ≡ None
        → let whole = play (access_turn ways core) plan lines in
        Comes (play (line_slots config) (through (lists_access core.base ways) plan lines) now) whole
        (one_by_one (request_slots config) (bare whole.records) now)
    unfolding one_by_one
    comes (Done a) lines now asks long h fresh = record { slots = refl; held = refl; outcome = λ e. refl }
    comes {B} {A} (Ask access left next) lines now asks long h fresh =
        let turn = access_turn ways core lines access in
        let taken : Taken = one_by_one (request_slots config) turn.records now in
        let rest = play (access_turn ways core) (next turn.answer) turn.held in
        let whole = play (access_turn ways core) (Ask access left next) lines in
        let serve = lists_access core.base ways in
        let first = play (line_slots config) (serve lines access) now in
        let goes = λ (r : Lines × List ℕ). through serve (next (r.1)) (r.0) in
        let second = play (line_slots config) (goes first.outcome) first.held in
        let makes : Requests (serve lines access) turn.records =
        subst (λ (u : LineUse). Requests (serve lines access) (requests_of ways lines.memory lines.sets u))
        (use-is core access) (access-requests core.base ways lines access) in
        let t : Takes first taken = takes config (serve lines access) turn.records now makes fresh in
        let o : first.outcome ≡ (turn.held, turn.answer) =
        access-plays config ways count core access lines now ((asks.0).0) ((asks.0).1) long h in
        let is_second : play (line_slots config) (goes (turn.held, turn.answer)) taken.standing ≡ second =
        ap (λ r. play (line_slots config) (goes r) taken.standing) (sym o)
        ∙ ap (λ s. play (line_slots config) (goes first.outcome) s) (sym t.held) in
        let same : one_by_one (request_slots config) (bare whole.records) now
        ≡ followed taken (one_by_one (request_slots config) (bare rest.records)) taken.standing.late =
        ap (λ l. one_by_one (request_slots config) l now) (bare-turn left turn.records rest.records)
        ∙ one_by_one-append (request_slots config) turn.records (bare rest.records) now fresh in
        subst
        (λ p. Comes p whole (one_by_one (request_slots config) (bare whole.records) now))
        (sym (play-bind (line_slots config) (λ (c : Sets). (c, left)) (serve lines access) goes now))
        (subst
        (λ (k : Taken).
        Comes (record second { records = put_all (λ (c : Sets). (c, left)) first.records ++ second.records }) whole k)
        (sym same)
        (comes-next left turn.records first taken second rest taken.standing.late t refl
        (λ none. subst (λ p. Comes p rest (one_by_one (request_slots config)
        (bare rest.records) taken.standing)) is_second
        (comes (next turn.answer) turn.held taken.standing (asks.1 turn.answer)
        (access-long ways count core some aligned access lines.memory ((asks.0).0) long)
        (subst (IsHonest ways count [] turn.held) (sym (requests-data config turn.records now none))
        (access-honest ways count core some aligned access [] lines now.data_lines ((asks.0).0) long h)) none))
        (λ l is. subst (λ p. Takes p (none_taken taken.standing)) is_second
        (too_late config (goes (turn.held, turn.answer)) taken.standing l is))))

  -- an instruction
  pub instruction-comes : (ways count : ℕ) (machine : Machine) (lines : Lines) (now : Standing) → 0 < ways
      → IsCore machine.core → machine.core.size ≡ 64 * count → length lines.memory ≡ 64 * count
      → IsHonest ways count [] lines now.data_lines → now.late ≡ None
      → let step = instruction ways machine lines in
      Comes (play (line_slots config) (through (lists_access machine.core.base ways)
      (step_plan machine) lines) now) step
      (one_by_one (request_slots config) (bare step.records) now)
  instruction-comes ways count machine lines now some is size long h fresh =
      comes ways count machine.core some (omega (arith, is.memory.base_pages)) (step_plan machine) lines now
      (Asks-both (IsAccess machine.core.base (64 * count)) HasBytes (step_plan machine)
      (subst (λ n. Asks (IsAccess machine.core.base n) (step_plan machine)) size (Asks-step_plan machine is))
      (step_plan-bytes machine)) long h fresh

  -- an image line
  pub image-takes : (ways line : ℕ) (value : List ℕ) (lines : Lines) (now : Standing) → now.late ≡ None
      → Takes (play (line_slots config) (write_whole_line ways lines line value) now)
      (one_by_one (request_slots config) (requests_of ways lines.memory lines.sets (image_use line)) now)
  image-takes ways line value lines now fresh =
      let set : List Kept = set_of lines.sets line in
      let plan = use_set ways set lines.memory (image_use line) in
      let first = play (line_slots config) plan now in
      let end : List Kept × List ℕ → Plan LineRequest (List ℕ) Sets Lines =
      (λ r. Done (after_use lines line (r.0) (spliced (r.1) (64 * line) value))) in
      let whole = play (line_slots config) (write_whole_line ways lines line value) now in
      let t : Takes first (one_by_one (request_slots config) (requests_of ways lines.memory lines.sets
      (image_use line)) now) =
      takes config plan (requests_of ways lines.memory lines.sets (image_use line)) now
      (use-requests ways lines.memory lines.sets (image_use line)) fresh in
      record {
        slots = ap (λ (p : Played Slot Standing Sets Lines). bare p.records)
            (play-bind (line_slots config) (with_kept lines.sets line) plan end now)
            ∙ ap bare (append-nil (put_all (with_kept lines.sets line) first.records))
            ∙ bare-put (with_kept lines.sets line) first.records ∙ t.slots;
        held = ap (λ (p : Played Slot Standing Sets Lines). p.held)
            (play-bind (line_slots config) (with_kept lines.sets line) plan end now) ∙ t.held;
      }
