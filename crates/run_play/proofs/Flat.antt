-- A play's instructions are the flat machine's, and it uses the lines of the line list.
use Rattle.std.proofs.Common.{◌≡◌, ℕ, zero, suc, ◌*◌, Bool, true, false, List, [], ◌∷◌, ◌++◌, take, drop, map, Option}
use Rattle.std.proofs.Common.{Some, None, refl, sym, ap, ◌∙◌}
use Rattle.std.specs.Prelude.{◌&&◌, not, if◌then◌else◌}
use Rattle.std.proofs.lemmas.List.{map-append}
use Rattle.asc_base.specs.Memory.{IsMemory}
use Rattle.data_cache.specs.CacheLists.{Kept, Sets, Lines, needs, keeps, set_of, victim, line_in, stored, fetched}
use Rattle.data_cache.specs.CacheLists.{requests_of, requests_along}
use Rattle.data_cache.specs.Lines.{Fetch, Store}
use Rattle.request_plan.specs.Plan.{Plan, Done, Ask}
use Rattle.request_plan.specs.Play.{served, play, bare}
use Rattle.rv32_core.specs.Access.{Access, access_bytes}
use Rattle.rv32_core.specs.FlatMachine.{FlatStep, flat_step}
use Rattle.rv32_core.specs.LineList.{LineUse, line_used, asked_lines, step_lines}
use Rattle.rv32_core.specs.Machine.{CoreState, Machine}
use Rattle.rv32_core.specs.StepPlan.{step_plan}
use Rattle.rv32_core.proofs.Served.{served-step_plan}
use Rattle.rv32_core.proofs.StepLines.{step_plan-asked}
use Rattle.rv32_core.specs.declared.outcome.Done.{Done as StepDone}
use Rattle.run_play.specs.Flat.{without_bytes}
use Rattle.run_play.specs.Play.{access_turn, instruction}
use Rattle.run_play.proofs.Turns.{bare-turn}

-- a request of no bytes
no-bytes : (line : ℕ) → line_in [] line ≡ []
no-bytes line = ap (take 64) (none (64 * line))
  where
    none : (n : ℕ) → drop {A = ℕ} n [] ≡ []
    none zero = refl
    none (suc n) = refl

stored-so : (memory : List ℕ) (victim : Option Kept) → map without_bytes (stored memory victim) ≡ stored [] victim
stored-so memory None = refl
stored-so memory (Some k) = by-dirty k.dirty
  where
    by-dirty : (dirty : Bool)
        → map without_bytes (if dirty then Store k.line (line_in memory k.line) ∷ [] else [])
        ≡ (if dirty then Store k.line (line_in [] k.line) ∷ [] else [])
    by-dirty true = ap (λ bytes. Store k.line bytes ∷ []) (sym (no-bytes k.line))
    by-dirty false = refl

fetched-so : (set : List Kept) (use_of : LineUse) → map without_bytes (fetched set use_of) ≡ fetched set use_of
fetched-so set use_of = by-need (needs use_of.kind && not (keeps set use_of.line))
  where
    by-need : (need : Bool)
        → map without_bytes (if need then Fetch use_of.line ∷ [] else [])
        ≡ (if need then Fetch use_of.line ∷ [] else [])
    by-need true = refl
    by-need false = refl

requests-so : (ways : ℕ) (memory : List ℕ) (sets : Sets) (use_of : LineUse)
    → map without_bytes (requests_of ways memory sets use_of) ≡ requests_of ways [] sets use_of
requests-so ways memory sets use_of =
    let set : List Kept = set_of sets use_of.line in
    let last : Option Kept = victim ways set use_of.line in
    map-append without_bytes (stored memory last) (fetched set use_of)
    ∙ ap (λ l. l ++ map without_bytes (fetched set use_of)) (stored-so memory last)
    ∙ ap (λ l. stored [] last ++ l) (fetched-so set use_of)

module _ (ways : ℕ) (core : CoreState) where
  -- the outcome of a plan, and the bytes then, are those of its being served by the bytes
  pub played-served : {B A : Type 0} (plan : Plan Access (List ℕ) B A) (lines : Lines)
      → let whole = play (access_turn ways core) plan lines in
      served (access_bytes core.base) plan lines.memory ≡ (whole.outcome, whole.held.memory)
  played-served (Done a) lines = refl
  played-served (Ask access left next) lines =
      let turn = access_turn ways core lines access in played-served (next turn.answer) turn.held

  -- its requests are those of the lines that it asks for
  pub played-lines : {B A : Type 0} (plan : Plan Access (List ℕ) B A) (lines : Lines)
      → map without_bytes (bare (play (access_turn ways core) plan lines).records)
      ≡ requests_along ways [] lines.sets (asked_lines core (access_bytes core.base) plan lines.memory)
  played-lines (Done a) lines = refl
  played-lines (Ask access left next) lines =
      let turn = access_turn ways core lines access in
      let rest = play (access_turn ways core) (next turn.answer) turn.held in
      ap (map without_bytes) (bare-turn left turn.records rest.records)
      ∙ map-append without_bytes turn.records (bare rest.records)
      ∙ ap (λ l. l ++ map without_bytes (bare rest.records))
      (requests-so ways lines.memory lines.sets (line_used core access))
      ∙ ap (λ l. requests_of ways [] lines.sets (line_used core access) ++ l)
      (played-lines (next turn.answer) turn.held)

-- an instruction is the flat machine's
pub instruction-flat : (ways : ℕ) (machine : Machine) (lines : Lines)
    → let step = instruction ways machine lines in
    flat_step machine lines.memory
    ≡ record { machine = (step.outcome).0; memory = step.held.memory; done = (step.outcome).1 }
instruction-flat ways machine lines =
    ap
    (λ (r : (Machine × StepDone) × List ℕ).
    let step : FlatStep = record { machine = (r.0).0; memory = r.1; done = (r.0).1 } in step)
    (sym (served-step_plan machine lines.memory) ∙ played-served ways machine.core (step_plan machine) lines)

-- and its requests are those of its lines
pub instruction-lines : (ways : ℕ) (machine : Machine) (lines : Lines) → IsMemory machine.core.base machine.core.size
    → map without_bytes (bare (instruction ways machine lines).records)
    ≡ requests_along ways [] lines.sets (step_lines machine lines.memory)
instruction-lines ways machine lines is =
    played-lines ways machine.core (step_plan machine) lines
    ∙ ap (requests_along ways [] lines.sets) (step_plan-asked machine lines.memory is)
