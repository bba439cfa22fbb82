-- What the steps of a core over told bytes make of a flat run.
use Rattle.std.proofs.Common.{◌≡◌, ℕ, ◌+◌, ◌<◌, ◌≤◌, List, Option, Some, refl, sym, ap, ◌∙◌}
use Rattle.rv32_core.specs.Machine.{Machine}
use Rattle.rv32_core.specs.FlatMachine.{FlatStep, flat_step}
use Rattle.rv32_core.specs.FlatRun.{FlatRun}
use Rattle.rv32_core.specs.declared.outcome.Done.{Done}
use Rattle.rv32_core.specs.declared.outcome.Ended.{Ended}
use Rattle.rv32_core.specs.declared.outcome.Ended.TheVariants.{No, Exit, Trap}
use Rattle.rv32_core.specs.declared.outcome.TrapKind.{TrapKind}
use Rattle.rv32_core.proofs.FlatRunLaws.{RunsOn, runs_on_after_step, run_ends_with_exit, run_ends_with_trap}
use Rattle.rv32_core.proofs.FlatRunLaws.{run_ends_with_budget}
use Rattle.ascend_top.specs.declared.status.Ending.{Ending}
use Rattle.ascend_top.specs.declared.status.Ending.TheVariants.{Exit as Exits, Trap as Traps, Budget as OutOfBudget}
use Rattle.ascend_top.specs.FlatRun.{ending_of}
use Rattle.ascend_top.specs.Parts.{EndsAs}

-- what a step tells of its bytes
abbrev pub TellsStep : Machine → List ℕ → Machine → List ℕ → Done → Type 0
TellsStep machine memory next after done =
    (told : List ℕ) → ◌≡◌ {A = Option (List ℕ)} (Some after) (Some told)
    → (before : List ℕ) × ◌≡◌ {A = Option (List ℕ)} (Some memory) (Some before)
    × (flat_step machine before ≡ record { machine = next; memory = told; done = done })

step_told : (machine next : Machine) (memory after : List ℕ) (done : Done) (ended : Ended)
    → TellsStep machine memory next after done → done.ended ≡ ended
    → flat_step machine memory ≡ record {
      machine = next;
      memory = after;
      done = record
          { ended = ended; cost = done.cost };
    }
step_told machine next memory after done ended told e =
    let t = told after refl in
    let same : memory ≡ t.0 = cc in
    ap (flat_step machine) same ∙ t.2
    ∙ ap (λ (x : Ended). let s : FlatStep = record {
      machine = next;
      memory = after;
      done = record
          { ended = x; cost = done.cost };
    } in s) e

ends_as : (whole run : FlatRun) (end : Ending) → whole ≡ run → ending_of end ≡ run.ending
    → EndsAs whole run.instructions end run.machine.files.output
ends_as whole run end e ending = record {
  finished = ap (λ (r : FlatRun). r.instructions) (sym e);
  ending = ending ∙ ap (λ (r : FlatRun). r.ending) (sym e);
  written = ap (λ (r : FlatRun). r.machine.files.output) (sym e);
}

module _ (whole : FlatRun) (n i : ℕ) (machine next : Machine) (memory after : List ℕ) (done : Done)
    (run : RunsOn whole n i machine memory) (left : i < n) (told : TellsStep machine memory next after done) where
  pub goes_on : done.ended ≡ No → RunsOn whole n (i + 1) next after
  goes_on e = runs_on_after_step whole n i machine next memory after done.cost run left
      (step_told machine next memory after done No told e)

  pub exits : (status : ℕ) → done.ended ≡ Exit status → EndsAs whole (i + 1) (Exits status) next.files.output
  exits status e = ends_as whole _ (Exits status) (run_ends_with_exit whole n i machine next memory after status
      done.cost run left (step_told machine next memory after done (Exit status) told e)) refl

  pub traps : (kind : TrapKind) (pc : ℕ) → done.ended ≡ Trap kind pc → EndsAs whole i (Traps kind pc) next.files.output
  traps kind pc e = ends_as whole _ (Traps kind pc) (run_ends_with_trap whole n i machine next memory after kind pc
      done.cost run left (step_told machine next memory after done (Trap kind pc) told e)) refl

pub runs_out : (whole : FlatRun) (n i : ℕ) (machine : Machine) (memory : List ℕ) → RunsOn whole n i machine memory
    → n ≤ i → i ≤ n → EndsAs whole n OutOfBudget machine.files.output
runs_out whole n i machine memory run low high = ends_as whole _ OutOfBudget
    (run_ends_with_budget whole n i machine memory run low high) refl
