-- Flat runs step by step: where so many instructions finished, and the run of what is left gives the whole.
use Rattle.std.proofs.Common.{◌≡◌, ℕ, ◌+◌, ◌-◌, ◌<◌, ◌≤◌, List, refl, sym, ap, subst, ◌∙◌, arith, zero, suc}
use Rattle.rv32_core.specs.Machine.{Machine}
use Rattle.rv32_core.specs.FlatMachine.{FlatStep, flat_step}
use Rattle.rv32_core.specs.FlatRun.{FlatEnding, Exited, Trapped, Budget, FlatRun, finished_before, run_from, flat_run}
use Rattle.rv32_core.specs.FlatRun.{gone_on_from, gone_on}
use Rattle.rv32_core.specs.declared.outcome.Ended.{Ended}
use Rattle.rv32_core.specs.declared.outcome.Ended.TheVariants.{No, Exit, Trap}
use Rattle.rv32_core.specs.declared.outcome.TrapKind.{TrapKind}

-- with no instruction left
pub flat_run-zero : (machine : Machine) (memory : List ℕ)
    → flat_run 0 machine memory ≡ record { instructions = 0; machine = machine; memory = memory; ending = Budget }
unfolding flat_run
flat_run-zero machine memory = refl

-- one step first
pub flat_run-suc : (n : ℕ) (machine : Machine) (memory : List ℕ)
    → flat_run (suc n) machine memory ≡ run_from (flat_run n) (flat_step machine memory)
    ((flat_step machine memory).done.ended)
unfolding flat_run
flat_run-suc n machine memory = refl

-- one step first, where some are left
pub flat_run-next : (n i : ℕ) (machine : Machine) (memory : List ℕ) → i < n
    → flat_run (n - i) machine memory ≡ run_from (flat_run (n - (i + 1))) (flat_step machine memory)
    ((flat_step machine memory).done.ended)
flat_run-next n i machine memory left =
    ap (λ k. flat_run k machine memory) (let e : n - i ≡ suc (n - (i + 1)) = omega arith in e)
    ∙ flat_run-suc (n - (i + 1)) machine memory

-- the same, where the step is known
flat_run-step : (n i : ℕ) (machine : Machine) (memory : List ℕ) (step : FlatStep) → i < n
    → flat_step machine memory ≡ step
    → flat_run (n - i) machine memory ≡ run_from (flat_run (n - (i + 1))) step (step.done.ended)
flat_run-step n i machine memory step left e =
    flat_run-next n i machine memory left ∙ ap (λ (s : FlatStep). run_from (flat_run (n - (i + 1))) s (s.done.ended)) e

-- so many before, and one more
pub finished_before-one : (i : ℕ) (run : FlatRun) → finished_before i (finished_before 1 run)
    ≡ finished_before (i + 1) run
finished_before-one i run =
    ap (λ (k : ℕ). let r : FlatRun = record run { instructions = k } in r)
    (let e : i + (1 + run.instructions) ≡ (i + 1) + run.instructions = omega arith in e)

-- the run of one step that ends so
pub run_from-ended : (rest : Machine → List ℕ → FlatRun) (step : FlatStep) (ended : Ended) → step.done.ended ≡ ended
    → run_from rest step (step.done.ended) ≡ run_from rest step ended
run_from-ended rest step ended e = ap (run_from rest step) e

-- The whole run, of which i instructions finished with this machine and these bytes.
pub record RunsOn (whole : FlatRun) (n i : ℕ) (machine : Machine) (memory : List ℕ) : Type 0 where
  pub is : whole ≡ finished_before i (flat_run (n - i) machine memory)

-- at its start
pub runs_on_from_start : (n : ℕ) (machine : Machine) (memory : List ℕ)
    → RunsOn (flat_run n machine memory) n 0 machine memory
runs_on_from_start n machine memory = record {
  is =
      ap (λ k. flat_run k machine memory) (let e : n ≡ n - 0 = omega arith in e)
      ∙ ap (λ (k : ℕ). let r : FlatRun = record (flat_run (n - 0) machine memory) { instructions = k } in r)
      (let e : (flat_run (n - 0) machine memory).instructions ≡ 0
      + (flat_run (n - 0) machine memory).instructions = omega arith in e);
}

-- after one more step that goes on
pub runs_on_after_step : (whole : FlatRun) (n i : ℕ) (machine next : Machine) (memory after : List ℕ) (cost : ℕ)
    → RunsOn whole n i machine memory → i < n
    → flat_step machine memory ≡ record { machine = next; memory = after; done = record { ended = No; cost = cost } }
    → RunsOn whole n (i + 1) next after
runs_on_after_step whole n i machine next memory after cost run left e = record {
  is = run.is ∙ ap (finished_before i) (flat_run-step n i machine memory _ left e)
      ∙ finished_before-one i (flat_run (n - (i + 1)) next after);
}

-- an exit ends it, and counts
pub run_ends_with_exit : (whole : FlatRun) (n i : ℕ) (machine next : Machine) (memory after : List ℕ) (status cost : ℕ)
    → RunsOn whole n i machine memory → i < n
    → flat_step machine memory ≡ record {
      machine = next;
      memory = after;
      done = record { ended = Exit status; cost = cost };
    }
    → whole ≡ record { instructions = i + 1; machine = next; memory = after; ending = Exited status }
run_ends_with_exit whole n i machine next memory after status cost run left e =
    run.is ∙ ap (finished_before i) (flat_run-step n i machine memory _ left e)

-- a trap ends it, and doesn't count
pub run_ends_with_trap : (whole : FlatRun) (n i : ℕ) (machine next : Machine) (memory after : List ℕ)
    (kind : TrapKind) (pc cost : ℕ)
    → RunsOn whole n i machine memory → i < n
    → flat_step machine memory ≡ record {
      machine = next;
      memory = after;
      done = record { ended = Trap kind pc; cost = cost };
    }
    → whole ≡ record { instructions = i; machine = next; memory = after; ending = Trapped kind pc }
run_ends_with_trap whole n i machine next memory after kind pc cost run left e =
    run.is ∙ ap (finished_before i) (flat_run-step n i machine memory _ left e)
    ∙ ap (λ (k : ℕ). let r : FlatRun = record {
      instructions = k;
      machine = next;
      memory = after;
      ending = Trapped kind pc;
    } in r)
    (let e : i + 0 ≡ i = omega arith in e)

-- with all its instructions finished it ends with Budget
pub run_ends_with_budget : (whole : FlatRun) (n i : ℕ) (machine : Machine) (memory : List ℕ)
    → RunsOn whole n i machine memory → n ≤ i → i ≤ n
    → whole ≡ record { instructions = n; machine = machine; memory = memory; ending = Budget }
run_ends_with_budget whole n i machine memory run low high =
    run.is
    ∙ ap (λ k. finished_before i (flat_run k machine memory)) (let e : n - i ≡ 0 = omega arith in e)
    ∙ ap (finished_before i) (flat_run-zero machine memory)
    ∙ ap (λ (k : ℕ). let r : FlatRun = record {
      instructions = k;
      machine = machine;
      memory = memory;
      ending = Budget;
    } in r)
    (let e : i + 0 ≡ n = omega arith in e)

-- no run finishes more instructions than it may
pub flat_run-instructions : (n : ℕ) (machine : Machine) (memory : List ℕ) → (flat_run n machine memory).instructions ≤ n
flat_run-instructions zero machine memory = subst (λ (r : FlatRun). r.instructions ≤ 0)
    (sym (flat_run-zero machine memory)) (omega arith)
flat_run-instructions (suc n) machine memory =
    subst (λ (r : FlatRun). r.instructions ≤ suc n) (sym (flat_run-suc n machine memory))
    (at_most n (flat_run n) (flat_run-instructions n) (flat_step machine memory)
    ((flat_step machine memory).done.ended))
  where
    at_most : (n : ℕ) (rest : Machine → List ℕ → FlatRun) → ((m : Machine) (b : List ℕ) → (rest m b).instructions ≤ n)
        → (step : FlatStep) (ended : Ended) → (run_from rest step ended).instructions ≤ suc n
    at_most n rest each step No = omega (arith, each step.machine step.memory)
    at_most n rest each step (Exit status) = omega arith
    at_most n rest each step (Trap kind pc) = omega arith

-- ---- runs in parts
-- none before
finished_before-none : (run : FlatRun) → finished_before 0 run ≡ run
finished_before-none run =
    ap (λ (k : ℕ). let r : FlatRun = record run { instructions = k } in r)
    (let e : 0 + run.instructions ≡ run.instructions = omega arith in e)

-- so many before, and so many more
finished_before-twice : (i k : ℕ) (run : FlatRun) → finished_before i (finished_before k run)
    ≡ finished_before (i + k) run
finished_before-twice i k run =
    ap (λ (n : ℕ). let r : FlatRun = record run { instructions = n } in r)
    (let e : i + (k + run.instructions) ≡ (i + k) + run.instructions = omega arith in e)

-- one before a run that goes on
gone_on-one : (more : ℕ) (run : FlatRun) (ending : FlatEnding)
    → finished_before 1 (gone_on_from more run ending) ≡ gone_on_from more (finished_before 1 run) ending
gone_on-one more run Budget = finished_before-twice 1 run.instructions (flat_run more run.machine run.memory)
gone_on-one more run (Exited status) = refl
gone_on-one more run (Trapped kind pc) = refl

-- the run from a step on
gone_on-from : (n more : ℕ) (step : FlatStep) (ended : Ended)
    → flat_run (n + more) step.machine step.memory ≡ gone_on more (flat_run n step.machine step.memory)
    → run_from (flat_run (n + more)) step ended ≡ gone_on more (run_from (flat_run n) step ended)
gone_on-from n more step No later =
    ap (finished_before 1) later
    ∙ gone_on-one more (flat_run n step.machine step.memory) ((flat_run n step.machine step.memory).ending)
gone_on-from n more step (Exit status) later = refl
gone_on-from n more step (Trap kind pc) later = refl

-- the run of n instructions and of k more is that of n + k
pub flat_run-goes_on : (n more : ℕ) (machine : Machine) (memory : List ℕ)
    → flat_run (n + more) machine memory ≡ gone_on more (flat_run n machine memory)
flat_run-goes_on zero more machine memory =
    ap (λ k. flat_run k machine memory) (let e : 0 + more ≡ more = omega arith in e)
    ∙ sym (finished_before-none (flat_run more machine memory))
    ∙ ap (gone_on more) (sym (flat_run-zero machine memory))
flat_run-goes_on (suc n) more machine memory =
    let step : FlatStep = flat_step machine memory in
    ap (λ k. flat_run k machine memory) (let e : suc n + more ≡ suc (n + more) = omega arith in e)
    ∙ flat_run-suc (n + more) machine memory
    ∙ gone_on-from n more step step.done.ended (flat_run-goes_on n more step.machine step.memory)
    ∙ ap (gone_on more) (sym (flat_run-suc n machine memory))

-- with Budget all its instructions finished
budget-from : (n : ℕ) (step : FlatStep) (ended : Ended)
    → ((flat_run n step.machine step.memory).ending ≡ Budget → (flat_run n step.machine step.memory).instructions ≡ n)
    → (run_from (flat_run n) step ended).ending ≡ Budget → (run_from (flat_run n) step ended).instructions ≡ suc n
budget-from n step No later budget = let all : (flat_run n step.machine step.memory).instructions
    ≡ n = later budget in omega arith
budget-from n step (Exit status) later budget = absurd (cc)
budget-from n step (Trap kind pc) later budget = absurd (cc)

pub flat_run-budget : (n : ℕ) (machine : Machine) (memory : List ℕ) → (flat_run n machine memory).ending ≡ Budget
    → (flat_run n machine memory).instructions ≡ n
flat_run-budget zero machine memory budget = ap (λ (r : FlatRun). r.instructions) (flat_run-zero machine memory)
flat_run-budget (suc n) machine memory budget =
    let step : FlatStep = flat_step machine memory in
    subst (λ (r : FlatRun). r.instructions ≡ suc n) (sym (flat_run-suc n machine memory))
    (budget-from n step step.done.ended (flat_run-budget n step.machine step.memory)
    (ap (λ (r : FlatRun). r.ending) (sym (flat_run-suc n machine memory)) ∙ budget))
