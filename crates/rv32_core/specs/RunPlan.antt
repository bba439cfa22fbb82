-- A whole run as one plan: the plans of its instructions, one after another.
use Rattle.std.specs.Prelude.{ℕ, ◌+◌, List, zero, suc}
use Rattle.request_plan.specs.Plan.{Plan, Done as Outcome, bind}
use Rattle.rv32_core.specs.Access.{Access}
use Rattle.rv32_core.specs.FlatRun.{FlatEnding, Exited, Trapped, Budget, FlatRun}
use Rattle.rv32_core.specs.Machine.{Machine}
use Rattle.rv32_core.specs.StepPlan.{step_plan}
use Rattle.rv32_core.specs.declared.outcome.Ended.{Ended}
use Rattle.rv32_core.specs.declared.outcome.Ended.TheVariants.{No, Exit, Trap}

-- How many instructions finished, the machine then, and how the run ended.
pub record RunEnd : Type 0 where
  pub instructions : ℕ
  pub machine : Machine
  pub ending : FlatEnding

-- a flat run without its bytes
abbrev pub end_of : FlatRun → RunEnd
end_of run = record { instructions = run.instructions; machine = run.machine; ending = run.ending }

-- A plan of a run. Where a request is stopped, it leaves how many instructions are finished, and the machine after
-- them.
abbrev pub MachineRun : Type 0
MachineRun = Plan Access (List ℕ) (ℕ × Machine) RunEnd

-- a run after an instruction, before which so many finished, where rest is the run from there
abbrev pub after_instruction : ℕ → (Machine → MachineRun) → Machine → Ended → MachineRun
after_instruction before rest machine No = rest machine
after_instruction before rest machine (Exit status) =
    Outcome (record { instructions = before + 1; machine = machine; ending = Exited status })
after_instruction before rest machine (Trap kind pc) =
    Outcome (record { instructions = before; machine = machine; ending = Trapped kind pc })

-- The run of at most so many instructions more, before which so many finished.
unfoldable pub run_plan : ℕ → ℕ → Machine → MachineRun
run_plan zero before machine = Outcome (record { instructions = before; machine = machine; ending = Budget })
run_plan (suc n) before machine =
    bind (λ left. (before, left)) (step_plan machine)
    (λ end. after_instruction before (run_plan n (before + 1)) (end.0) ((end.1).ended))
