-- The flat run: steps of the flat machine until an exit, a trap, or so many finished instructions.
use Rattle.std.specs.Prelude.{ℕ, ◌+◌, List, [], zero, suc}
use Rattle.rv32_core.specs.Machine.{Machine, core_at_start}
use Rattle.rv32_core.specs.FlatMachine.{FlatStep, flat_step}
use Rattle.rv32_core.specs.declared.outcome.Ended.{Ended}
use Rattle.rv32_core.specs.declared.outcome.Ended.TheVariants.{No, Exit, Trap}
use Rattle.rv32_core.specs.declared.outcome.TrapKind.{TrapKind}

-- How a flat run ends: with an exit's status, with a trap at a pc, or with its instructions finished.
pub data FlatEnding : Type 0 where
  Exited : ℕ → FlatEnding
  Trapped : TrapKind → ℕ → FlatEnding
  Budget : FlatEnding

-- How many instructions finished, the machine and the bytes then, and how it ended. An exit finishes, a trap doesn't.
pub record FlatRun : Type 0 where
  pub instructions : ℕ
  pub machine : Machine
  pub memory : List ℕ
  pub ending : FlatEnding

-- a run before which so many more instructions finished
abbrev pub finished_before : ℕ → FlatRun → FlatRun
finished_before count run = record run { instructions = count + run.instructions }

-- a run from a step on, where rest is the run from a machine and its bytes
abbrev pub run_from : (Machine → List ℕ → FlatRun) → FlatStep → Ended → FlatRun
run_from rest step No = finished_before 1 (rest step.machine step.memory)
run_from rest step (Exit status) =
    record { instructions = 1; machine = step.machine; memory = step.memory; ending = Exited status }
run_from rest step (Trap kind pc) =
    record { instructions = 0; machine = step.machine; memory = step.memory; ending = Trapped kind pc }

-- The run of at most so many instructions. With none left it ends with Budget, whatever would come next.
unfoldable pub flat_run : ℕ → Machine → List ℕ → FlatRun
flat_run zero machine memory = record { instructions = 0; machine = machine; memory = memory; ending = Budget }
flat_run (suc n) machine memory =
    let step = flat_step machine memory in run_from (flat_run n) step step.done.ended

-- A run that may go on: where its instructions finished with Budget, so many more from there; one that ended stays as
-- it is.
abbrev pub gone_on_from : ℕ → FlatRun → FlatEnding → FlatRun
gone_on_from more run Budget = finished_before run.instructions (flat_run more run.machine run.memory)
gone_on_from more run (Exited status) = run
gone_on_from more run (Trapped kind pc) = run

abbrev pub gone_on : ℕ → FlatRun → FlatRun
gone_on more run = gone_on_from more run run.ending

-- The greatest length of a program's output, in bytes.
abbrev pub output_limit : ℕ
output_limit = 1048576

-- The start: the core's, and of the input nothing was read, and nothing was written.
abbrev pub machine_at_start : (entry base size heap : ℕ) (input : List ℕ) (limit : ℕ) → Machine
machine_at_start entry base size heap input limit = record {
  core = core_at_start entry base size heap;
  files = record { input = input; position = 0; output = []; limit = limit };
}
