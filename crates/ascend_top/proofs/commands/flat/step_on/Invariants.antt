use Rattle.std.proofs.Common.{◌≡◌, length}
use Rattle.rv32_core.specs.FlatRun.{flat_run}
use Rattle.rv32_core.specs.StepPlan.{machine_of}
use Rattle.rv32_core.proofs.FlatRunLaws.{RunsOn}
use Rattle.ascend_top.proofs.commands.flat.step_on.Given as goal

-- the run of what is left completes the whole
abbrev pub invariant-loop-finished : goal.invariant-loop-finished
invariant-loop-finished l = record {
  base : l.bytes.base ≡ l.core.base;
  size : length l.bytes.bytes ≡ l.core.size;
  run : RunsOn (flat_run l.budget (machine_of l.fn.core l.fn.files) l.fn.bytes.bytes) l.budget l.finished
      (machine_of l.core l.files) l.bytes.bytes;
}
