use Rattle.std.proofs.Common.{arith, ◌∙◌, sym}
use Rattle.rv32_core.specs.StepPlan.{machine_of}
use Rattle.ascend_top.proofs.FlatLaws.{goes_on, exits, traps, runs_out}
use Rattle.ascend_top.proofs.commands.flat.step_on.Goals as goal

pub loop-finished-preserved : goal.loop-finished-preserved
loop-finished-preserved c = record {
  base = c.in-Ok.ensures.bytes_base ∙ c.loop-finished.invariant.base ∙ sym c.in-Ok.ensures.same_base;
  size = c.in-Ok.ensures.bytes_size ∙ c.loop-finished.invariant.size ∙ sym c.in-Ok.ensures.same_size;
  run = goes_on _ c.args.budget c.loop-finished.finished _ (machine_of c.step.new.self c.step.new.files) _
      c.step.new.bytes.bytes c.in-Ok.done c.loop-finished.invariant.run (omega arith) c.in-Ok.ensures.told c.in-No.is;
}

pub returns-in-Exit : goal.returns-in-Exit
returns-in-Exit c = exits _ c.args.budget c.loop-finished.finished _ (machine_of c.step.new.self c.step.new.files) _
    c.step.new.bytes.bytes c.in-Ok.done c.loop-finished.invariant.run (omega arith) c.in-Ok.ensures.told
    c.in-Exit.status c.in-Exit.is

pub returns-in-Trap : goal.returns-in-Trap
returns-in-Trap c = traps _ c.args.budget c.loop-finished.finished _ (machine_of c.step.new.self c.step.new.files) _
    c.step.new.bytes.bytes c.in-Ok.done c.loop-finished.invariant.run (omega arith) c.in-Ok.ensures.told
    c.in-Trap.kind c.in-Trap.pc c.in-Trap.is

pub returns : goal.returns
returns c = runs_out _ c.args.budget c.loop-finished.finished (machine_of c.loop-finished.core c.loop-finished.files)
    c.loop-finished.bytes.bytes c.loop-finished.invariant.run (omega arith) (omega arith)
