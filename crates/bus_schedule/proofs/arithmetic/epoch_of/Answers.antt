use Rattle.std.proofs.Common.{sym, arith}
use Rattle.bus_schedule.proofs.Epochs.{epoch_at-is, epoch-twice, epoch-most}
use Rattle.bus_schedule.proofs.arithmetic.epoch_of.Goals as goal

pub overflow_add-epoch : goal.overflow_add-epoch
overflow_add-epoch c =
    omega (
      arith,
      epoch-most c.args.b0 c.loop-end.epoch c.args.time c.requires.some c.loop-end.invariant.from c.requires.time,
    )

pub loop-end-preserved : goal.loop-end-preserved
loop-end-preserved c = record {
  from = omega (arith, c.loop-end.invariant.end, c.loop-end-test.true);
  end = omega (arith, c.loop-end.invariant.end, epoch-twice c.args.b0 c.loop-end.epoch);
}

pub returns : goal.returns
returns c =
    sym (epoch_at-is c.args.b0 c.args.time c.loop-end.epoch c.requires.some c.requires.time c.loop-end.invariant.from
    (omega (arith, c.loop-end.invariant.end, c.loop-end-test.false)))
