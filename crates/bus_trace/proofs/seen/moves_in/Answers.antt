use Rattle.std.proofs.Common.{arith}
use Rattle.asc_base.specs.TreeShape.{olat_of}
use Rattle.bus_trace.proofs.Counts.{moves_split}
use Rattle.bus_trace.proofs.seen.moves_in.Goals as goal

pub overflow_sub-result : goal.overflow_sub-result
overflow_sub-result c =
    omega (
      arith,
      moves_split c.args.start (olat_of c.args.levels) c.args.moves.now,
      c.moves_before.ensures,
      c.moves_before-2.ensures,
    )

pub returns : goal.returns
returns c =
    omega (
      arith,
      moves_split c.args.start (olat_of c.args.levels) c.args.moves.now,
      c.moves_before.ensures,
      c.moves_before-2.ensures,
    )
