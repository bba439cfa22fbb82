use Rattle.std.proofs.Common.{arith}
use Rattle.posmap_counters.specs.Group.{group_of}
use Rattle.posmap_counters.proofs.PieceLaws.{number_front}
use Rattle.posmap_counters.proofs.group.group_count.Goals as goal

pub returns : goal.returns
unfolding group_of
returns c = omega (
  arith,
  c.from_be_bytes.ensures,
  c.told-line,
  number_front c.args.line.now
      (omega (arith, c.told-line)),
)
