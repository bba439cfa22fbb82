use Rattle.std.proofs.Common.{arith}
use Rattle.std.specs.Int.Digits.{number_from_digits}
use Rattle.posmap_counters.proofs.PieceLaws.{packed_is, number_4}
use Rattle.posmap_counters.proofs.group.packed.Goals as goal

pub returns : goal.returns
returns c =
    packed_is c.to_be_bytes-bytes.result (number_from_digits 16384 c.args.four.now) _ c.to_be_bytes-bytes.ensures
    (omega (arith, number_4 16384 c.args.four.now c.requires.four))
