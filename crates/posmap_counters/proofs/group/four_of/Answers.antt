use Rattle.std.proofs.Common.{arith}
use Rattle.std.specs.Int.Digits.{number_from_digits}
use Rattle.posmap_counters.proofs.DigitLaws.{number_below}
use Rattle.posmap_counters.proofs.PieceLaws.{four_is, number_7, bytes_fit}
use Rattle.posmap_counters.proofs.group.four_of.Goals as goal

pub returns : goal.returns
returns c =
    four_is (number_from_digits 256 c.args.seven.now) c.from_be_bytes-number.result
    (omega (arith, c.from_be_bytes-number.ensures, number_7 c.args.seven.now c.requires))
    (rw c.requires at (number_below 256 c.args.seven.now (bytes_fit c.args.seven.now c.type_inv.seven)))
