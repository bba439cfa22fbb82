use Rattle.std.proofs.Common.{◌≡◌, ◌*◌, take, drop, length}
use Rattle.std.specs.Int.Digits.{number_from_digits}
use Rattle.posmap_counters.specs.Digits.{digits}
use Rattle.posmap_counters.proofs.group.own_counts.Given as goal

abbrev pub invariant-loop-piece : goal.invariant-loop-piece
invariant-loop-piece l =
    (length l.own ≡ 32)
    × (take (4 * l.piece) l.own ≡ digits 16384 (4 * l.piece)
    (number_from_digits 256 (take (7 * l.piece) (drop 8 l.line))))
