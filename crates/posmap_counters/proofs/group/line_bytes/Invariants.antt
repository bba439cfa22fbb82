use Rattle.std.proofs.Common.{◌≡◌, ◌+◌, ◌*◌, ◌++◌, take, length}
use Rattle.std.specs.Int.Digits.{number_from_digits}
use Rattle.posmap_counters.specs.Digits.{digits}
use Rattle.posmap_counters.proofs.group.line_bytes.Given as goal

abbrev pub invariant-loop-piece : goal.invariant-loop-piece
invariant-loop-piece l =
    (length l.line ≡ 64)
    × (take (8 + 7 * l.piece) l.line ≡ digits 256 8 l.group
    ++ digits 256 (7 * l.piece) (number_from_digits 16384 (take (4 * l.piece) l.own)))
