use Rattle.std.proofs.Common.{◌≡◌, drop, find}
use Rattle.leaf_function.specs.Table.{same_point}
use Rattle.leaf_function.proofs.table.first_leaf.Given as goal

abbrev pub invariant-loop-pair : goal.invariant-loop-pair
invariant-loop-pair l =
    find (λ pair. same_point pair.0 l.point) (drop l.pair-index l.pairs)
    ≡ find (λ pair. same_point pair.0 l.point) l.pairs
