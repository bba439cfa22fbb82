-- What every leaf has.
use Rattle.std.proofs.Common.{ℕ, ◌^◌, ◌<◌, List}
use Rattle.std.proofs.lemmas.Nat.{mod_below, pow_pos}
use Rattle.asc_base.specs.declared.block.Point.{Point}
use Rattle.leaf_function.specs.Leaf.{leaf}

-- a key's leaf is one of the tree's, whatever the numbers of the point
pub leaf_below : (key : List ℕ) (levels : ℕ) (point : Point) → leaf key levels point < 2 ^ levels
unfolding leaf
leaf_below key levels point = mod_below _ (2 ^ levels) (pow_pos levels)
