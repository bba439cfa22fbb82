-- Which leaf a table gives a point.
use Rattle.std.specs.Prelude.{ℕ, ◌^◌, ◌<◌, List, Bool, false, ◌==◌, ◌&&◌, find, All}
use Rattle.std.specs.Option.{option_map_or}
use Rattle.asc_base.specs.declared.block.Leaf.{Leaf}
use Rattle.asc_base.specs.declared.block.Point.{Point}
use Rattle.asc_base.specs.declared.block.Point.TheVariants.{Real, Dummy}

-- what is seen of a table: its pairs in order, the leaf of every other point, and the levels of its tree below the root
pub record Table : Type 0 where
  pub pairs : List (Point × Leaf)
  pub rest : ℕ
  pub levels : ℕ

-- whether two points are the same
abbrev pub same_point : Point → Point → Bool
same_point (Real a c) (Real b d) = (a.0 == b.0) && (c.group == d.group) && (c.own == d.own)
same_point (Dummy m) (Dummy n) = m == n
same_point _ _ = false

-- the leaf of the first pair that has the point, or the rest's
abbrev pub table_leaf : Table → Point → ℕ
table_leaf table point =
    option_map_or (λ pair. pair.1.0) (find (λ pair. same_point pair.0 point) table.pairs) table.rest

-- every leaf is one of the tree's
abbrev pub AllBelow : List (Point × Leaf) → ℕ → Type 0
AllBelow pairs levels = All (λ pair. pair.1.0 < 2 ^ levels) pairs
