-- What a search finds.
use Rattle.std.proofs.Common.{◌≡◌, ℕ, ◌^◌, ◌<◌, Bool, true, false, List, [], ◌∷◌, Option, Some, None, All, IfSome, find}
use Rattle.std.proofs.Common.{option_map, cond}
use Rattle.std.proofs.lemmas.List.Elements.{All-head, All-tail}
use Rattle.asc_base.specs.declared.block.Leaf.{Leaf}
use Rattle.asc_base.specs.declared.block.Point.{Point}
use Rattle.std.specs.Option.{option_map_or}
use Rattle.leaf_function.specs.Table.{AllBelow, Table, same_point, table_leaf}

-- of one of two
either : {X : Type 0} (P : X → Type 0) (b : Bool) (x : X) (r : Option X) → P x → IfSome r P
    → IfSome (cond b (Some x) r) P
either P true x r here later = here
either P false x r here later = later

-- what holds of each element holds of the one that is found
pub IfSome-find : {X : Type 0} (P : X → Type 0) (test : X → Bool) (xs : List X) → All P xs → IfSome (find test xs) P
IfSome-find P test [] all = tt
IfSome-find P test (x ∷ xs) all =
    either P (test x) x (find test xs) (All-head P x xs all) (IfSome-find P test xs (All-tail P x xs all))

-- a leaf of what is found
of : (levels : ℕ) (leaf : Leaf) (found : Option (Point × Leaf)) → IfSome found (λ pair. pair.1.0 < 2 ^ levels)
    → Some leaf ≡ option_map (λ pair. pair.1) found → leaf.0 < 2 ^ levels
of levels leaf None below same = absurd (cc)
of levels leaf (Some pair) below same = let leaves : leaf ≡ pair.1 = cc in rw leaves below

-- the leaf that is found is one of the tree's
pub found_below : (pairs : List (Point × Leaf)) (levels : ℕ) (test : Point × Leaf → Bool) (leaf : Leaf)
    → AllBelow pairs levels → Some leaf ≡ option_map (λ pair. pair.1) (find test pairs) → leaf.0 < 2 ^ levels
found_below pairs levels test leaf all =
    of levels leaf (find test pairs) (IfSome-find (λ pair. pair.1.0 < 2 ^ levels) test pairs all)

-- the leaf of what is found, or the rest's
given : (levels rest : ℕ) (found : Option (Point × Leaf)) → rest < 2 ^ levels
    → IfSome found (λ pair. pair.1.0 < 2 ^ levels) → option_map_or (λ pair. pair.1.0) found rest < 2 ^ levels
given levels rest None others below = others
given levels rest (Some pair) others below = below

-- a table's leaf is one of the tree's, for every point
pub table_leaf_below : (table : Table) (point : Point) → AllBelow table.pairs table.levels
    → table.rest < 2 ^ table.levels → table_leaf table point < 2 ^ table.levels
table_leaf_below table point all rest =
    given table.levels table.rest (find (λ pair. same_point pair.0 point) table.pairs) rest
    (IfSome-find (λ pair. pair.1.0 < 2 ^ table.levels) (λ pair. same_point pair.0 point) table.pairs all)
