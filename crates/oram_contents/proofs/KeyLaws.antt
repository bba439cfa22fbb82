-- The keys of a chip are keys.
use Rattle.std.proofs.Common.{◌≤◌, ℕ, List, refl}
use Rattle.asc_base.specs.Shape.{IsShape, shape_of, layered}
use Rattle.asc_base.specs.declared.shape.Shape.{Shape}
use Rattle.leaf_function.proofs.Leaves.{leaf_below}
use Rattle.oram_contents.specs.Entries.{AreKeys, keys_by}

pub lawful_keys : (shape : Shape) (pads tags leaves : List ℕ) → IsShape shape → AreKeys (keys_by shape pads tags leaves)
lawful_keys shape pads tags leaves is = record {
  shape = is;
  leaves = λ point. leaf_below leaves shape.levels point;
}

shape_is : (lines roots : ℕ) → 1 ≤ lines → lines ≤ 262144 → 1 ≤ roots → IsShape (shape_of lines roots)
unfolding shape_of layered
shape_is lines roots from to some = record { lines_from = from; lines_to = to; rooted = (roots, some, refl) }

pub sized_keys : (lines roots : ℕ) (pads tags leaves : List ℕ) → 1 ≤ lines → lines ≤ 262144 → 1 ≤ roots
    → AreKeys (keys_by (shape_of lines roots) pads tags leaves)
sized_keys lines roots pads tags leaves from to some = lawful_keys (shape_of lines roots) pads tags leaves
    (shape_is lines roots from to some)
