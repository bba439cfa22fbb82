-- Shapes, and their blocks and paths.
use Rattle.std.specs.Prelude.{◌≡◌, ℕ, ◌+◌, ◌≤◌, ◌<◌, List, [], ◌∷◌, map, nat_lt, Option, if◌then◌else◌}
use Rattle.std.specs.Option.{option_map}
use Rattle.asc_base.specs.TreeShape.{layer_count, layer_first, top_layer, levels_of, buckets_of, parent_of, children_of}
use Rattle.asc_base.specs.declared.block.Address.{Address}
use Rattle.asc_base.specs.declared.shape.Shape.{Shape}

-- a number for each of so many layers, and 0 in those of the five places that are left
unfoldable pub places_of : (ℕ → ℕ) → ℕ → List ℕ
places_of value layers = map (λ layer. (if nat_lt layer layers then value layer else 0)) (0 ∷ 1 ∷ 2 ∷ 3 ∷ 4 ∷ [])

-- the shape over so many lines and layers
unfoldable pub layered : ℕ → ℕ → Shape
layered lines layers = record {
  lines = lines;
  layers = layers;
  firsts = places_of (layer_first lines) layers;
  counts = places_of (layer_count lines) layers;
  levels = levels_of (layer_first lines layers);
  total = layer_first lines layers;
  buckets = buckets_of (levels_of (layer_first lines layers));
}

-- the shape of so many lines under at most so many roots
unfoldable pub shape_of : ℕ → ℕ → Shape
shape_of lines roots = layered lines (top_layer lines roots + 1)

-- a shape that there is: of 1 to 262,144 lines, under some number of roots
pub record IsShape (shape : Shape) : Type 0 where
  pub lines_from : 1 ≤ shape.lines
  pub lines_to : shape.lines ≤ 262144
  pub rooted : (roots : ℕ) × (1 ≤ roots) × (shape ≡ shape_of shape.lines roots)

-- the block is one of the shape
abbrev pub IsAddress : Shape → Address → Type 0
IsAddress shape address = address.0 < shape.total

-- the parent of a block, and none of a block of the top layer
abbrev pub parent_in : Shape → Address → Option Address
parent_in shape address = option_map (λ n. record { 0 = n }) (parent_of shape.lines shape.layers address.0)

-- the first child of a block and the number of its children, and none of a data line
abbrev pub children_in : Shape → Address → Option (Address × ℕ)
children_in shape address =
    option_map (λ (first, number). (record { 0 = first }, number)) (children_of shape.lines shape.layers address.0)
