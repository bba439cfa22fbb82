-- What is known of a shape.
use Rattle.std.specs.Prelude.{nat_le}
use Rattle.std.proofs.Common.{◌≡◌, ℕ, ◌+◌, ◌^◌, ◌<◌, ◌≤◌, get_or, refl, sym, subst, inl, inr, arith}
use Rattle.std.proofs.Math.Pow.{pow_mono}
use Rattle.std.proofs.lemmas.Nat.{pow_pos}
use Rattle.std.proofs.lemmas.Bool.{cases_lt, le-leb, lt-leb, leb-true, leb-false}
use Rattle.asc_base.specs.declared.shape.Shape.{Shape}
use Rattle.asc_base.specs.Shape.{IsShape, shape_of, layered}
use Rattle.asc_base.specs.TreeShape.{layer_count, layer_first, top_layer, levels_of, buckets_of}
use Rattle.asc_base.proofs.Extremes.{least_is, least_holds, least_below}
use Rattle.asc_base.proofs.Layers.{small_layers, layer_count-zero, layer_count-next, layer_count-pos, count_falls}
use Rattle.asc_base.proofs.Layers.{layer_first-le, layer_first-zero, layer_first-next}
use Rattle.asc_base.proofs.Levels.{IsLevel, levels_of_level}
use Rattle.asc_base.proofs.Places.{get_or-places}

-- the parts of a shape, by its lines and its layers
pub record IsLayered (shape : Shape) : Type 0 where
  pub lines_from : 1 ≤ shape.lines
  pub lines_to : shape.lines ≤ 262144
  pub layers_from : 1 ≤ shape.layers
  pub layers_to : shape.layers ≤ 5
  pub total_from : shape.lines ≤ shape.total
  pub total_to : shape.total ≤ 270601
  pub total : shape.total ≡ layer_first shape.lines shape.layers
  pub firsts : (layer : ℕ) → layer < shape.layers → get_or shape.firsts layer 0 ≡ layer_first shape.lines layer
  pub counts : (layer : ℕ) → layer < shape.layers → get_or shape.counts layer 0 ≡ layer_count shape.lines layer
  pub levels : shape.levels ≡ levels_of shape.total
  pub levels_from : 1 ≤ shape.levels
  pub levels_to : shape.levels ≤ 17
  pub buckets : shape.buckets + 1 ≡ 2 ^ (shape.levels + 1)
  pub buckets_to : shape.buckets ≤ 262143

-- the leaves of so few blocks are no deeper
pub level_to : (total levels : ℕ) → total ≤ 270601 → IsLevel total levels → levels ≤ 17
level_to total levels few h =
    elim (cases_lt 17 levels) [
      | inl deep ↦ elim h.room [
        | inl one ↦ absurd (omega arith)
        | inr room ↦ absurd (omega (arith, room, pow_mono {i = 19} {j = levels + 1} (omega arith)))
      ]
      | inr flat ↦ flat
    ]

-- the top layer is one of five, and has at most so many blocks as roots
pub top_layer-le : (lines roots : ℕ) → 1 ≤ lines → lines ≤ 262144 → 1 ≤ roots
    → (top_layer lines roots ≤ 4) × (layer_count lines (top_layer lines roots) ≤ roots)
unfolding top_layer
top_layer-le lines roots some within rooted =
    elim (cases_lt lines 4) [
      | inl few ↦
          (let low = least_holds (λ layer. nat_le (layer_count lines layer) roots) lines 1 (omega arith)
          (le-leb _ _ (omega (arith, layer_count-next lines 0, layer_count-zero lines))) in
          (omega (arith, low.0), leb-true _ _ low.1))
      | inr many ↦
          (let small = small_layers lines within in
          let low = least_holds (λ layer. nat_le (layer_count lines layer) roots) lines 4 many
          (le-leb _ _ (omega (arith, small.fourth))) in
          (low.0, leb-true _ _ low.1))
    ]

-- of any lines, the top layer is the first with at most so many blocks as roots
pub top_layer_first : (lines roots : ℕ) → 1 ≤ lines → 1 ≤ roots
    → (layer_count lines (top_layer lines roots) ≤ roots)
    × ((low : ℕ) → low < top_layer lines roots → roots < layer_count lines low)
unfolding top_layer
top_layer_first lines roots some rooted =
    let last : layer_count lines lines ≤ roots = elim (count_falls lines lines some) [
      | inl one ↦ omega arith
      | inr low ↦ absurd (omega (arith, layer_count-pos lines lines some))
    ] in
    let low = least_holds (λ layer. nat_le (layer_count lines layer) roots) lines lines (omega arith)
    (le-leb _ _ last) in (
      leb-true _ _ low.1,
      λ layer below. leb-false _ _ (least_below (λ layer. nat_le (layer_count lines layer) roots) lines layer below),
    )

-- the top layer is the one with at most so many blocks, where all below have more
pub top_layer_is : (lines roots layer : ℕ) → 1 ≤ lines → 1 ≤ roots
    → layer_count lines layer ≤ roots → ((low : ℕ) → low < layer → roots < layer_count lines low)
    → top_layer lines roots ≡ layer
unfolding top_layer
top_layer_is lines roots layer some rooted fits more =
    elim (cases_lt lines layer) [
      | inl far ↦ elim (count_falls lines lines some) [
        | inl one ↦ absurd (omega (arith, more lines far))
        | inr low ↦ absurd (omega (arith, layer_count-pos lines lines some))
      ]
      | inr near ↦
          least_is (λ layer. nat_le (layer_count lines layer) roots) lines layer near (le-leb _ _ fits)
          (λ low below. lt-leb _ _ (more low below))
    ]

pub shape_of_layered : (lines roots : ℕ) → 1 ≤ lines → lines ≤ 262144 → 1 ≤ roots → IsLayered (shape_of lines roots)
unfolding shape_of layered buckets_of
shape_of_layered lines roots some within rooted =
    let top = top_layer-le lines roots some within rooted in
    let small = small_layers lines within in
    let level = levels_of_level (layer_first lines (top_layer lines roots + 1)) in
    let total = layer_first-le lines (top_layer lines roots + 1) 5 (omega (arith, top.0)) in
    let most : levels_of (layer_first lines (top_layer lines roots + 1)) ≤ 17 =
    level_to (layer_first lines (top_layer lines roots + 1)) _ (omega (arith, total, small.total)) level in
    let buckets = pow_mono {i = levels_of (layer_first lines (top_layer lines roots + 1)) + 1} {j = 18} (omega arith) in
    let some_buckets = pow_pos (levels_of (layer_first lines (top_layer lines roots + 1)) + 1) in
    record {
      lines_from = some;
      lines_to = within;
      layers_from = omega arith;
      layers_to = omega (arith, top.0);
      total_from = omega (
        arith,
        layer_first-le lines 1 (top_layer lines roots + 1) (omega arith),
        layer_first-next lines 0,
        layer_first-zero lines,
        layer_count-zero lines,
      );
      total_to = omega (arith, total, small.total);
      total = refl;
      firsts = λ layer below. get_or-places (layer_first lines) (top_layer lines roots + 1) layer below
          (omega (arith, top.0));
      counts = λ layer below. get_or-places (layer_count lines) (top_layer lines roots + 1) layer below
          (omega (arith, top.0));
      levels = refl;
      levels_from = level.some;
      levels_to = most;
      buckets = omega (arith, some_buckets);
      buckets_to = omega (arith, buckets, some_buckets);
    }

-- what is known of a shape
pub shape_layered : (shape : Shape) → IsShape shape → IsLayered shape
shape_layered shape h =
    let P : Shape → Type 0 = IsLayered in
    subst P (sym h.rooted.2) (shape_of_layered shape.lines h.rooted.0 h.lines_from h.lines_to h.rooted.1)
