-- Layers: their counts, their addresses, and the one in which a block is.
use Rattle.std.specs.Prelude.{nat_le, ◌==◌, ◌≢◌, min, Some, None}
use Rattle.std.proofs.Common.{◌≡◌, ℕ, zero, suc, ◌+◌, ◌-◌, ◌*◌, ◌/◌, ◌<◌, ◌≤◌, ◌⊎◌, refl, ap, inl, inr, arith}
use Rattle.std.proofs.Common.{add-one, true, false}
use Rattle.std.proofs.lemmas.Bool.{cases_lt, le-leb, lt-leb, leb-true, leb-false, eq-eqb, ne_eqb}
use Rattle.asc_base.specs.TreeShape.{layer_count, layer_first, layer_of, index_of, parent_of, children_of, IsInLayer}
use Rattle.asc_base.specs.Greatest.{greatest}
use Rattle.asc_base.proofs.Extremes.{greatest_is, greatest-le, greatest_found, greatest_above}

pub layer_count-zero : (lines : ℕ) → layer_count lines 0 ≡ lines
unfolding layer_count
layer_count-zero lines = refl

pub layer_count-next : (lines layer : ℕ) → layer_count lines (layer + 1) ≡ (layer_count lines layer + 31) / 32
unfolding layer_count
layer_count-next lines layer = rw add-one

pub layer_first-zero : (lines : ℕ) → layer_first lines 0 ≡ 0
unfolding layer_first
layer_first-zero lines = refl

pub layer_first-next : (lines layer : ℕ)
    → layer_first lines (layer + 1) ≡ layer_first lines layer + layer_count lines layer
unfolding layer_first
layer_first-next lines layer = rw add-one

-- no layer is empty
pub layer_count-pos : (lines layer : ℕ) → 1 ≤ lines → 1 ≤ layer_count lines layer
unfolding layer_count
layer_count-pos lines zero some = some
layer_count-pos lines (suc layer) some = omega (arith, layer_count-pos lines layer some)

-- a higher layer has higher addresses
pub layer_first-le : (lines low high : ℕ) → low ≤ high → layer_first lines low ≤ layer_first lines high
unfolding layer_first
layer_first-le lines low zero within = (let same : low ≡ 0 = omega arith in rw same (omega arith))
layer_first-le lines low (suc high) within =
    elim (cases_lt low (suc high)) [
      | inl below ↦ omega (arith, layer_first-le lines low high (omega arith))
      | inr last ↦ (let same : low ≡ suc high = omega arith in rw same (omega arith))
    ]

-- a block is in one layer alone, which is its layer
pub layer_of_is : (lines layers layer address : ℕ) → layer < layers → IsInLayer lines layer address
    → layer_of lines layers address ≡ layer
unfolding layer_of
layer_of_is lines layers layer address within inside =
    greatest_is _ (layers - 1) layer (omega arith) (inr (le-leb _ _ inside.from))
    (λ j over up_to. lt-leb _ _ (omega (arith, layer_first-le lines (layer + 1) j (omega arith), inside.below)))

-- blocks are in layers
pub some_layer : (lines layers address : ℕ) → address < layer_first lines layers → 0 < layers
some_layer lines layers address below =
    elim (cases_lt 0 layers) [
      | inl some ↦ some
      | inr none ↦
          (let same : layers ≡ 0 = omega arith in
          absurd (omega (arith, layer_first-zero lines, ap (layer_first lines) same)))
    ]

-- the layer of a block is one of the layers
pub layer_of-lt : (lines layers address : ℕ) → address < layer_first lines layers
    → layer_of lines layers address < layers
unfolding layer_of
layer_of-lt lines layers address below =
    omega (
      arith,
      some_layer lines layers address below,
      greatest-le (λ layer. nat_le (layer_first lines layer) address) (layers - 1),
    )

-- and the block is in it
layer_of_starts : (lines layers address : ℕ) → address < layer_first lines layers
    → layer_first lines (layer_of lines layers address) ≤ address
unfolding layer_of
layer_of_starts lines layers address below =
    elim (greatest_found (λ layer. nat_le (layer_first lines layer) address) (layers - 1)) [
      | inl lowest ↦ rw lowest (omega (arith, layer_first-zero lines))
      | inr found ↦ leb-true _ _ found
    ]

layer_of_ends : (lines layers address : ℕ) → address < layer_first lines layers
    → address < layer_first lines (layer_of lines layers address + 1)
unfolding layer_of
layer_of_ends lines layers address below =
    let some = some_layer lines layers address below in
    elim (cases_lt (greatest (λ layer. nat_le (layer_first lines layer) address) (layers - 1)) (layers - 1)) [
      | inl under ↦
          leb-false _ _ (greatest_above (λ layer. nat_le (layer_first lines layer) address) (layers - 1)
          (greatest (λ layer. nat_le (layer_first lines layer) address) (layers - 1) + 1) (omega arith) (omega arith))
      | inr top ↦
          (let same : greatest (λ layer. nat_le (layer_first lines layer) address) (layers - 1) + 1 ≡ layers =
          omega (arith, greatest-le (λ layer. nat_le (layer_first lines layer) address) (layers - 1)) in
          rw same below)
    ]

pub layer_of_in : (lines layers address : ℕ) → address < layer_first lines layers
    → IsInLayer lines (layer_of lines layers address) address
layer_of_in lines layers address below =
    record { from = layer_of_starts lines layers address below; below = layer_of_ends lines layers address below }

-- the place of a block in its layer
pub index_of-lt : (lines layers address : ℕ) → address < layer_first lines layers
    → (index_of lines layers address < layer_count lines (layer_of lines layers address))
    × (layer_first lines (layer_of lines layers address) + index_of lines layers address ≡ address)
unfolding index_of
index_of-lt lines layers address below =
    let inside = layer_of_in lines layers address below in
    let next = layer_first-next lines (layer_of lines layers address) in
    (omega arith, omega arith)

pub index_of_is : (lines layers layer address : ℕ) → layer < layers → IsInLayer lines layer address
    → index_of lines layers address ≡ address - layer_first lines layer
unfolding index_of
index_of_is lines layers layer address within inside = rw (layer_of_is lines layers layer address within inside)

-- the layers of at most 262,144 lines
pub record AreSmall (lines : ℕ) : Type 0 where
  pub zeroth : layer_count lines 0 ≤ 262144
  pub first : layer_count lines 1 ≤ 8192
  pub second : layer_count lines 2 ≤ 256
  pub third : layer_count lines 3 ≤ 8
  pub fourth : layer_count lines 4 ≤ 1
  pub total : layer_first lines 5 ≤ 270601

pub small_layers : (lines : ℕ) → lines ≤ 262144 → AreSmall lines
small_layers lines within =
    let c0 = layer_count-zero lines in
    let c1 = layer_count-next lines 0 in
    let c2 = layer_count-next lines 1 in
    let c3 = layer_count-next lines 2 in
    let c4 = layer_count-next lines 3 in
    let f0 = layer_first-zero lines in
    let f1 = layer_first-next lines 0 in
    let f2 = layer_first-next lines 1 in
    let f3 = layer_first-next lines 2 in
    let f4 = layer_first-next lines 3 in
    let f5 = layer_first-next lines 4 in
    record {
      zeroth = omega arith;
      first = omega arith;
      second = omega arith;
      third = omega arith;
      fourth = omega arith;
      total = omega arith;
    }

-- while a layer has more than one block, the next has fewer
pub count_falls : (lines layer : ℕ) → 1 ≤ lines
    → (layer_count lines layer ≤ 1) ⊎ (layer_count lines layer + layer ≤ lines)
unfolding layer_count
count_falls lines zero some = inr (omega arith)
count_falls lines (suc layer) some =
    elim (count_falls lines layer some) [
      | inl one ↦ inl (omega arith)
      | inr low ↦ elim (cases_lt 1 (layer_count lines layer)) [
        | inl more ↦ inr (omega arith)
        | inr one ↦ inl (omega arith)
      ]
    ]

-- the parent of a block below the top layer, and none of the others
pub parent_of-top : (lines layers address layer : ℕ) → layer ≡ layer_of lines layers address → layer + 1 ≡ layers
    → parent_of lines layers address ≡ None
unfolding parent_of
parent_of-top lines layers address layer same top =
    let last : (layer_of lines layers address + 1 == layers) ≡ true = eq-eqb _ _ (omega arith) in
    rw last

pub parent_of-below : (lines layers address layer : ℕ) → layer ≡ layer_of lines layers address → layer + 1 ≢ layers
    → parent_of lines layers address ≡ Some (layer_first lines (layer + 1) + index_of lines layers address / 32)
unfolding parent_of
parent_of-below lines layers address layer same under =
    let other : (layer_of lines layers address + 1 == layers) ≡ false = ne_eqb _ _ (λ e. under (omega arith)) in
    rw (same, other)

-- the children of a block above layer 0, and none of a data line
pub children_of-line : (lines layers address layer : ℕ) → layer ≡ layer_of lines layers address → layer ≡ 0
    → children_of lines layers address ≡ None
unfolding children_of
children_of-line lines layers address layer same line =
    let lowest : (layer_of lines layers address == 0) ≡ true = eq-eqb _ _ (omega arith) in
    rw lowest

pub children_of-above : (lines layers address layer : ℕ) → layer ≡ layer_of lines layers address → layer ≢ 0
    → children_of lines layers address ≡ Some (
      layer_first lines (layer - 1) + 32 * index_of lines layers address,
      min 32 (layer_count lines (layer - 1) - 32 * index_of lines layers address),
    )
unfolding children_of
children_of-above lines layers address layer same over =
    let other : (layer_of lines layers address == 0) ≡ false = ne_eqb _ _ (λ e. over (omega arith)) in
    rw (same, other)
