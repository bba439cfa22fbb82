-- Parents and children are inverse.
use Rattle.std.specs.Prelude.{Option, Some, min, unwrap_or}
use Rattle.std.proofs.Common.{◌≡◌, ℕ, ◌+◌, ◌-◌, ◌*◌, ◌/◌, ◌<◌, ◌≤◌, refl, sym, ◌∙◌, ap, inl, inr, arith}
use Rattle.std.proofs.lemmas.Bool.{cases_eq}
use Rattle.asc_base.specs.TreeShape.{layer_count, layer_first, layer_of, index_of, parent_of, children_of}
use Rattle.asc_base.specs.TreeShape.{child_index_of, IsInLayer}
use Rattle.asc_base.proofs.Layers.{layer_of-lt, index_of-lt, layer_of_is, index_of_is, layer_first-next}
use Rattle.asc_base.proofs.Layers.{layer_count-next, layer_first-le, parent_of-top, parent_of-below, children_of-line}
use Rattle.asc_base.proofs.Layers.{children_of-above}

-- pairs that are one have the same parts
the_pair : {a b c d : ℕ} → ◌≡◌ {A = Option (ℕ × ℕ)} (Some (a, b)) (Some (c, d)) → (a ≡ c) × (b ≡ d)
the_pair {a} {b} {c} {d} e =
    let parts : Option (ℕ × ℕ) → ℕ × ℕ = λ o. unwrap_or o (0, 0) in
    (ap (λ o. (parts o).0) e, ap (λ o. (parts o).1) e)

-- the parent of each child of a block is that block, and the child has its place there
pub parent_of_child : (lines layers address first number place : ℕ) → address < layer_first lines layers
    → children_of lines layers address ≡ Some (first, number) → place < number
    → (parent_of lines layers (first + place) ≡ Some address) × (child_index_of lines layers (first + place) ≡ place)
unfolding child_index_of
parent_of_child lines layers address first number place inside children within =
    elim (cases_eq (layer_of lines layers address) 0) [
      | inl line ↦ (let none = children_of-line lines layers address _ refl line in cc)
      | inr over ↦
          (let layer = layer_of lines layers address in
          let index = index_of lines layers address in
          let found = index_of-lt lines layers address inside in
          let of_layers = layer_of-lt lines layers address inside in
          let some = children_of-above lines layers address layer refl over in
          let both = the_pair (sym children ∙ some) in
          let firsts : first ≡ layer_first lines (layer - 1) + 32 * index = both.0 in
          let numbers : number ≡ min 32 (layer_count lines (layer - 1) - 32 * index) = both.1 in
          let rise = layer_first-next lines (layer - 1) in
          let back : layer - 1 + 1 ≡ layer = omega arith in
          let starts : layer_first lines (layer - 1 + 1) ≡ layer_first lines layer = ap (layer_first lines) back in
          let under : IsInLayer lines (layer - 1) (first + place) =
          record { from = omega arith; below = omega arith } in
          let child_layer = layer_of_is lines layers (layer - 1) (first + place) (omega arith) under in
          let child_index = index_of_is lines layers (layer - 1) (first + place) (omega arith) under in
          let indexed : index_of lines layers (first + place) ≡ 32 * index + place = omega arith in
          let parent = parent_of-below lines layers (first + place) (layer - 1) (sym child_layer) (omega arith) in
          let same : layer_first lines (layer - 1 + 1) + index_of lines layers (first + place) / 32 ≡ address =
          omega arith in
          (parent ∙ ap (λ n. Some n) same, omega arith))
    ]

-- a block is the child of its parent that has its place
pub child_of_parent : (lines layers address above : ℕ) → address < layer_first lines layers
    → parent_of lines layers address ≡ Some above
    → (first : ℕ) × (number : ℕ) × (children_of lines layers above ≡ Some (first, number))
    × (address ≡ first + child_index_of lines layers address) × (child_index_of lines layers address < number)
    × (above < layer_first lines layers)
unfolding child_index_of
child_of_parent lines layers address above inside parent =
    elim (cases_eq (layer_of lines layers address + 1) layers) [
      | inl top ↦ (let none = parent_of-top lines layers address _ refl top in cc)
      | inr under ↦
          (let layer = layer_of lines layers address in
          let index = index_of lines layers address in
          let found = index_of-lt lines layers address inside in
          let of_layers = layer_of-lt lines layers address inside in
          let some = parent_of-below lines layers address layer refl under in
          let place : above ≡ layer_first lines (layer + 1) + index / 32 = cc in
          let count = layer_count-next lines layer in
          let rise = layer_first-next lines (layer + 1) in
          let within : IsInLayer lines (layer + 1) above = record { from = omega arith; below = omega arith } in
          let parent_layer = layer_of_is lines layers (layer + 1) above (omega arith) within in
          let parent_index = index_of_is lines layers (layer + 1) above (omega arith) within in
          let indexed : index_of lines layers above ≡ index / 32 = omega arith in
          let children = children_of-above lines layers above (layer + 1) (sym parent_layer) (omega arith) in
          let back : layer + 1 - 1 ≡ layer = omega arith in
          let starts : layer_first lines (layer + 1 - 1) ≡ layer_first lines layer = ap (layer_first lines) back in
          let counts : layer_count lines (layer + 1 - 1) ≡ layer_count lines layer = ap (layer_count lines) back in (
            layer_first lines (layer + 1 - 1) + 32 * index_of lines layers above,
            min 32 (layer_count lines (layer + 1 - 1) - 32 * index_of lines layers above),
            children,
            omega arith,
            omega arith,
            omega (arith, layer_first-le lines (layer + 1 + 1) layers (omega arith)),
          ))
    ]

-- a block above the data lines has 1 to 32 children, all below it
pub children_few : (lines layers address first number : ℕ) → address < layer_first lines layers
    → children_of lines layers address ≡ Some (first, number)
    → (1 ≤ number) × (number ≤ 32) × (first + number ≤ address)
children_few lines layers address first number inside children =
    elim (cases_eq (layer_of lines layers address) 0) [
      | inl line ↦ (let none = children_of-line lines layers address _ refl line in cc)
      | inr over ↦
          (let layer = layer_of lines layers address in
          let index = index_of lines layers address in
          let found = index_of-lt lines layers address inside in
          let some = children_of-above lines layers address layer refl over in
          let parts = the_pair (sym children ∙ some) in
          let back : layer - 1 + 1 ≡ layer = omega arith in
          let counts : layer_count lines layer ≡ (layer_count lines (layer - 1) + 31) / 32 =
          sym (ap (layer_count lines) back) ∙ layer_count-next lines (layer - 1) in
          let rises : layer_first lines layer ≡ layer_first lines (layer - 1) + layer_count lines (layer - 1) =
          sym (ap (layer_first lines) back) ∙ layer_first-next lines (layer - 1) in
          (omega (arith, parts.1), omega (arith, parts.1), omega (arith, parts.0, parts.1)))
    ]

-- a parent is above its child
pub parent_above : (lines layers address above : ℕ) → address < layer_first lines layers
    → parent_of lines layers address ≡ Some above → (address < above) × (above < layer_first lines layers)
parent_above lines layers address above inside parent =
    let family = child_of_parent lines layers address above inside parent in
    let few = children_few lines layers above family.0 family.1 family.5 family.2 in
    (omega (arith, family.3, family.4, few.2), family.5)

-- siblings have one parent
pub siblings_share : (lines layers address first number x y : ℕ) → address < layer_first lines layers
    → children_of lines layers address ≡ Some (first, number) → x < number → y < number
    → parent_of lines layers (first + x) ≡ parent_of lines layers (first + y)
siblings_share lines layers address first number x y inside children in_x in_y =
    (parent_of_child lines layers address first number x inside children in_x).0
    ∙ sym (parent_of_child lines layers address first number y inside children in_y).0

-- the place of a block among its siblings is one of 32
pub child_index-lt : (lines layers address : ℕ) → child_index_of lines layers address < 32
unfolding child_index_of
child_index-lt lines layers address = omega arith
