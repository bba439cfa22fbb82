-- A block of a shape, its parent and its children, by the shape's lists.
use Rattle.std.specs.Prelude.{Some}
use Rattle.std.proofs.Common.{◌≡◌, ℕ, ◌+◌, ◌-◌, ◌*◌, ◌/◌, ◌<◌, ◌≤◌, get_or, refl, sym, ◌∙◌, ap, arith}
use Rattle.asc_base.specs.declared.shape.Shape.{Shape}
use Rattle.asc_base.specs.declared.block.Address.{Address}
use Rattle.asc_base.specs.Shape.{IsShape, parent_in, children_in}
use Rattle.asc_base.specs.TreeShape.{layer_count, layer_first, layer_of, index_of, parent_of, children_of}
use Rattle.asc_base.proofs.Layers.{layer_of-lt, index_of-lt, layer_first-le, layer_first-next, layer_count-next}
use Rattle.asc_base.proofs.ShapeFacts.{IsLayered, shape_layered}

-- a block of a layer, whose parent is a block of the shape, and whose children are too
pub record IsPlaced (shape : Shape) (address layer : ℕ) : Type 0 where
  pub layers : shape.layers ≤ 5
  pub total : shape.total ≤ 270601
  pub one_of : layer < shape.layers
  pub from : get_or shape.firsts layer 0 ≤ address
  pub first : get_or shape.firsts layer 0 ≡ layer_first shape.lines layer
  pub index : address - get_or shape.firsts layer 0 ≡ index_of shape.lines shape.layers address
  pub above : layer + 1 < shape.layers
      → (get_or shape.firsts (layer + 1) 0 ≡ layer_first shape.lines (layer + 1))
      × (get_or shape.firsts (layer + 1) 0 + (address - get_or shape.firsts layer 0) / 32 < shape.total)
  pub below : 0 < layer
      → (get_or shape.firsts (layer - 1) 0 ≡ layer_first shape.lines (layer - 1))
      × (get_or shape.counts (layer - 1) 0 ≡ layer_count shape.lines (layer - 1))
      × (32 * (address - get_or shape.firsts layer 0) < get_or shape.counts (layer - 1) 0)
      × (get_or shape.firsts (layer - 1) 0 + get_or shape.counts (layer - 1) 0 ≤ shape.total)

pub placed : (shape : Shape) (address layer : ℕ) → IsShape shape → address < shape.total
    → layer ≡ layer_of shape.lines shape.layers address → IsPlaced shape address layer
placed shape address layer h within same =
    let facts : IsLayered shape = shape_layered shape h in
    let inside : address < layer_first shape.lines shape.layers = omega (arith, facts.total) in
    let index = index_of-lt shape.lines shape.layers address inside in
    let below : layer < shape.layers = omega (arith, layer_of-lt shape.lines shape.layers address inside) in
    let first = facts.firsts layer below in
    let starts : layer_first shape.lines layer + index_of shape.lines shape.layers address ≡ address =
    rw same index.1 in
    let count : index_of shape.lines shape.layers address < layer_count shape.lines layer = rw same index.0 in
    record {
      layers = facts.layers_to;
      total = facts.total_to;
      one_of = below;
      from = omega arith;
      first = first;
      index = omega arith;
      above = λ more.
          (let next = facts.firsts (layer + 1) more in
          let end = layer_first-le shape.lines (layer + 1 + 1) shape.layers (omega arith) in
          let rise = layer_first-next shape.lines (layer + 1) in
          let counted = layer_count-next shape.lines layer in
          (next, omega (arith, facts.total)));
      below = λ some.
          (let under : layer - 1 < shape.layers = omega arith in
          let back : layer - 1 + 1 ≡ layer = omega arith in
          let counted = layer_count-next shape.lines (layer - 1) in
          let rise = layer_first-next shape.lines (layer - 1) in
          let end = layer_first-le shape.lines layer shape.layers (omega arith) in
          let counts : layer_count shape.lines layer ≡ (layer_count shape.lines (layer - 1) + 31) / 32 =
          sym (ap (layer_count shape.lines) back) ∙ counted in
          let rises : layer_first shape.lines layer
          ≡ layer_first shape.lines (layer - 1) + layer_count shape.lines (layer - 1) =
          sym (ap (layer_first shape.lines) back) ∙ rise in (
            facts.firsts (layer - 1) under,
            facts.counts (layer - 1) under,
            omega (arith, facts.counts (layer - 1) under),
            omega (arith, facts.firsts (layer - 1) under, facts.counts (layer - 1) under, facts.total),
          ));
    }

-- a parent, and children, as the shape gives them
pub parent_in_is : (shape : Shape) (address : Address) (above other : ℕ)
    → parent_of shape.lines shape.layers address.0 ≡ Some above → other ≡ above
    → (let parent : Address = record { 0 = other } in Some parent ≡ parent_in shape address)
parent_in_is shape address above other e same = rw (e, same) refl

pub children_in_is : (shape : Shape) (address : Address) (first number other count : ℕ)
    → children_of shape.lines shape.layers address.0 ≡ Some (first, number) → other ≡ first → count ≡ number
    → (let child : Address = record { 0 = other } in Some (child, count) ≡ children_in shape address)
children_in_is shape address first number other count e same_first same_number = rw (e, same_first, same_number) refl

-- and as the definition does, with the shape's own numbers
pub parent_of_is : (shape : Shape) (address above other : ℕ) → parent_of shape.lines shape.layers address ≡ Some above
    → other ≡ above → parent_of shape.lines shape.layers address ≡ Some other
parent_of_is shape address above other e same = rw same e

pub children_of_is : (shape : Shape) (address first number other count : ℕ)
    → children_of shape.lines shape.layers address ≡ Some (first, number) → other ≡ first → count ≡ number
    → children_of shape.lines shape.layers address ≡ Some (other, count)
children_of_is shape address first number other count e same_first same_number = rw (same_first, same_number) e
