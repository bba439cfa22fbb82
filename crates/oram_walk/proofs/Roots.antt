-- Where the counter of a block of the top layer is.
use Rattle.std.proofs.Common.{◌≡◌, ℕ, ◌-◌, ◌<◌, ◌≤◌, get_or, Option, Some, None, option_map, refl, sym, subst}
use Rattle.std.proofs.Common.{arith}
use Rattle.asc_base.specs.declared.block.Address.{Address}
use Rattle.asc_base.specs.declared.shape.Shape.{Shape}
use Rattle.asc_base.specs.Shape.{IsShape, IsAddress, parent_in}
use Rattle.asc_base.specs.TreeShape.{layer_count, layer_first, parent_of}
use Rattle.asc_base.proofs.Lookups.{none_is_not}
use Rattle.asc_base.proofs.ShapeFacts.{IsLayered, shape_layered}
use Rattle.oram_walk.specs.Front.{FrontState, IsFront}
use Rattle.posmap_counters.proofs.RootLaws.{top_place}

pub record IsRoot (shape : Shape) (address : Address) : Type 0 where
  pub layers_from : 1 ≤ shape.layers
  pub layers_to : shape.layers ≤ 5
  pub first : get_or shape.firsts (shape.layers - 1) 0 ≡ layer_first shape.lines (shape.layers - 1)
  pub from : layer_first shape.lines (shape.layers - 1) ≤ address.0
  pub below : address.0 - layer_first shape.lines (shape.layers - 1) < layer_count shape.lines (shape.layers - 1)

-- a block without a parent in the shape has none
pub no_parent : (shape : Shape) (address : Address) → parent_in shape address ≡ None
    → parent_of shape.lines shape.layers address.0 ≡ None
no_parent shape address none = by (parent_of shape.lines shape.layers address.0) none
  where
    by : (o : Option ℕ) → option_map (λ n. let x : Address = record { 0 = n } in x) o ≡ None → o ≡ None
    by None e = refl
    by (Some p) e = absurd (none_is_not (sym e))

pub root_of : (shape : Shape) (address : Address) → IsShape shape → IsAddress shape address
    → parent_in shape address ≡ None → IsRoot shape address
root_of shape address is_shape inside none =
    let facts : IsLayered shape = shape_layered shape is_shape in
    let place = top_place shape.lines shape.layers address.0 (omega (arith, facts.total))
    (no_parent shape address none) in
    record {
      layers_from = facts.layers_from;
      layers_to = facts.layers_to;
      first = facts.firsts (shape.layers - 1) (omega (arith, facts.layers_from));
      from = place.0;
      below = place.1;
    }

-- the same of a front end that is given by its view
pub view_root : (inside front : FrontState) (address : Address) → inside ≡ front → IsFront inside
    → IsAddress front.shape address → parent_in front.shape address ≡ None → IsRoot inside.shape address
view_root inside front address same is low top =
    root_of inside.shape address is.shape (subst (λ (f : FrontState). IsAddress f.shape address) (sym same) low)
    (subst (λ (f : FrontState). parent_in f.shape address ≡ None) (sym same) top)
