-- A front end stays one of its shape, through each part of a walk.
use Rattle.std.proofs.Common.{◌≡◌, ◌<◌, ◌≤◌, ◌+◌, ◌^◌, ◌-◌, ℕ, Bool, true, false, List, length, Option, None, Some, Ok}
use Rattle.std.proofs.Common.{IsNone, IfSome, is_some, get_or, nat_le, option_map, refl, sym, ap, subst, ◌∙◌, arith}
use Rattle.std.specs.Prelude.{if◌then◌else◌}
use Rattle.std.specs.Int.Digits.{number_from_digits}
use Rattle.std.proofs.lemmas.List.{length-set, length-append}
use Rattle.asc_base.specs.Shape.{IsAddress, parent_in, children_in}
use Rattle.asc_base.specs.TreeShape.{children_of}
use Rattle.asc_base.specs.declared.block.Address.{Address}
use Rattle.asc_base.specs.declared.shape.Shape.{Shape}
use Rattle.asc_base.proofs.Families.{children_few}
use Rattle.asc_base.proofs.ShapeFacts.{IsLayered, shape_layered}
use Rattle.posmap_counters.specs.Digits.{digits}
use Rattle.posmap_counters.specs.Group.{GroupState, line_of}
use Rattle.posmap_counters.proofs.DigitLaws.{length-digits}
use Rattle.posmap_lookaside.specs.Held.{held_at, promoted, changed, inserted, displaced}
use Rattle.posmap_lookaside.specs.Lookaside.{LookasideState}
use Rattle.posmap_lookaside.specs.declared.held.Held.{Held}
use Rattle.posmap_lookaside.proofs.HeldLaws.{inserted_last}
use Rattle.posmap_lookaside.proofs.Wholes.{changed_whole, promoted_whole, inserted_whole, none_absent}
use Rattle.oram_walk.specs.Front.{FrontState, IsFront, with_held, stepped, stepped_by, stepped_under, group_at}
use Rattle.oram_walk.specs.Front.{full_parent, full_by, full_under, child_in}
use Rattle.oram_walk.proofs.Fresh.{parent_of_block}
use Rattle.oram_walk.proofs.Fronts.{used_front, changed_front, inserted_front, displaced_inside}

-- the line of a group has 64 bytes
pub length-line : (group : ℕ) (own : List ℕ) → length (line_of group own) ≡ 64
unfolding line_of
length-line group own =
    let rest = number_from_digits 16384 own in
    length-append (digits 256 8 group) (digits 256 56 rest)
    ∙ omega (arith, length-digits 256 8 group, length-digits 256 56 rest)

-- a front end of this shape
pub record IsOf (shape : Shape) (now : FrontState) : Type 0 where
  pub front : IsFront now
  pub same : now.shape ≡ shape

abbrev buffer_of : FrontState → List Held → LookasideState
buffer_of now list = record { list = list; capacity = now.plb }

module _ (shape : Shape) where
  -- a block of the shape is one of the front end's
  pub here : (now : FrontState) (address : Address) → IsOf shape now → IsAddress shape address
      → IsAddress now.shape address
  here now address is inside = omega (arith, ap (λ (s : Shape). s.total) is.same, inside)

  -- a block is changed, but not its address
  pub changed_is : (change : Held → Held) (address : Address) (now : FrontState)
      → ((held : Held) → (change held).address ≡ held.address) → IsOf shape now
      → IsOf shape (with_held now (changed change now.held address))
  changed_is change address now keeps is =
      let list : List Held = changed change now.held address in
      record {
        front = changed_front now change address (buffer_of now list) keeps refl
            (changed_whole change (buffer_of now now.held) address list keeps refl is.front.whole) is.front;
        same = is.same;
      }

  -- a block is used
  pub used_is : (address : Address) (now : FrontState) → IsOf shape now
      → IsOf shape (with_held now (promoted now.held address))
  used_is address now is =
      let list : List Held = promoted now.held address in
      record {
        front = used_front now address (buffer_of now list) refl
            (promoted_whole (buffer_of now now.held) address list refl is.front.whole) is.front;
        same = is.same;
      }

  -- the counter of a block is stepped
  stepped_under_is : (address parent : Address) (now : FrontState) (group : Option GroupState) → IsOf shape now
      → IsOf shape (stepped_under now address parent group)
  stepped_under_is address parent now None is = is
  stepped_under_is address parent now (Some group) is = changed_is _ parent now (λ held. refl) is

  stepped_by_is : (address : Address) (now : FrontState) (parent : Option Address) → IsOf shape now
      → IsOf shape (stepped_by now address parent)
  stepped_by_is address now None is = record {
    front = record {
      shape = is.front.shape;
      ic_from = is.front.ic_from;
      ic_to = is.front.ic_to;
      roots = length-set now.roots _ _ ∙ is.front.roots;
      whole = is.front.whole;
      inside = is.front.inside;
    };
    same = is.same;
  }
  stepped_by_is address now (Some parent) is = stepped_under_is address parent now (group_at now.held parent) is

  pub stepped_is : (address : Address) (now : FrontState) → IsOf shape now → IsOf shape (stepped now address)
  stepped_is address now is = stepped_by_is address now (parent_in now.shape address) is

  -- a block comes to be held
  pub inserted_is : (held : Held) (now : FrontState) → IsNone (held_at now.held held.address)
      → IsAddress shape held.address → IsOf shape now → IsOf shape (with_held now (inserted now.plb held now.held))
  inserted_is held now none inside is =
      let list : List Held = inserted now.plb held now.held in
      record {
        front = inserted_front now held (buffer_of now list) (Ok None) (here now held.address is inside) refl tt
            (inserted_whole (buffer_of now now.held) held list (Ok None) none refl tt is.front.whole) is.front;
        same = is.same;
      }

  -- what it displaces is a block of the shape, and another one
  pub last_is_inside : (held last : Held) (now : FrontState) → IsAddress shape held.address
      → displaced now.plb held now.held ≡ Some last → IsOf shape now → IsAddress shape last.address
  last_is_inside held last now inside at is =
      let all = subst (λ (o : Option Held). IfSome o (λ block. block.address.0 < now.shape.total)) at
      (displaced_inside now held (Ok (displaced now.plb held now.held)) (here now held.address is inside) refl
      is.front) in
      omega (arith, ap (λ (s : Shape). s.total) is.same, all)

  pub last_is_other : (held last : Held) (now : FrontState) → IsNone (held_at now.held held.address)
      → displaced now.plb held now.held ≡ Some last → IsOf shape now → last.address.0 ≡ held.address.0 → ⊥
  last_is_other held last now none at is same =
      let there = inserted_last now.plb held last now.held is.front.whole.some is.front.whole.fits at
      is.front.whole.distinct (none_absent now.held held.address none) in
      let found : held_at now.held held.address ≡ Some last =
      ap (λ n. held_at now.held (record { 0 = n })) (sym same) ∙ there in
      yes_no (sym (ap is_some found) ∙ none)
    where
      yes_no : true ≡ false → ⊥
      yes_no e = cc

  -- the parent whose children have to move is a block of the shape
  full_under_inside : (ic child : ℕ) (parent : Address) (group : Option GroupState) → IsAddress shape parent
      → IfSome (full_under ic child parent group) (λ full. IsAddress shape (full.0))
  full_under_inside ic child parent None inside = tt
  full_under_inside ic child parent (Some group) inside = by (nat_le (2 ^ ic - 1) (get_or group.own child 0))
    where
      by : (full : Bool) → IfSome {T = Address × GroupState} (if full then Some (parent, group) else None)
          (λ full. IsAddress shape (full.0))
      by true = inside
      by false = tt

  pub full_inside : (address : Address) (now : FrontState) → IsAddress shape address → IsOf shape now
      → IfSome (full_parent now address) (λ full. IsAddress shape (full.0))
  full_inside address now inside is = by (parent_in now.shape address) refl
    where
      by : (o : Option Address) → parent_in now.shape address ≡ o
          → IfSome (full_by now address o) (λ full. IsAddress shape (full.0))
      by None none = tt
      by (Some parent) some =
          let up = parent_of_block now.shape address parent is.front.shape (here now address is inside) some in
          full_under_inside now.ic (child_in now.shape address) parent (group_at now.held parent)
          (omega (arith, ap (λ (s : Shape). s.total) is.same, up.1))

  -- and so are the children
  pub family_inside : (parent : Address) (now : FrontState) → IsAddress shape parent → IsOf shape now
      → IfSome (children_in now.shape parent) (λ family. (family.0).0 + family.1 ≤ shape.total)
  family_inside parent now inside is = by (children_of now.shape.lines now.shape.layers parent.0) refl
    where
      facts : IsLayered now.shape
      facts = shape_layered now.shape is.front.shape

      by : (o : Option (ℕ × ℕ)) → children_of now.shape.lines now.shape.layers parent.0 ≡ o
          → IfSome {T = Address × ℕ}
          (option_map (λ (first, number). let a : Address = record { 0 = first } in (a, number)) o)
          (λ family. (family.0).0 + family.1 ≤ shape.total)
      by None none = tt
      by (Some (first, number)) some =
          let few = children_few now.shape.lines now.shape.layers parent.0 first number
          (omega (arith, facts.total, here now parent is inside)) some in
          omega (arith, few.2, inside)
