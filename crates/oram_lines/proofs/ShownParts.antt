-- A front end by its parts, and a held block that is the first.
use Rattle.std.proofs.Common.{◌≡◌, ◌+◌, ◌-◌, ◌%◌, ◌^◌, inl, inr, ℕ, suc, Bool, true, false, List, [], ◌∷◌}
use Rattle.std.proofs.Common.{Option, None, Some, length, map, set, slice_index, option_map, nat_eq, nat_le}
use Rattle.std.proofs.Common.{if◌then◌else◌}
use Rattle.std.proofs.Common.{refl, sym, ap, ◌∙◌, subst, arith}
use Rattle.std.proofs.lemmas.Bool.Decides.{eqb_tells}
use Rattle.asc_base.specs.Has.{Has}
use Rattle.asc_base.specs.Shape.{parent_in}
use Rattle.asc_base.specs.TreeShape.{parent_of}
use Rattle.asc_base.specs.declared.block.Address.{Address}
use Rattle.asc_base.specs.declared.shape.Shape.{Shape}
use Rattle.asc_base.proofs.Lookups.{find-yes, changed_first-yes, none_is_not}
use Rattle.posmap_counters.specs.Group.{GroupState, child_counter, stepped_group}
use Rattle.posmap_lookaside.specs.Addresses.{AreDistinct}
use Rattle.posmap_lookaside.specs.Held.{is_of, changed, with_group, addresses_of}
use Rattle.posmap_lookaside.specs.declared.held.Held.{Held}
use Rattle.oram_contents.specs.Chip.{addresses}
use Rattle.oram_lines.specs.Standing.{held_block}
use Rattle.oram_walk.specs.Front.{FrontState, IsFront, with_held, root_place, child_in, group_at}
use Rattle.oram_walk.specs.Front.{counter_by, counter_in, counter_under, stepped_under, stepped_by, stepped}
use Rattle.oram_walk.specs.Front.{full_under, full_by, full_parent}

pub same_of : (x y : ℕ) → x ≡ y → nat_eq x y ≡ true
same_of x y e = elim (eqb_tells x y) [ inl same ↦ same.0 | inr other ↦ absurd (other.1 e) ]

-- a front end by its parts
abbrev pub front_of : Shape → ℕ → List ℕ → ℕ → List Held → FrontState
front_of shape ic roots plb held = record { shape = shape; ic = ic; roots = roots; held = held; plb = plb }

pub spelled : (front : FrontState) (shape : Shape) (held : List Held) → front.shape ≡ shape → front.held ≡ held
    → front ≡ front_of shape front.ic front.roots front.plb held
spelled front shape held shape_is held_is = λ i. record front { shape = shape_is i; held = held_is i }

pub length_addresses : (list : List Held) → length (addresses_of list) ≡ length list
length_addresses [] = refl
length_addresses (h ∷ list) = ap suc (length_addresses list)

-- the addresses of what is held are those on chip
pub chip_addresses : (list : List Held) → addresses (map held_block list) ≡ addresses_of list
chip_addresses [] = refl
chip_addresses (h ∷ list) = ap (λ l. h.address.0 ∷ l) (chip_addresses list)

-- a front end that holds other blocks of the same addresses
pub held_front : (front : FrontState) (list : List Held) → addresses_of list ≡ addresses_of front.held → IsFront front
    → IsFront (with_held front list)
held_front front list same is = record {
  shape = is.shape;
  ic_from = is.ic_from;
  ic_to = is.ic_to;
  roots = is.roots;
  whole = record {
    some = is.whole.some;
    fits = omega (arith, is.whole.fits, ap length same, length_addresses list, length_addresses front.held);
    distinct = subst AreDistinct (sym same) is.whole.distinct;
  };
  inside = λ a has. is.inside a (subst (Has a) same has);
}

-- a front end with other roots
pub rooted_front : (front : FrontState) (roots : List ℕ) → length roots ≡ length front.roots → IsFront front
    → IsFront (record front { roots = roots })
rooted_front front roots same is = record {
  shape = is.shape;
  ic_from = is.ic_from;
  ic_to = is.ic_to;
  roots = same ∙ is.roots;
  whole = is.whole;
  inside = is.inside;
}

-- the group of the first held block, and a change of it
pub first_group : (h : Held) (rest : List Held) (p : Address) → h.address.0 ≡ p.0 → group_at (h ∷ rest) p ≡ Some h.group
first_group h rest p is =
    ap (option_map (λ (x : Held). x.group)) (find-yes (is_of p) h rest (same_of h.address.0 p.0 is))

pub first_changed : (change : Held → Held) (h : Held) (rest : List Held) (p : Address) → h.address.0 ≡ p.0
    → changed change (h ∷ rest) p ≡ change h ∷ rest
first_changed change h rest p is = changed_first-yes change (is_of p) h rest (same_of h.address.0 p.0 is)

-- a block of the top layer
module _ (front : FrontState) (a : Address) (top : parent_of front.shape.lines front.shape.layers a.0 ≡ None) where
  top_in : parent_in front.shape a ≡ None
  top_in = ap (option_map (λ (n : ℕ). let x : Address = record { 0 = n } in x)) top

  pub counter_top : counter_in front a ≡ record { group = slice_index front.roots (root_place front.shape a); own = 0 }
  counter_top = ap (counter_by front a) top_in

  pub stepped_top : stepped front a ≡ record front {
    roots = set front.roots (root_place front.shape a)
        ((slice_index front.roots (root_place front.shape a) + 1) % 2 ^ 64);
  }
  stepped_top = ap (stepped_by front a) top_in

-- a block whose parent is the first held block
module _ (shape : Shape) (ic : ℕ) (roots : List ℕ) (plb : ℕ) (h : Held) (rest : List Held) (a : Address) (p : ℕ)
    (parent : parent_of shape.lines shape.layers a.0 ≡ Some p) (first_is : h.address.0 ≡ p) where
  under_in : parent_in shape a ≡ Some (record { 0 = p })
  under_in = ap (option_map (λ (n : ℕ). let x : Address = record { 0 = n } in x)) parent

  pub counter_first : counter_in (front_of shape ic roots plb (h ∷ rest)) a ≡ child_counter h.group (child_in shape a)
  counter_first = ap (counter_by (front_of shape ic roots plb (h ∷ rest)) a) under_in
      ∙ ap (counter_under (child_in shape a)) (first_group h rest (record { 0 = p }) first_is)

  pub full_first : full_parent (front_of shape ic roots plb (h ∷ rest)) a
      ≡ full_under ic (child_in shape a) (record { 0 = p }) (Some h.group)
  full_first = ap (full_by (front_of shape ic roots plb (h ∷ rest)) a) under_in
      ∙ ap (full_under ic (child_in shape a) (record { 0 = p })) (first_group h rest (record { 0 = p }) first_is)

  pub room_first : full_parent (front_of shape ic roots plb (h ∷ rest)) a ≡ None
      → nat_le (2 ^ ic - 1) (slice_index h.group.own (child_in shape a)) ≡ false
  room_first none = by_test (nat_le (2 ^ ic - 1) (slice_index h.group.own (child_in shape a))) refl
    where
      by_test : (b : Bool) → nat_le (2 ^ ic - 1) (slice_index h.group.own (child_in shape a)) ≡ b
          → nat_le (2 ^ ic - 1) (slice_index h.group.own (child_in shape a)) ≡ false
      by_test true is = absurd (none_is_not (sym none ∙ full_first
          ∙ ap {A = Bool} {B = Option (Address × GroupState)}
          (λ b. if b then Some (record { 0 = p }, h.group) else None) is))
      by_test false is = is

  pub no_full : nat_le (2 ^ ic - 1) (slice_index h.group.own (child_in shape a)) ≡ false
      → full_parent (front_of shape ic roots plb (h ∷ rest)) a ≡ None
  no_full is = full_first
      ∙ ap {A = Bool} {B = Option (Address × GroupState)} (λ b. if b then Some (record { 0 = p }, h.group) else None) is

  pub stepped_first : nat_le (2 ^ ic - 1) (slice_index h.group.own (child_in shape a)) ≡ false
      → stepped (front_of shape ic roots plb (h ∷ rest)) a ≡ front_of shape ic roots plb (record h {
        group = record {
          group = h.group.group;
          own = set h.group.own (child_in shape a) (slice_index h.group.own (child_in shape a) + 1);
        };
      } ∷ rest)
  stepped_first room =
      ap (stepped_by (front_of shape ic roots plb (h ∷ rest)) a) under_in
      ∙ ap (stepped_under (front_of shape ic roots plb (h ∷ rest)) a (record { 0 = p }))
      (first_group h rest (record { 0 = p }) first_is)
      ∙ ap (front_of shape ic roots plb)
      (first_changed (with_group (stepped_group ic h.group (child_in shape a))) h rest (record { 0 = p }) first_is
      ∙ ap {B = List Held} (λ b. record h {
        group = if b then h.group else record {
          group = h.group.group;
          own = set h.group.own (child_in shape a) (slice_index h.group.own (child_in shape a) + 1);
        };
      } ∷ rest) room)
