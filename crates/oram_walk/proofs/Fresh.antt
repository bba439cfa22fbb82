-- A block under those that a walk refills isn't held because of it.
use Rattle.std.proofs.Common.{◌≡◌, ◌≢◌, ℕ, zero, suc, ◌<◌, ◌≤◌, Bool, true, false, List, [], ◌∷◌, take}
use Rattle.std.proofs.Common.{nat_eq}
use Rattle.std.proofs.Common.{Result, Option, Some, None, IsNone, is_some, option_map, inl, inr, ne_eqb}
use Rattle.std.proofs.Common.{refl, ap, ◌∙◌, arith}
use Rattle.std.specs.Prelude.{if◌then◌else◌, ◌||◌}
use Rattle.std.specs.List.{find}
use Rattle.std.specs.Option.{option_map_or}
use Rattle.std.proofs.lemmas.Bool.Decides.{eqb_tells}
use Rattle.request_plan.specs.Plan.{Ends}
use Rattle.request_plan.proofs.Keeps.{Ends-has}
use Rattle.asc_base.specs.Has.{Has}
use Rattle.asc_base.specs.Lookup.{without_first}
use Rattle.asc_base.specs.Shape.{parent_in, IsShape, IsAddress}
use Rattle.asc_base.specs.TreeShape.{parent_of}
use Rattle.asc_base.specs.declared.shape.Shape.{Shape}
use Rattle.asc_base.specs.declared.block.Address.{Address}
use Rattle.asc_base.specs.declared.stop.Stop.{Stop}
use Rattle.asc_base.proofs.Families.{parent_above}
use Rattle.asc_base.proofs.Lookups.{find-has, promoted_first-some, promoted_first-none, some_is, none_is_not}
use Rattle.asc_base.proofs.ShapeFacts.{IsLayered, shape_layered}
use Rattle.posmap_counters.specs.Counters.{is_among}
use Rattle.posmap_lookaside.specs.Addresses.{used}
use Rattle.posmap_lookaside.specs.Held.{held_at, promoted, addresses_of}
use Rattle.posmap_lookaside.proofs.AddressLaws.{is_some-held_at}
use Rattle.posmap_lookaside.proofs.HeldLaws.{promoted_keeps}
use Rattle.posmap_lookaside.proofs.Wholes.{none_absent}
use Rattle.oram_walk.specs.Front.{FrontState, with_held}
use Rattle.oram_walk.specs.Plans.{visit_plan, walk_plan}
use Rattle.oram_walk.specs.Request.{Request}
use Rattle.oram_walk.specs.declared.slots.Purpose.{Purpose}
use Rattle.oram_walk.specs.declared.slots.Seen.{Seen}
use Rattle.oram_walk.proofs.Held.{walk_held, Holds, holds_now, visit_plan-holds, walk_plan-holds}

-- the parent in a shape, by its number
pub parent_is : (shape : Shape) (address parent : Address) → parent_in shape address ≡ Some parent
    → parent_of shape.lines shape.layers address.0 ≡ Some parent.0
parent_is shape address parent is = by (parent_of shape.lines shape.layers address.0) is
  where
    by : (o : Option ℕ) → option_map (λ n. let x : Address = record { 0 = n } in x) o ≡ Some parent → o ≡ Some parent.0
    by None e = absurd (none_is_not e)
    by (Some p) e = ap (λ (a : Address). Some a.0) (some_is e)

-- a parent is a block further up
pub parent_of_block : (shape : Shape) (address parent : Address) → IsShape shape → IsAddress shape address
    → parent_in shape address ≡ Some parent → (address.0 < parent.0) × IsAddress shape parent
parent_of_block shape address parent is_shape inside is =
    let facts : IsLayered shape = shape_layered shape is_shape in
    let up = parent_above shape.lines shape.layers address.0 parent.0 (omega (arith, facts.total))
    (parent_is shape address parent is) in
    (up.0, omega (arith, facts.total, up.1))

or_none : (a b : Bool) → a ≡ false → b ≡ false → (a || b) ≡ false
or_none a b p q = rw (p, q) refl

or_left : (a b : Bool) → (a || b) ≡ false → a ≡ false
or_left false b e = refl
or_left true b e = absurd (cc)

or_right : (a b : Bool) → (a || b) ≡ false → b ≡ false
or_right false b e = e
or_right true b e = absurd (cc)

pub take_out : (n : ℕ) (list : List ℕ) (b : ℕ) → is_among list b ≡ false → is_among (take n list) b ≡ false
take_out zero list b h = refl
take_out (suc n) [] b h = refl
take_out (suc n) (x ∷ list) b h = or_none _ _ (or_left _ _ h) (take_out n list b (or_right _ _ h))

without_out : (list : List ℕ) (a b : ℕ) → is_among list b ≡ false
    → is_among (without_first (λ x. nat_eq x a) list) b ≡ false
unfolding without_first
without_out [] a b h = refl
without_out (x ∷ list) a b h =
    elim (eqb_tells x a) [
      | inl same ↦ rw same.0 (or_right _ _ h)
      | inr other ↦ rw other.0 (or_none _ _ (or_left _ _ h) (without_out list a b (or_right _ _ h)))
    ]

pub front_out : (list : List ℕ) (a b : ℕ) → a ≢ b → is_among list b ≡ false → is_among (a ∷ list) b ≡ false
front_out list a b other h = or_none _ _ (ne_eqb a b other) h

-- an address in a list without b is another
other_out : (list : List ℕ) (b x : ℕ) → is_among list b ≡ false → Has x list → nat_eq x b ≡ false
other_out [] b x h has = absurd has
other_out (y ∷ list) b x h (inl same) = ap (λ z. nat_eq z b) same ∙ or_left _ _ h
other_out (y ∷ list) b x h (inr later) = other_out list b x (or_right _ _ h) later

pub used_out : (list : List ℕ) (a b : ℕ) → is_among list b ≡ false → is_among (used list a) b ≡ false
used_out list a b h = by (find (λ x. nat_eq x a) list) refl
  where
    by : (found : Option ℕ) → find (λ x. nat_eq x a) list ≡ found → is_among (used list a) b ≡ false
    by None none = rw (promoted_first-none (λ x. nat_eq x a) list none) h
    by (Some x) found =
        rw (promoted_first-some (λ x. nat_eq x a) list x found)
        (or_none _ _ (other_out list b x h (find-has (λ y. nat_eq y a) list x found)) (without_out list a b h))

abbrev listed : Shape → ℕ → ℕ → List ℕ → Option Address → List ℕ
listed shape plb above list o =
    option_map_or (λ parent.
    let next = used list parent.0 in
    if is_among list parent.0 then next else take plb (parent.0 ∷ walk_held shape plb above next parent)) o list

cases_out : (plb : ℕ) (next rest : List ℕ) (b : ℕ) (c : Bool) (parent : Address) → parent.0 ≢ b
    → is_among next b ≡ false → is_among rest b ≡ false
    → is_among (if c then next else take plb (parent.0 ∷ rest)) b ≡ false
cases_out plb next rest b true parent lower out h = out
cases_out plb next rest b false parent lower out h =
    take_out plb (parent.0 ∷ rest) b (front_out rest parent.0 b lower h)

walk_out : (shape : Shape) (plb above : ℕ) (held : List ℕ) (address : Address) (b : ℕ)
    → IsShape shape → IsAddress shape address → b ≤ address.0 → is_among held b ≡ false
    → is_among (walk_held shape plb above held address) b ≡ false
walk_out shape plb zero held address b is_shape inside below h = h
walk_out shape plb (suc above) held address b is_shape inside below h =
    by (λ parent inside' below' out.
    walk_out shape plb above (used held parent.0) parent b is_shape inside' below' out) (parent_in shape address) refl
  where
    by : ((parent : Address) → IsAddress shape parent → b ≤ parent.0 → is_among (used held parent.0) b ≡ false
        → is_among (walk_held shape plb above (used held parent.0) parent) b ≡ false)
        → (o : Option Address) → parent_in shape address ≡ o → is_among (listed shape plb above held o) b ≡ false
    by again None at = h
    by again (Some parent) at =
        let up = parent_of_block shape address parent is_shape inside at in
        let lower : parent.0 ≢ b = λ e. absurd (omega (arith, e, up.0)) in
        let out = used_out held parent.0 b h in
        cases_out plb (used held parent.0) (walk_held shape plb above (used held parent.0) parent) b
        (is_among held parent.0) parent lower out (again parent (up.1) (omega (arith, up.0)) out)

tests_none : {A : Type 0} (o : Option A) → is_some o ≡ false → IsNone o
tests_none None h = refl
tests_none (Some a) h = absurd (cc)

-- what isn't in the list after isn't held
out_is_none : (old now : FrontState) (list : List ℕ) (address : Address) → Holds old list now
    → is_among list address.0 ≡ false → IsNone (held_at now.held address)
out_is_none old now list address h out =
    tests_none (held_at now.held address)
    (is_some-held_at now.held address ∙ ap (λ l. is_among l address.0) h.held ∙ out)

module _ {S : Type 0} (step : S → Request → Result Seen Stop → S → Type 0) where
  pub visit_none : (state now : FrontState) (asked : ℕ) (address b : Address) (purpose : Purpose)
      (seen : Seen) (s t : S)
      → Ends step (visit_plan state asked address purpose) s t (now, seen) → IsNone (held_at state.held b)
      → IsNone (held_at now.held b)
  visit_none state now asked address b purpose seen s t ends none =
      let list = addresses_of state.held in
      let kept : Holds state list now =
      Ends-has step (λ (r : FrontState × Seen). Holds state list (r.0)) (visit_plan state asked address purpose)
      (visit_plan-holds state state list asked address purpose (holds_now state)) s t (now, seen) ends in
      out_is_none state now list b kept (none_absent state.held b none)

  -- the walk to a block whose parent isn't held leaves it so
  pub walk_none : (state now : FrontState) (above asked end : ℕ) (parent : Address) (s t : S)
      → IsShape state.shape → IsAddress state.shape parent → is_some (held_at state.held parent) ≡ false
      → Ends step (walk_plan above (with_held state (promoted state.held parent)) asked parent) s t (now, end)
      → IsNone (held_at now.held parent)
  walk_none state now above asked end parent s t is_shape inside none ends =
      let before : FrontState = with_held state (promoted state.held parent) in
      let start = addresses_of before.held in
      let list = walk_held state.shape state.plb above start parent in
      let kept : Holds before list now =
      Ends-has step (λ (r : FrontState × ℕ). Holds before list (r.0)) (walk_plan above before asked parent)
      (walk_plan-holds before before start above asked parent (holds_now before)) s t (now, end) ends in
      let absent : IsNone (held_at before.held parent) =
      tests_none _ (ap is_some (promoted_keeps state.held parent parent) ∙ none) in
      out_is_none before now list parent kept
      (walk_out state.shape state.plb above start parent parent.0 is_shape inside (omega arith)
      (none_absent before.held parent absent))
