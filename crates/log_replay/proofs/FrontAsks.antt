-- The plans of a front end ask rightly, whatever is answered: it stays one of its shape, accesses blocks of the shape,
-- and appends another block than the one that was accessed.
use Rattle.std.proofs.Common.{◌≡◌, ◌<◌, ◌≤◌, ◌+◌, ℕ, zero, suc, Bool, true, false, length, Option, None, Some, IsNone}
use Rattle.std.proofs.Common.{IfSome, is_some, refl, sym, ◌∙◌, ap, subst, arith}
use Rattle.std.specs.Option.{option_map_or}
use Rattle.request_plan.specs.Plan.{Done, Ask}
use Rattle.asc_base.specs.Shape.{IsAddress, parent_in, children_in}
use Rattle.asc_base.specs.declared.block.Address.{Address}
use Rattle.asc_base.specs.declared.block.Line.{Line}
use Rattle.asc_base.specs.declared.shape.Shape.{Shape}
use Rattle.asc_base.proofs.ShapeFacts.{IsLayered, shape_layered}
use Rattle.oram_walk.specs.Front.{FrontState, IsFront, full_parent, with_held}
use Rattle.oram_walk.specs.Plans.{FrontPlan, on, child_by, child_plan, children_plan, family_plan, full_plan}
use Rattle.oram_walk.specs.Plans.{group_plan, visit_plan, append_plan, hold_plan, refilled, refill_plan}
use Rattle.oram_walk.specs.Plans.{found_plan, walk_plan, request_plan, fetch_plan, store_plan}
use Rattle.oram_walk.specs.Request.{Answer}
use Rattle.oram_walk.specs.declared.slots.Access.{Access}
use Rattle.oram_walk.specs.declared.slots.Purpose.{Purpose}
use Rattle.oram_walk.specs.declared.slots.Purpose.TheVariants.{Refill, Keep, Replace}
use Rattle.oram_walk.specs.declared.slots.Seen.{Seen}
use Rattle.oram_walk.proofs.Fresh.{visit_none, walk_none, parent_of_block}
use Rattle.posmap_counters.specs.Group.{GroupState}
use Rattle.posmap_lookaside.specs.Held.{held_at, promoted, inserted, displaced}
use Rattle.posmap_lookaside.specs.declared.held.Held.{Held}
use Rattle.log_replay.proofs.Asks.{IsWhole, Last, AsksRightly, any, asks_bind}
use Rattle.log_replay.proofs.FrontParts.{length-line, IsOf, here, changed_is, used_is, stepped_is, inserted_is}
use Rattle.log_replay.proofs.FrontParts.{last_is_inside, last_is_other, full_inside, family_inside}

module _ (shape : Shape) where
  -- the front end is one of the shape
  abbrev pub AtAny : {A : Type 0} → Last → FrontState × A → Type 0
  AtAny last outcome = IsOf shape (outcome.0)

  -- and the plan ends behind the slot of this block, which was accessed for this, with what was seen
  abbrev pub AtSlot : Address → Purpose → Last → FrontState × Seen → Type 0
  AtSlot address purpose last outcome = IsOf shape (outcome.0)
      × ((access : Access) × (access.address ≡ address) × (access.purpose ≡ purpose)
      × (last ≡ Some (access, outcome.1)))

  -- a plan that may begin behind anything
  abbrev pub Rightly : {A : Type 0} → (Last → FrontState × A → Type 0) → FrontPlan A → Type 0
  Rightly P plan = (last : Last) → AsksRightly shape.total last P plan

  child_asks : (held : Bool) (state : FrontState) (access : Access) → IsOf shape state
      → IsAddress shape access.address → IsWhole access.purpose → Rightly AtAny (child_by held state access)
  child_asks true state access is inside whole last = is
  child_asks false state access is inside whole last = (inside, whole, λ x. is)

  children_asks : (group : GroupState) (first child left : ℕ) (state : FrontState) (asked : ℕ) → IsOf shape state
      → first + (child + left) ≤ shape.total → Rightly AtAny (children_plan group first child left state asked)
  children_asks group first child zero state asked is fits last = is
  children_asks group first child (suc left) state asked is fits last =
      asks_bind shape.total AtAny AtAny _ (child_plan state asked _ _ _) _ last
      (child_asks _ _ _ (changed_is shape _ _ state (λ held. refl) is) (omega (arith, fits)) tt last)
      (λ a now ends h. children_asks group first (child + 1) left a.0 a.1 h (omega (arith, fits)) now)

  family_asks : (group : GroupState) (family : Option (Address × ℕ)) (state : FrontState) (asked : ℕ)
      → IsOf shape state → IfSome family (λ family. (family.0).0 + family.1 ≤ shape.total)
      → Rightly AtAny (family_plan group family state asked)
  family_asks group None state asked is fits last = is
  family_asks group (Some (first, number)) state asked is fits last =
      children_asks group first.0 0 number state asked is (omega (arith, fits)) last

  full_asks : (full : Option (Address × GroupState)) (state : FrontState) (asked : ℕ) → IsOf shape state
      → IfSome full (λ full. IsAddress shape (full.0)) → Rightly AtAny (full_plan state asked full)
  full_asks None state asked is inside last = is
  full_asks (Some (parent, group)) state asked is inside last =
      asks_bind shape.total AtAny AtAny _ (family_plan group (children_in state.shape parent) state asked) _ last
      (family_asks group (children_in state.shape parent) state asked is (family_inside shape parent state inside is)
      last)
      (λ a now ends h. changed_is shape _ parent a.0 (λ held. refl) h)

  visit_asks : (state : FrontState) (asked : ℕ) (address : Address) (purpose : Purpose) → IsOf shape state
      → IsAddress shape address → IsWhole purpose
      → Rightly (AtSlot address purpose) (visit_plan state asked address purpose)
  visit_asks state asked address purpose is inside whole last =
      asks_bind shape.total AtAny (AtSlot address purpose) _ (group_plan state asked address) _ last
      (full_asks (full_parent state address) state asked is (full_inside shape address state inside is) last)
      (λ a now ends h. (inside, whole, λ x. (stepped_is shape address a.0 h, (_, refl, refl, refl))))

  append_asks : (held : Held) (access : Access) (seen : Seen) (state : FrontState) → access.address ≡ held.address
      → access.purpose ≡ Refill → IsOf shape state → IsNone (held_at state.held held.address)
      → IsAddress shape held.address
      → (last : Option Held) → displaced state.plb held state.held ≡ last
      → AsksRightly shape.total (Some (access, seen)) AtAny
      (append_plan last (with_held state (inserted state.plb held state.held)))
  append_asks held access seen state own refill is none inside None at = inserted_is shape held state none inside is
  append_asks held access seen state own refill is none inside (Some last) at = (
    (
      refill,
      λ same. last_is_other shape held last state none at is (same ∙ ap (λ (x : Address). x.0) own),
      last_is_inside shape held last state inside at is,
      length-line last.group.group last.group.own,
    ),
    λ x. inserted_is shape held state none inside is,
  )

  hold_asks : (held : Held) (access : Access) (seen : Seen) (state : FrontState) → access.address ≡ held.address
      → access.purpose ≡ Refill → IsOf shape state → IsNone (held_at state.held held.address)
      → IsAddress shape held.address
      → AsksRightly shape.total (Some (access, seen)) AtAny (hold_plan state held)
  hold_asks held access seen state own refill is none inside =
      λ x. append_asks held access seen state own refill is none inside (displaced state.plb held state.held) refl

  refill_asks : (state : FrontState) (asked : ℕ) (address : Address) → IsOf shape state
      → IsNone (held_at state.held address) → IsAddress shape address
      → Rightly AtAny (refill_plan state asked address)
  refill_asks state asked address is none inside last =
      asks_bind shape.total (AtSlot address Refill) AtAny _ (visit_plan state asked address Refill) _ last
      (visit_asks state asked address Refill is inside tt last)
      (λ a now ends h. asks_bind shape.total AtAny AtAny _ (hold_plan a.0 (refilled a.0 address (a.1).line)) _ now
      (subst (λ l. AsksRightly shape.total l AtAny (hold_plan a.0 (refilled a.0 address (a.1).line))) (sym h.1.3)
      (hold_asks (refilled a.0 address (a.1).line) h.1.0 a.1 a.0 h.1.1 h.1.2 h.0
      (visit_none any state a.0 asked address address Refill a.1 tt tt ends none) inside))
      (λ b later more i. i))

  found_asks : (found : Bool) (state : FrontState) (asked : ℕ) (rest : FrontPlan ℕ) → IsOf shape state
      → (found ≡ false → Rightly AtAny rest) → Rightly AtAny (found_plan found state asked rest)
  found_asks true state asked rest is h last = is
  found_asks false state asked rest is h last = h refl last

  parent_asks : (above : ℕ) (state : FrontState) (asked : ℕ) (address : Address) → IsOf shape state
      → IsAddress shape address
      → ((now : FrontState) (parent : Address) → IsOf shape now → IsAddress shape parent
      → Rightly AtAny (walk_plan above now asked parent))
      → (o : Option Address) → parent_in state.shape address ≡ o
      → Rightly AtAny (option_map_or (λ (parent : Address).
      let now = with_held state (promoted state.held parent) in
      found_plan (is_some (held_at state.held parent)) now asked
      (on (walk_plan above now asked parent) (λ later end. refill_plan later end parent))) o (Done (state, asked)))
  parent_asks above state asked address is inside walk None at last = is
  parent_asks above state asked address is inside walk (Some parent) at last =
      let up : IsAddress shape parent =
      omega (
        arith,
        ap (λ (s : Shape). s.total) is.same,
        (parent_of_block state.shape address parent is.front.shape (here shape state address is inside) at).1,
      ) in
      found_asks (is_some (held_at state.held parent)) _ asked _ (used_is shape parent state is)
      (λ missing before. asks_bind shape.total AtAny AtAny _
      (walk_plan above (with_held state (promoted state.held parent)) asked parent) _ before
      (walk _ parent (used_is shape parent state is) up before)
      (λ a now ends h. refill_asks a.0 a.1 parent h
      (walk_none any state a.0 above asked a.1 parent tt tt is.front.shape (here shape state parent is up) missing
      ends) up now)) last

  walk_asks : (above : ℕ) (state : FrontState) (asked : ℕ) (address : Address) → IsOf shape state
      → IsAddress shape address → Rightly AtAny (walk_plan above state asked address)
  walk_asks zero state asked address is inside last = is
  walk_asks (suc above) state asked address is inside last =
      parent_asks above state asked address is inside
      (λ now parent of_shape up. walk_asks above now asked parent of_shape up)
      (parent_in state.shape address) refl last

  request_asks : (state : FrontState) (asked : ℕ) (address : Address) (purpose : Purpose) → IsOf shape state
      → IsAddress shape address → IsWhole purpose
      → Rightly (AtSlot address purpose) (request_plan state asked address purpose)
  request_asks state asked address purpose is inside whole last =
      asks_bind shape.total AtAny (AtSlot address purpose) _ (walk_plan state.shape.layers state asked address) _ last
      (walk_asks state.shape.layers state asked address is inside last)
      (λ a now ends h. visit_asks a.0 a.1 address purpose h inside whole now)

-- a line of a front end is one of its blocks
line_inside : (front : FrontState) (line : ℕ) → IsFront front → line < front.shape.lines → line < front.shape.total
line_inside front line is below =
    let facts : IsLayered front.shape = shape_layered front.shape is.shape in
    omega (arith, facts.total_from)

-- A fetch and a store ask rightly, and leave a front end of the same shape.
pub fetch_asks : (front : FrontState) (asked line : ℕ) (last : Last) → IsFront front → line < front.shape.lines
    → AsksRightly front.shape.total last (AtAny front.shape) (fetch_plan front asked line)
fetch_asks front asked line last is below =
    asks_bind front.shape.total (AtSlot front.shape (record { 0 = line }) Keep) (AtAny front.shape) _
    (request_plan front asked (record { 0 = line }) Keep) _ last
    (request_asks front.shape front asked (record { 0 = line }) Keep (record { front = is; same = refl })
    (line_inside front line is below) tt last)
    (λ a now ends h. subst (λ l. AsksRightly front.shape.total l (AtAny front.shape)
    (Ask (Answer line (a.1).line) a.0 (λ _. Done a))) (sym h.1.3)
    ((h.1.2, sym (ap (λ (x : Address). x.0) h.1.1), refl), λ x. h.0))

pub store_asks : (front : FrontState) (asked line : ℕ) (value : Line) (last : Last) → IsFront front
    → line < front.shape.lines → length value.0 ≡ 64
    → AsksRightly front.shape.total last (AtAny front.shape) (store_plan front asked line value)
store_asks front asked line value last is below long =
    asks_bind front.shape.total (AtSlot front.shape (record { 0 = line }) (Replace value)) (AtAny front.shape) _
    (request_plan front asked (record { 0 = line }) (Replace value)) _ last
    (request_asks front.shape front asked (record { 0 = line }) (Replace value) (record { front = is; same = refl })
    (line_inside front line is below) long last)
    (λ a now ends h. h.0)
