-- Which blocks are held after a plan, by their addresses, whatever is answered.
use Rattle.std.proofs.Common.{◌≡◌, ℕ, zero, suc, ◌+◌, Bool, true, false, List, ◌∷◌, take, Option, Some, None}
use Rattle.std.proofs.Common.{is_some, refl, sym, ap, ◌∙◌, subst}
use Rattle.std.specs.Prelude.{if◌then◌else◌}
use Rattle.std.specs.Option.{option_map_or}
use Rattle.request_plan.specs.Plan.{Plan, Done, Ask, Outcomes}
use Rattle.request_plan.proofs.Keeps.{Outcomes-bind}
use Rattle.asc_base.specs.Shape.{parent_in, children_in}
use Rattle.asc_base.specs.declared.shape.Shape.{Shape}
use Rattle.asc_base.specs.declared.block.Address.{Address}
use Rattle.posmap_counters.specs.Counters.{is_among, next_group}
use Rattle.posmap_counters.specs.Group.{GroupState, child_counter}
use Rattle.posmap_lookaside.specs.Addresses.{used}
use Rattle.posmap_lookaside.specs.Held.{held_at, promoted, changed, inserted, displaced, addresses_of}
use Rattle.posmap_lookaside.specs.declared.held.Held.{Held}
use Rattle.posmap_lookaside.proofs.AddressLaws.{is_some-held_at, addresses_of-promoted, addresses_of-changed}
use Rattle.posmap_lookaside.proofs.AddressLaws.{addresses_of-inserted}
use Rattle.oram_walk.specs.Front.{FrontState, with_held, stepped_by, stepped_under, group_at, full_parent}
use Rattle.oram_walk.specs.Plans.{FrontPlan, on, child_by, child_plan, children_plan, family_plan, full_plan}
use Rattle.oram_walk.specs.Plans.{group_plan}
use Rattle.oram_walk.specs.Plans.{step_plan, visit_plan, append_plan, hold_plan, refilled, refill_plan, found_plan}
use Rattle.oram_walk.specs.Plans.{walk_plan, request_plan}
use Rattle.oram_walk.specs.declared.slots.Access.{Access}
use Rattle.oram_walk.specs.declared.slots.Purpose.{Purpose}
use Rattle.oram_walk.specs.declared.slots.Purpose.TheVariants.{Refill}

-- the blocks held after the walk to a block under so many layers, one layer after another
abbrev pub walk_held : Shape → ℕ → ℕ → List ℕ → Address → List ℕ
walk_held shape plb zero held address = held
walk_held shape plb (suc above) held address =
    option_map_or (λ parent.
    let now = used held parent.0 in
    if is_among held parent.0 then now else take plb (parent.0 ∷ walk_held shape plb above now parent))
    (parent_in shape address) held

-- the shape and the room are those of before, and these addresses are held
pub record Holds (old : FrontState) (list : List ℕ) (now : FrontState) : Type 0 where
  pub shape : now.shape ≡ old.shape
  pub ic : now.ic ≡ old.ic
  pub plb : now.plb ≡ old.plb
  pub held : addresses_of now.held ≡ list

abbrev pub HoldsAfter : {A : Type 0} → FrontState → List ℕ → FrontPlan A → Type 0
HoldsAfter {A} old list plan = Outcomes (λ (r : FrontState × A). Holds old list (r.0)) plan

-- what follows for each outcome
pub Outcomes-all : {Q X B A : Type 0} (P R : A → Type 0) → ((a : A) → P a → R a) → (plan : Plan Q X B A)
    → Outcomes P plan → Outcomes R plan
Outcomes-all P R each (Done a) h = each a h
Outcomes-all P R each (Ask q b k) h = λ x. Outcomes-all P R each (k x) (h x)

-- a front end holds what it holds
pub holds_now : (state : FrontState) → Holds state (addresses_of state.held) state
holds_now state = record { shape = refl; ic = refl; plb = refl; held = refl }

pub on_holds : {A B : Type 0} (old : FrontState) (list list' : List ℕ) (plan : FrontPlan A)
    (next : FrontState → A → FrontPlan B) → HoldsAfter old list plan
    → ((now : FrontState) (a : A) → Holds old list now → HoldsAfter old list' (next now a))
    → HoldsAfter old list' (on plan next)
on_holds {A} {B} old list list' plan next h each =
    Outcomes-bind (λ (r : FrontState × A). Holds old list (r.0)) (λ (r : FrontState × B). Holds old list' (r.0))
    (λ (state : FrontState). state) plan (λ (x, y). next x y) h (λ r kept. each (r.0) (r.1) kept)

-- a block is changed, but not its address
changed_holds : (old now : FrontState) (list : List ℕ) (change : Held → Held) (address : Address)
    → ((held : Held) → (change held).address ≡ held.address)
    → Holds old list now → Holds old list (with_held now (changed change now.held address))
changed_holds old now list change address same h = record {
  shape = h.shape;
  ic = h.ic;
  plb = h.plb;
  held = addresses_of-changed change now.held address same ∙ h.held;
}

stepped_under-holds : (old now : FrontState) (list : List ℕ) (address parent : Address) (group : Option GroupState)
    → Holds old list now → Holds old list (stepped_under now address parent group)
stepped_under-holds old now list address parent None h = h
stepped_under-holds old now list address parent (Some group) h = changed_holds old now list _ parent (λ held. refl) h

stepped_by-holds : (old now : FrontState) (list : List ℕ) (address : Address) (parent : Option Address)
    → Holds old list now → Holds old list (stepped_by now address parent)
stepped_by-holds old now list address None h = record { shape = h.shape; ic = h.ic; plb = h.plb; held = h.held }
stepped_by-holds old now list address (Some parent) h =
    stepped_under-holds old now list address parent (group_at now.held parent) h

child_by-holds : (old now : FrontState) (list : List ℕ) (b : Bool) (access : Access)
    → Holds old list now → HoldsAfter old list (child_by b now access)
child_by-holds old now list true access h = h
child_by-holds old now list false access h = λ seen. h

children_plan-holds : (old now : FrontState) (list : List ℕ) (group : GroupState) (first child left asked : ℕ)
    → Holds old list now → HoldsAfter old list (children_plan group first child left now asked)
children_plan-holds old now list group first child zero asked h = h
children_plan-holds old now list group first child (suc left) asked h =
    on_holds old list list
    (child_plan now asked (record { 0 = first + child }) (child_counter group child)
    (next_group (child_counter group child)))
    (λ later end. children_plan group first (child + 1) left later end)
    (child_by-holds old _ list _ _ (changed_holds old now list _ (record { 0 = first + child }) (λ held. refl) h))
    (λ later end kept. children_plan-holds old later list group first (child + 1) left end kept)

family_plan-holds : (old now : FrontState) (list : List ℕ) (group : GroupState) (children : Option (Address × ℕ))
    (asked : ℕ) → Holds old list now → HoldsAfter old list (family_plan group children now asked)
family_plan-holds old now list group None asked h = h
family_plan-holds old now list group (Some (first, number)) asked h =
    children_plan-holds old now list group first.0 0 number asked h

full_plan-holds : (old now : FrontState) (list : List ℕ) (asked : ℕ) (full : Option (Address × GroupState))
    → Holds old list now → HoldsAfter old list (full_plan now asked full)
full_plan-holds old now list asked None h = h
full_plan-holds old now list asked (Some (parent, group)) h =
    on_holds old list list (family_plan group (children_in now.shape parent) now asked) _
    (family_plan-holds old now list group (children_in now.shape parent) asked h)
    (λ later end kept. changed_holds old later list _ parent (λ held. refl) kept)

-- An access that is asked for leaves the addresses, also where a group move comes first.
pub visit_plan-holds : (old now : FrontState) (list : List ℕ) (asked : ℕ) (address : Address) (purpose : Purpose)
    → Holds old list now → HoldsAfter old list (visit_plan now asked address purpose)
visit_plan-holds old now list asked address purpose h =
    on_holds old list list (group_plan now asked address) (λ later end. step_plan later end address purpose)
    (full_plan-holds old now list asked (full_parent now address) h)
    (λ later end kept. λ seen. stepped_by-holds old later list address (parent_in later.shape address) kept)

append_plan-holds : (old now : FrontState) (list : List ℕ) (last : Option Held)
    → Holds old list now → HoldsAfter old list (append_plan last now)
append_plan-holds old now list None h = h
append_plan-holds old now list (Some last) h = λ seen. h

hold_plan-holds : (old now : FrontState) (list : List ℕ) (held : Held)
    → Holds old list now → HoldsAfter old (take old.plb (held.address.0 ∷ list)) (hold_plan now held)
hold_plan-holds old now list held kept = λ room.
    append_plan-holds old (with_held now (inserted now.plb held now.held)) (take old.plb (held.address.0 ∷ list))
    (displaced now.plb held now.held) (record {
      shape = kept.shape;
      ic = kept.ic;
      plb = kept.plb;
      held = addresses_of-inserted now.plb held now.held
          ∙ ap (λ n. take n (held.address.0 ∷ addresses_of now.held)) kept.plb
          ∙ ap (λ l. take old.plb (held.address.0 ∷ l)) kept.held;
    })

-- A refill puts the address in front, as far as there is room.
pub refill_plan-holds : (old now : FrontState) (list : List ℕ) (asked : ℕ) (address : Address)
    → Holds old list now → HoldsAfter old (take old.plb (address.0 ∷ list)) (refill_plan now asked address)
refill_plan-holds old now list asked address h =
    on_holds old list (take old.plb (address.0 ∷ list)) (visit_plan now asked address Refill)
    (λ later seen. on (hold_plan later (refilled later address seen.line)) (λ last _. Done (last, seen.end)))
    (visit_plan-holds old now list asked address Refill h)
    (λ later seen kept.
    on_holds old (take old.plb (address.0 ∷ list)) (take old.plb (address.0 ∷ list))
    (hold_plan later (refilled later address seen.line)) (λ last _. Done (last, seen.end))
    (hold_plan-holds old later list (refilled later address seen.line) kept) (λ last unit done. done))

by_found : (old now : FrontState) (used_list rest_list : List ℕ) (b : Bool) (asked : ℕ) (rest : FrontPlan ℕ)
    → Holds old used_list now → HoldsAfter old rest_list rest
    → HoldsAfter old (if b then used_list else rest_list) (found_plan b now asked rest)
by_found old now used_list rest_list true asked rest h k = h
by_found old now used_list rest_list false asked rest h k = k

promoted_holds : (old now : FrontState) (list : List ℕ) (parent : Address)
    → Holds old list now → Holds old (used list parent.0) (with_held now (promoted now.held parent))
promoted_holds old now list parent h = record {
  shape = h.shape;
  ic = h.ic;
  plb = h.plb;
  held = addresses_of-promoted now.held parent ∙ ap (λ l. used l parent.0) h.held;
}

-- the walk one layer up, by the parent
abbrev listed : Shape → ℕ → ℕ → List ℕ → Option Address → List ℕ
listed shape plb above list o =
    option_map_or (λ parent.
    let next = used list parent.0 in
    if is_among list parent.0 then next else take plb (parent.0 ∷ walk_held shape plb above next parent)) o list

abbrev planned : FrontState → ℕ → ℕ → Option Address → FrontPlan ℕ
planned now above asked o =
    option_map_or (λ parent.
    let next = with_held now (promoted now.held parent) in
    found_plan (is_some (held_at now.held parent)) next asked
    (on (walk_plan above next asked parent) (λ later end. refill_plan later end parent))) o (Done (now, asked))

-- After the walk its list is held.
pub walk_plan-holds : (old now : FrontState) (list : List ℕ) (above asked : ℕ) (address : Address) → Holds old list now
    → HoldsAfter old (walk_held old.shape old.plb above list address) (walk_plan above now asked address)
walk_plan-holds old now list zero asked address h = h
walk_plan-holds old now list (suc above) asked address h =
    subst (λ (o : Option Address).
    HoldsAfter old (listed old.shape old.plb above list o) (planned now above asked (parent_in now.shape address)))
    (ap (λ (s : Shape). parent_in s address) h.shape)
    (by (λ parent kept.
    walk_plan-holds old (with_held now (promoted now.held parent)) (used list parent.0) above asked parent kept)
    (parent_in now.shape address))
  where
    by : ((parent : Address) → Holds old (used list parent.0) (with_held now (promoted now.held parent))
        → HoldsAfter old (walk_held old.shape old.plb above (used list parent.0) parent)
        (walk_plan above (with_held now (promoted now.held parent)) asked parent))
        → (o : Option Address) → HoldsAfter old (listed old.shape old.plb above list o) (planned now above asked o)
    by again None = h
    by again (Some parent) =
        let next : FrontState = with_held now (promoted now.held parent) in
        let below : List ℕ = walk_held old.shape old.plb above (used list parent.0) parent in
        let rest : FrontPlan ℕ =
        on (walk_plan above next asked parent) (λ later end. refill_plan later end parent) in
        let kept = promoted_holds old now list parent h in
        let same : is_some (held_at now.held parent) ≡ is_among list parent.0 =
        is_some-held_at now.held parent ∙ ap (λ l. is_among l parent.0) h.held in
        subst
        (λ b. HoldsAfter old (if is_among list parent.0 then used list parent.0 else take old.plb
        (parent.0 ∷ below))
        (found_plan b next asked rest)) (sym same)
        (by_found old next (used list parent.0) (take old.plb (parent.0 ∷ below))
        (is_among list parent.0) asked rest kept
        (on_holds old below (take old.plb (parent.0 ∷ below)) (walk_plan above next asked parent)
        (λ later end. refill_plan later end parent) (again parent kept)
        (λ later end kept'. refill_plan-holds old later below end parent kept')))

-- After a request its walk's list is held.
pub request_plan-holds : (old : FrontState) (asked : ℕ) (address : Address) (purpose : Purpose)
    → HoldsAfter old (walk_held old.shape old.plb old.shape.layers (addresses_of old.held) address)
    (request_plan old asked address purpose)
request_plan-holds old asked address purpose =
    let list = walk_held old.shape old.plb old.shape.layers (addresses_of old.held) address in
    on_holds old list list (walk_plan old.shape.layers old asked address)
    (λ now end. visit_plan now end address purpose)
    (walk_plan-holds old old (addresses_of old.held) old.shape.layers asked address (holds_now old))
    (λ now end kept. visit_plan-holds old now list end address purpose kept)
