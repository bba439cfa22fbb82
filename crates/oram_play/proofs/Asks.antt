-- The walks of a front end ask access by access, however they go.
use Rattle.std.proofs.Common.{◌≡◌, ◌+◌, ℕ, zero, suc, Option, None, Some, refl, sym, ◌∙◌, is_some, Bool, true, false}
use Rattle.std.specs.Option.{option_map_or}
use Rattle.request_plan.specs.Plan.{Plan, Done, Ask, bind}
use Rattle.asc_base.specs.Shape.{parent_in, children_in}
use Rattle.asc_base.specs.declared.block.Address.{Address}
use Rattle.asc_base.specs.declared.block.Line.{Line}
use Rattle.oram_walk.specs.Front.{FrontState, full_parent, with_held}
use Rattle.oram_walk.specs.Plans.{FrontPlan, on, child_by, child_plan, children_plan, family_plan, full_plan}
use Rattle.oram_walk.specs.Plans.{group_plan, visit_plan, append_plan, hold_plan, refill_plan, found_plan, walk_plan}
use Rattle.oram_walk.specs.Plans.{request_plan, fetch_plan, store_plan}
use Rattle.oram_walk.specs.Request.{Request, Slot, Append, Answer, Room}
use Rattle.oram_walk.specs.declared.slots.Access.{Access}
use Rattle.oram_walk.specs.declared.slots.Purpose.{Purpose}
use Rattle.oram_walk.specs.declared.slots.Seen.{Seen}
use Rattle.posmap_counters.specs.Group.{GroupState}
use Rattle.posmap_lookaside.specs.Held.{held_at, promoted}
use Rattle.posmap_lookaside.specs.declared.held.Held.{Held}

-- The first access of a plan is asked for at a time, and each other one at the end of the one before; the plan appends
-- and answers only behind a slot, one time each. It is told whether it begins behind a slot, and what is known at its
-- end: whether it ends behind one, the end of the last access, and the outcome.
abbrev pub AsksInTurn : {B A : Type 0} → Bool → ℕ → (Bool → ℕ → A → Type 0) → Plan Request Seen B A → Type 0
AsksInTurn behind asked P (Done a) = P behind asked a
AsksInTurn behind asked P (Ask (Slot access) b k) =
    (access.asked ≡ asked) × ((x : Seen) → AsksInTurn true x.end P (k x))
AsksInTurn behind asked P (Ask (Append message) b k) =
    (behind ≡ true) × ((x : Seen) → AsksInTurn false asked P (k x))
AsksInTurn behind asked P (Ask (Answer line value) b k) =
    (behind ≡ true) × ((x : Seen) → AsksInTurn false asked P (k x))
AsksInTurn behind asked P (Ask Room b k) = (x : Seen) → AsksInTurn behind asked P (k x)

-- the outcome is the end of the last access
abbrev pub AtEnd : Bool → ℕ → FrontState × ℕ → Type 0
AtEnd behind end outcome = outcome.1 ≡ end

-- it ends behind a slot, whose end was seen
abbrev pub AtSeen : Bool → ℕ → FrontState × Seen → Type 0
AtSeen behind end outcome = (behind ≡ true) × ((outcome.1).end ≡ end)

-- the end was seen
abbrev pub AtAnswer : Bool → ℕ → FrontState × Seen → Type 0
AtAnswer behind end outcome = (outcome.1).end ≡ end

-- no access came since
abbrev pub AtSame : ℕ → Bool → ℕ → FrontState × Unit {0} → Type 0
AtSame asked behind end outcome = end ≡ asked

pub asks_bind : {B C A D : Type 0} (P : Bool → ℕ → A → Type 0) (Q : Bool → ℕ → D → Type 0) (put : B → C)
    (p : Plan Request Seen B A) (next : A → Plan Request Seen C D) (behind : Bool) (asked : ℕ)
    → AsksInTurn behind asked P p
    → ((a : A) (b : Bool) (end : ℕ) → P b end a → AsksInTurn b end Q (next a))
    → AsksInTurn behind asked Q (bind put p next)
asks_bind P Q put (Done a) next behind asked h each = each a behind asked h
asks_bind P Q put (Ask (Slot access) b k) next behind asked h each =
    (h.0, λ x. asks_bind P Q put (k x) next true x.end (h.1 x) each)
asks_bind P Q put (Ask (Append message) b k) next behind asked h each =
    (h.0, λ x. asks_bind P Q put (k x) next false asked (h.1 x) each)
asks_bind P Q put (Ask (Answer line value) b k) next behind asked h each =
    (h.0, λ x. asks_bind P Q put (k x) next false asked (h.1 x) each)
asks_bind P Q put (Ask Room b k) next behind asked h each =
    λ x. asks_bind P Q put (k x) next behind asked (h x) each

child_asks : (held behind : Bool) (state : FrontState) (access : Access) (at : ℕ) → access.asked ≡ at
    → AsksInTurn behind at AtEnd (child_by held state access)
child_asks true behind state access at is = is
child_asks false behind state access at is = (is, λ x. refl)

children_asks : (group : GroupState) (first child left : ℕ) (state : FrontState) (asked : ℕ) (behind : Bool) (at : ℕ)
    → asked ≡ at → AsksInTurn behind at AtEnd (children_plan group first child left state asked)
children_asks group first child zero state asked behind at is = is
children_asks group first child (suc left) state asked behind at is =
    asks_bind AtEnd AtEnd _ (child_plan state asked _ _ _) _ behind at (child_asks _ behind _ _ at is)
    (λ a b end h. children_asks group first (child + 1) left a.0 a.1 b end h)

family_asks : (group : GroupState) (family : Option (Address × ℕ)) (state : FrontState) (asked : ℕ) (behind : Bool)
    (at : ℕ) → asked ≡ at → AsksInTurn behind at AtEnd (family_plan group family state asked)
family_asks group None state asked behind at is = is
family_asks group (Some (first, number)) state asked behind at is =
    children_asks group first.0 0 number state asked behind at is

full_asks : (state : FrontState) (asked : ℕ) (full : Option (Address × GroupState)) (behind : Bool) (at : ℕ)
    → asked ≡ at → AsksInTurn behind at AtEnd (full_plan state asked full)
full_asks state asked None behind at is = is
full_asks state asked (Some (parent, group)) behind at is =
    asks_bind AtEnd AtEnd _ (family_plan group (children_in state.shape parent) state asked) _ behind at
    (family_asks group (children_in state.shape parent) state asked behind at is) (λ a b end h. h)

visit_asks : (state : FrontState) (asked : ℕ) (address : Address) (purpose : Purpose) (behind : Bool) (at : ℕ)
    → asked ≡ at → AsksInTurn behind at AtSeen (visit_plan state asked address purpose)
visit_asks state asked address purpose behind at is =
    asks_bind AtEnd AtSeen _ (group_plan state asked address) _ behind at
    (full_asks state asked (full_parent state address) behind at is) (λ a b end h. (h, λ x. (refl, refl)))

append_asks : (last : Option Held) (state : FrontState) (behind : Bool) (at : ℕ) → behind ≡ true
    → AsksInTurn behind at (AtSame at) (append_plan last state)
append_asks None state behind at is = refl
append_asks (Some last) state behind at is = (is, λ x. refl)

hold_asks : (state : FrontState) (held : Held) (behind : Bool) (at : ℕ) → behind ≡ true
    → AsksInTurn behind at (AtSame at) (hold_plan state held)
hold_asks state held behind at is = λ x. append_asks _ _ behind at is

refill_asks : (state : FrontState) (asked : ℕ) (address : Address) (behind : Bool) (at : ℕ) → asked ≡ at
    → AsksInTurn behind at AtEnd (refill_plan state asked address)
refill_asks state asked address behind at is =
    asks_bind AtSeen AtEnd _ (visit_plan state asked address _) _ behind at
    (visit_asks state asked address _ behind at is)
    (λ a b end h. asks_bind (AtSame end) AtEnd _ (hold_plan a.0 _) _ b end (hold_asks a.0 _ b end h.0)
    (λ c d last same. h.1 ∙ sym same))

found_asks : (found behind : Bool) (state : FrontState) (asked : ℕ) (rest : FrontPlan ℕ) (at : ℕ) → asked ≡ at
    → AsksInTurn behind at AtEnd rest → AsksInTurn behind at AtEnd (found_plan found state asked rest)
found_asks true behind state asked rest at is h = is
found_asks false behind state asked rest at is h = h

parent_asks : (above : ℕ) (state : FrontState) (asked : ℕ) (parent : Option Address) (behind : Bool) (at : ℕ)
    → asked ≡ at
    → ((state : FrontState) (asked : ℕ) (address : Address) (behind : Bool) (at : ℕ) → asked ≡ at
    → AsksInTurn behind at AtEnd (walk_plan above state asked address))
    → AsksInTurn behind at AtEnd (option_map_or (λ (parent : Address).
    let now = with_held state (promoted state.held parent) in
    found_plan (is_some (held_at state.held parent)) now asked
    (on (walk_plan above now asked parent) (λ later end. refill_plan later end parent)))
    parent (Done (state, asked)))
parent_asks above state asked None behind at is walk = is
parent_asks above state asked (Some parent) behind at is walk =
    found_asks (is_some (held_at state.held parent)) behind _ asked _ at is
    (asks_bind AtEnd AtEnd _ (walk_plan above _ asked parent) _ behind at (walk _ asked parent behind at is)
    (λ a b end h. refill_asks a.0 a.1 parent b end h))

walk_asks : (above : ℕ) (state : FrontState) (asked : ℕ) (address : Address) (behind : Bool) (at : ℕ) → asked ≡ at
    → AsksInTurn behind at AtEnd (walk_plan above state asked address)
walk_asks zero state asked address behind at is = is
walk_asks (suc above) state asked address behind at is =
    parent_asks above state asked (parent_in state.shape address) behind at is (walk_asks above)

request_asks : (state : FrontState) (asked : ℕ) (address : Address) (purpose : Purpose)
    → AsksInTurn false asked AtSeen (request_plan state asked address purpose)
request_asks state asked address purpose =
    asks_bind AtEnd AtSeen _ (walk_plan state.shape.layers state asked address) _ false asked
    (walk_asks state.shape.layers state asked address false asked refl)
    (λ a b end h. visit_asks a.0 a.1 address purpose b end h)

-- a fetch and a store
pub fetch_asks : (state : FrontState) (asked line : ℕ) → AsksInTurn false asked AtAnswer (fetch_plan state asked line)
fetch_asks state asked line =
    asks_bind AtSeen AtAnswer _ (request_plan state asked (record { 0 = line }) _) _ false asked
    (request_asks state asked (record { 0 = line }) _) (λ a b end h. (h.0, λ x. h.1))

pub store_asks : (state : FrontState) (asked line : ℕ) (value : Line)
    → AsksInTurn false asked AtEnd (store_plan state asked line value)
store_asks state asked line value =
    asks_bind AtSeen AtEnd _ (request_plan state asked (record { 0 = line }) _) _ false asked
    (request_asks state asked (record { 0 = line }) _) (λ a b end h. h.1)
