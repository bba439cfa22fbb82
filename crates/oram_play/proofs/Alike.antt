-- The walks of a front end ask the same whenever they are asked for, if they are answered with the same lines.
use Rattle.std.proofs.Common.{◌≡◌, ◌+◌, ℕ, zero, suc, Option, None, Some, refl, sym, subst, is_some, Bool, true, false}
use Rattle.std.specs.Option.{option_map_or}
use Rattle.request_plan.specs.Plan.{Done, Ask}
use Rattle.asc_base.specs.Shape.{parent_in, children_in}
use Rattle.asc_base.specs.declared.block.Address.{Address}
use Rattle.asc_base.specs.declared.block.Line.{Line}
use Rattle.oram_walk.specs.Front.{FrontState, full_parent, with_held}
use Rattle.oram_walk.specs.Plans.{FrontPlan, on, child_by, child_plan, children_plan, family_plan, full_plan}
use Rattle.oram_walk.specs.Plans.{group_plan, step_plan, visit_plan, append_plan, hold_plan, refill_plan, refilled}
use Rattle.oram_walk.specs.Plans.{found_plan, walk_plan, request_plan, fetch_plan, store_plan}
use Rattle.oram_walk.specs.Request.{Request, Slot, Append, Answer, Room}
use Rattle.oram_walk.specs.declared.slots.Access.{Access}
use Rattle.oram_walk.specs.declared.slots.Purpose.{Purpose}
use Rattle.oram_walk.specs.declared.slots.Seen.{Seen}
use Rattle.posmap_counters.specs.Group.{GroupState}
use Rattle.posmap_lookaside.specs.Held.{held_at, promoted}
use Rattle.posmap_lookaside.specs.declared.held.Held.{Held}

-- the same request, asked for at a time
abbrev pub asked_at : ℕ → Request → Request
asked_at time (Slot access) = Slot (record access { asked = time })
asked_at time (Append message) = Append message
asked_at time (Answer line value) = Answer line value
asked_at time Room = Room

-- two answers to a request have the same line, if it asks for one
abbrev pub SameAnswer : Request → Seen → Seen → Type 0
SameAnswer (Slot access) x y = y.line ≡ x.line
SameAnswer (Append message) x y = Unit {0}
SameAnswer (Answer line value) x y = Unit {0}
SameAnswer Room x y = Unit {0}

-- Two plans ask the same but for the times, and end in the same state with outcomes that are related, whatever answers
-- come with the same lines.
abbrev pub AlikeInTime : {A : Type 0} → (A → A → Type 0) → FrontPlan A → FrontPlan A → Type 0
AlikeInTime R (Done a) (Done d) = (d.0 ≡ a.0) × R a.1 d.1
AlikeInTime R (Ask q b k) (Ask r c l) =
    ((time : ℕ) × (r ≡ asked_at time q)) × ((x y : Seen) → SameAnswer q x y → AlikeInTime R (k x) (l y))
AlikeInTime R (Done a) (Ask r c l) = ⊥
AlikeInTime R (Ask q b k) (Done d) = ⊥

-- any outcomes, and the same lines
abbrev pub AnyTwo : {A : Type 0} → A → A → Type 0
AnyTwo a d = Unit {0}

abbrev pub SameLine : Seen → Seen → Type 0
SameLine x y = y.line ≡ x.line

alike_on : {A D : Type 0} (R : A → A → Type 0) (Q : D → D → Type 0) (p m : FrontPlan A)
    (next : FrontState → A → FrontPlan D) (then : FrontState → A → FrontPlan D) → AlikeInTime R p m
    → ((s : FrontState) (a d : A) → R a d → AlikeInTime Q (next s a) (then s d))
    → AlikeInTime Q (on p next) (on m then)
alike_on R Q (Done a) (Done d) next then h each =
    subst (λ s. AlikeInTime Q (next a.0 a.1) (then s d.1)) (sym h.0) (each a.0 a.1 d.1 h.1)
alike_on R Q (Ask q b k) (Ask r c l) next then h each =
    (h.0, λ x y same. alike_on R Q (k x) (l y) next then (h.1 x y same) each)
alike_on R Q (Done a) (Ask r c l) next then h each = absurd h
alike_on R Q (Ask q b k) (Done d) next then h each = absurd h

child_alike : (held : Bool) (state : FrontState) (access : Access) (time : ℕ)
    → AlikeInTime AnyTwo (child_by held state access) (child_by held state (record access { asked = time }))
child_alike true state access time = (refl, tt)
child_alike false state access time = ((time, refl), λ x y same. (refl, tt))

children_alike : (group : GroupState) (first child left : ℕ) (state : FrontState) (one two : ℕ)
    → AlikeInTime AnyTwo (children_plan group first child left state one)
    (children_plan group first child left state two)
children_alike group first child zero state one two = (refl, tt)
children_alike group first child (suc left) state one two =
    alike_on AnyTwo AnyTwo (child_plan state one _ _ _) (child_plan state two _ _ _) _ _ (child_alike _ _ _ two)
    (λ s a d h. children_alike group first (child + 1) left s a d)

family_alike : (group : GroupState) (family : Option (Address × ℕ)) (state : FrontState) (one two : ℕ)
    → AlikeInTime AnyTwo (family_plan group family state one) (family_plan group family state two)
family_alike group None state one two = (refl, tt)
family_alike group (Some (first, number)) state one two = children_alike group first.0 0 number state one two

full_alike : (state : FrontState) (full : Option (Address × GroupState)) (one two : ℕ)
    → AlikeInTime AnyTwo (full_plan state one full) (full_plan state two full)
full_alike state None one two = (refl, tt)
full_alike state (Some (parent, group)) one two =
    alike_on AnyTwo AnyTwo (family_plan group (children_in state.shape parent) state one)
    (family_plan group (children_in state.shape parent) state two) _ _
    (family_alike group (children_in state.shape parent) state one two) (λ s a d h. (refl, tt))

visit_alike : (state : FrontState) (address : Address) (purpose : Purpose) (one two : ℕ)
    → AlikeInTime SameLine (visit_plan state one address purpose) (visit_plan state two address purpose)
visit_alike state address purpose one two =
    alike_on AnyTwo SameLine (group_plan state one address) (group_plan state two address)
    (λ now end. step_plan now end address purpose) (λ now end. step_plan now end address purpose)
    (full_alike state (full_parent state address) one two) (λ s a d h. ((d, refl), λ x y same. (refl, same)))

append_alike : (last : Option Held) (state : FrontState)
    → AlikeInTime AnyTwo (append_plan last state) (append_plan last state)
append_alike None state = (refl, tt)
append_alike (Some last) state = ((0, refl), λ x y same. (refl, tt))

hold_alike : (state : FrontState) (held : Held) → AlikeInTime AnyTwo (hold_plan state held) (hold_plan state held)
hold_alike state held = ((0, refl), λ x y same. append_alike _ _)

held_alike : (state : FrontState) (address : Address) (a d : Seen) → SameLine a d
    → AlikeInTime AnyTwo (on (hold_plan state (refilled state address a.line)) (λ last _. Done (last, a.end)))
    (on (hold_plan state (refilled state address d.line)) (λ last _. Done (last, d.end)))
held_alike state address a d same =
    alike_on AnyTwo AnyTwo (hold_plan state (refilled state address a.line))
    (hold_plan state (refilled state address d.line)) _ _
    (subst (λ l. AlikeInTime AnyTwo (hold_plan state (refilled state address a.line))
    (hold_plan state (refilled state address l))) (sym same) (hold_alike state (refilled state address a.line)))
    (λ s u v h. (refl, tt))

refill_alike : (state : FrontState) (address : Address) (one two : ℕ)
    → AlikeInTime AnyTwo (refill_plan state one address) (refill_plan state two address)
refill_alike state address one two =
    alike_on SameLine AnyTwo (visit_plan state one address _) (visit_plan state two address _)
    (λ now seen. on (hold_plan now (refilled now address seen.line)) (λ last _. Done (last, seen.end)))
    (λ now seen. on (hold_plan now (refilled now address seen.line)) (λ last _. Done (last, seen.end)))
    (visit_alike state address _ one two) (λ s a d h. held_alike s address a d h)

found_alike : (found : Bool) (state : FrontState) (one two : ℕ) (rest other : FrontPlan ℕ)
    → AlikeInTime AnyTwo rest other
    → AlikeInTime AnyTwo (found_plan found state one rest) (found_plan found state two other)
found_alike true state one two rest other h = (refl, tt)
found_alike false state one two rest other h = h

-- the walk to a parent, and its refill
abbrev parent_plan : ℕ → FrontState → ℕ → Option Address → FrontPlan ℕ
parent_plan above state asked parent =
    option_map_or (λ (parent : Address).
    let now = with_held state (promoted state.held parent) in
    found_plan (is_some (held_at state.held parent)) now asked
    (on (walk_plan above now asked parent) (λ later end. refill_plan later end parent)))
    parent (Done (state, asked))

parent_alike : (above : ℕ) (state : FrontState) (parent : Option Address) (one two : ℕ)
    → ((state : FrontState) (address : Address) (one two : ℕ)
    → AlikeInTime AnyTwo (walk_plan above state one address) (walk_plan above state two address))
    → AlikeInTime AnyTwo (parent_plan above state one parent) (parent_plan above state two parent)
parent_alike above state None one two walk = (refl, tt)
parent_alike above state (Some parent) one two walk =
    let now : FrontState = with_held state (promoted state.held parent) in
    found_alike (is_some (held_at state.held parent)) now one two _ _
    (alike_on AnyTwo AnyTwo (walk_plan above now one parent) (walk_plan above now two parent)
    (λ later end. refill_plan later end parent) (λ later end. refill_plan later end parent)
    (walk now parent one two) (λ s a d h. refill_alike s parent a d))

walk_alike : (above : ℕ) (state : FrontState) (address : Address) (one two : ℕ)
    → AlikeInTime AnyTwo (walk_plan above state one address) (walk_plan above state two address)
walk_alike zero state address one two = (refl, tt)
walk_alike (suc above) state address one two =
    parent_alike above state (parent_in state.shape address) one two (walk_alike above)

request_alike : (state : FrontState) (address : Address) (purpose : Purpose) (one two : ℕ)
    → AlikeInTime SameLine (request_plan state one address purpose) (request_plan state two address purpose)
request_alike state address purpose one two =
    alike_on AnyTwo SameLine (walk_plan state.shape.layers state one address)
    (walk_plan state.shape.layers state two address) (λ now end. visit_plan now end address purpose)
    (λ now end. visit_plan now end address purpose) (walk_alike state.shape.layers state address one two)
    (λ s a d h. visit_alike s address purpose a d)

-- a fetch and a store
answer_alike : (line : ℕ) (s : FrontState) (a d : Seen) → SameLine a d
    → AlikeInTime SameLine (Ask (Answer line a.line) s (λ _. Done (s, a)))
    (Ask (Answer line d.line) s (λ _. Done (s, d)))
answer_alike line s a d same = ((0, λ i. Answer line (same i)), λ x y h. (refl, same))

pub fetch_alike : (state : FrontState) (asked line : ℕ)
    → AlikeInTime SameLine (fetch_plan state asked line) (fetch_plan state asked line)
fetch_alike state asked line =
    alike_on SameLine SameLine (request_plan state asked (record { 0 = line }) _)
    (request_plan state asked (record { 0 = line }) _)
    (λ now seen. Ask (Answer line seen.line) now (λ _. Done (now, seen)))
    (λ now seen. Ask (Answer line seen.line) now (λ _. Done (now, seen)))
    (request_alike state (record { 0 = line }) _ asked asked) (λ s a d h. answer_alike line s a d h)

pub store_alike : (state : FrontState) (asked line : ℕ) (value : Line)
    → AlikeInTime AnyTwo (store_plan state asked line value) (store_plan state asked line value)
store_alike state asked line value =
    alike_on SameLine AnyTwo (request_plan state asked (record { 0 = line }) _)
    (request_plan state asked (record { 0 = line }) _) (λ now seen. Done (now, seen.end))
    (λ now seen. Done (now, seen.end))
    (request_alike state (record { 0 = line }) _ asked asked) (λ s a d h. (refl, tt))
