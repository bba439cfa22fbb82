-- What the calls of a front end ask of the slots, as plans. There are plans of every state, also of one in which the
-- parent of an accessed block isn't held: its counter is (0,0) there.
use Rattle.std.specs.Prelude.{ℕ, ◌+◌, Bool, true, false, is_some, Option, Some, None}
use Rattle.std.proofs.Common.{zero, suc}
use Rattle.std.specs.Option.{option_map_or}
use Rattle.request_plan.specs.Plan.{Plan, Done, Ask, bind}
use Rattle.asc_base.specs.Shape.{parent_in, children_in}
use Rattle.asc_base.specs.declared.block.Address.{Address}
use Rattle.asc_base.specs.declared.block.Counter.{Counter}
use Rattle.asc_base.specs.declared.block.Line.{Line}
use Rattle.asc_base.specs.declared.block.Message.{Message}
use Rattle.posmap_counters.specs.Counters.{next_group}
use Rattle.posmap_counters.specs.Group.{GroupState, child_counter, moved_group, line_in, group_in}
use Rattle.posmap_lookaside.specs.Held.{held_at, promoted, changed, inserted, displaced, with_group, with_counter}
use Rattle.posmap_lookaside.specs.declared.held.Held.{Held}
use Rattle.oram_walk.specs.Front.{FrontState, counter_in, with_held, stepped, full_parent}
use Rattle.oram_walk.specs.Request.{Request, Slot, Append, Answer, Room}
use Rattle.oram_walk.specs.declared.slots.Access.{Access}
use Rattle.oram_walk.specs.declared.slots.Purpose.{Purpose}
use Rattle.oram_walk.specs.declared.slots.Purpose.TheVariants.{Refill, Keep, Replace}
use Rattle.oram_walk.specs.declared.slots.Seen.{Seen}

-- A plan of the front end leaves a state where it is stopped, and ends with a state and an outcome.
abbrev pub FrontPlan : Type 0 → Type 0
FrontPlan A = Plan Request Seen FrontState (FrontState × A)

-- one plan after another
abbrev pub on : {A B : Type 0} → FrontPlan A → (FrontState → A → FrontPlan B) → FrontPlan B
on plan next = bind (λ state. state) plan (λ (state, a). next state a)

-- one access
abbrev pub access_plan : FrontState → Access → FrontPlan Seen
access_plan state access = Ask (Slot access) state (λ seen. Done (state, seen))

-- a child's part of a group move, where it is held and where it isn't; the outcome of a move is the last slot's end
abbrev pub child_by : Bool → FrontState → Access → FrontPlan ℕ
child_by true state access = Done (state, access.asked)
child_by false state access = Ask (Slot access) state (λ seen. Done (state, seen.end))

-- One child of a group move: one that is held has the next counter, and any other is accessed and put back under it.
abbrev pub child_plan : FrontState → ℕ → Address → Counter → Counter → FrontPlan ℕ
child_plan state asked address counter next =
    child_by (is_some (held_at state.held address))
    (with_held state (changed (with_counter next) state.held address))
    (record { asked = asked; address = address; counter = counter; next = next; purpose = Keep })

-- so many children of a family from one on, in rising order
abbrev pub children_plan : GroupState → ℕ → ℕ → ℕ → FrontState → ℕ → FrontPlan ℕ
children_plan group first child zero state asked = Done (state, asked)
children_plan group first child (suc left) state asked =
    on (child_plan state asked (record { 0 = first + child }) (child_counter group child)
    (next_group (child_counter group child)))
    (λ now end. children_plan group first (child + 1) left now end)

-- all children of a family; a data line has none
abbrev pub family_plan : GroupState → Option (Address × ℕ) → FrontState → ℕ → FrontPlan ℕ
family_plan group None state asked = Done (state, asked)
family_plan group (Some (first, number)) state asked = children_plan group first.0 0 number state asked

-- A group move: all children of a held block, and then its group.
abbrev pub move_plan : FrontState → ℕ → Address → GroupState → FrontPlan ℕ
move_plan state asked parent group =
    on (family_plan group (children_in state.shape parent) state asked)
    (λ now end. Done (with_held now (changed (with_group (moved_group group)) now.held parent), end))

abbrev pub full_plan : FrontState → ℕ → Option (Address × GroupState) → FrontPlan ℕ
full_plan state asked None = Done (state, asked)
full_plan state asked (Some (parent, group)) = move_plan state asked parent group

-- The group move that has to come before an access to a block, where one has to.
abbrev pub group_plan : FrontState → ℕ → Address → FrontPlan ℕ
group_plan state asked address = full_plan state asked (full_parent state address)

-- The parent of a block is stepped, and the block accessed.
abbrev pub step_plan : FrontState → ℕ → Address → Purpose → FrontPlan Seen
step_plan state asked address purpose =
    let now = stepped state address in
    access_plan now (record {
      asked = asked;
      address = address;
      counter = counter_in state address;
      next = counter_in now address;
      purpose = purpose;
    })

-- An access that is asked for, after the group move that it may need.
abbrev pub visit_plan : FrontState → ℕ → Address → Purpose → FrontPlan Seen
visit_plan state asked address purpose =
    on (group_plan state asked address) (λ now end. step_plan now end address purpose)

-- the message of a displaced block: its line is that of its group, under its own counter
abbrev pub message_of : Held → Message
message_of held = record {
  address = held.address;
  counter = held.counter;
  line = record { 0 = line_in held.group };
}

abbrev pub append_plan : Option Held → FrontState → FrontPlan (Unit {0})
append_plan None state = Done (state, tt)
append_plan (Some last) state = Ask (Append (message_of last)) state (λ _. Done (state, tt))

-- A block comes to be held, and the one that it displaces is appended.
abbrev pub hold_plan : FrontState → Held → FrontPlan (Unit {0})
hold_plan state held =
    Ask Room state
    (λ _. append_plan (displaced state.plb held state.held) (with_held state (inserted state.plb held state.held)))

-- the block of this address that comes to be held with this line
abbrev pub refilled : FrontState → Address → Line → Held
refilled state address line =
    record { address = address; counter = counter_in state address; group = group_in line.0 }

-- A refill: a block is accessed, and held under the counter that it has then, with the group in its line.
abbrev pub refill_plan : FrontState → ℕ → Address → FrontPlan ℕ
refill_plan state asked address =
    on (visit_plan state asked address Refill)
    (λ now seen. on (hold_plan now (refilled now address seen.line)) (λ last _. Done (last, seen.end)))

-- where the parent is held, the walk ends
abbrev pub found_plan : Bool → FrontState → ℕ → FrontPlan ℕ → FrontPlan ℕ
found_plan true state asked rest = Done (state, asked)
found_plan false state asked rest = rest

-- The walk to a block under at most so many layers: its parent is used where it is held; else the walk to the parent
-- comes first, and then its refill.
abbrev pub walk_plan : ℕ → FrontState → ℕ → Address → FrontPlan ℕ
walk_plan zero state asked address = Done (state, asked)
walk_plan (suc above) state asked address =
    option_map_or (λ parent.
    let now = with_held state (promoted state.held parent) in
    found_plan (is_some (held_at state.held parent)) now asked
    (on (walk_plan above now asked parent) (λ later end. refill_plan later end parent)))
    (parent_in state.shape address) (Done (state, asked))

-- The walk to a line, and its access.
abbrev pub request_plan : FrontState → ℕ → Address → Purpose → FrontPlan Seen
request_plan state asked address purpose =
    on (walk_plan state.shape.layers state asked address) (λ now end. visit_plan now end address purpose)

-- A fetch: the line that was seen is answered.
abbrev pub fetch_plan : FrontState → ℕ → ℕ → FrontPlan Seen
fetch_plan state asked line =
    on (request_plan state asked (record { 0 = line }) Keep)
    (λ now seen. Ask (Answer line seen.line) now (λ _. Done (now, seen)))

-- A store: a line takes the place of the one that was seen.
abbrev pub store_plan : FrontState → ℕ → ℕ → Line → FrontPlan ℕ
store_plan state asked line value =
    on (request_plan state asked (record { 0 = line }) (Replace value)) (λ now seen. Done (now, seen.end))
