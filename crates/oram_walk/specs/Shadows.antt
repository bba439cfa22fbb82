-- What the roots and the held groups say of an access that is asked for, whatever is answered: what it shows, and what
-- they are afterwards.
use Rattle.std.specs.Prelude.{◌≡◌, ◌≢◌, ℕ, ◌+◌, ◌-◌, ◌%◌, ◌^◌, Bool, ◌&&◌, nat_le, not, if◌then◌else◌}
use Rattle.std.specs.Prelude.{List, [], ◌∷◌, ◌++◌, map, filter, Option, Some, None, slice_index, option_map}
use Rattle.std.specs.List.{range_with_len}
use Rattle.request_plan.specs.Plan.{Plan, Done, Ask}
use Rattle.asc_base.specs.Shape.{parent_in, children_in}
use Rattle.asc_base.specs.declared.block.Address.{Address}
use Rattle.asc_base.specs.declared.block.Counter.{Counter}
use Rattle.asc_base.specs.declared.block.Line.{Line}
use Rattle.posmap_counters.specs.Counters.{first_counter, next_group, is_among}
use Rattle.posmap_counters.specs.Group.{GroupState, child_counter, moved_group, asked_group}
use Rattle.posmap_lookaside.specs.Held.{held_at, addresses_of}
use Rattle.posmap_lookaside.specs.declared.held.Held.{Held}
use Rattle.oram_walk.specs.Front.{FrontState, root_place, child_in, group_at, full_parent}
use Rattle.oram_walk.specs.Request.{Request, Slot, Append, Answer, Room}
use Rattle.oram_walk.specs.declared.slots.Purpose.{Purpose}
use Rattle.oram_walk.specs.declared.slots.Purpose.TheVariants.{Keep}
use Rattle.oram_walk.specs.declared.slots.Seen.{Seen}

-- An access to a block under a counter, the counter under which it is put back or held, and its purpose; or a displaced
-- block, its counter and its line. Which line an access finds isn't said.
pub data Shadow : Type 0 where
  Accessed : ℕ → Counter → Counter → Purpose → Shadow
  Displaced : ℕ → Counter → Line → Shadow

-- what a request shows
abbrev pub shown_request : Request → List Shadow
shown_request (Slot access) = Accessed access.address.0 access.counter access.next access.purpose ∷ []
shown_request (Append message) = Displaced message.address.0 message.counter message.line ∷ []
shown_request (Answer line value) = []
shown_request Room = []

-- The requests of a plan show these in order, whatever is answered.
abbrev pub ShowsAlways : {B A : Type 0} → List Shadow → Plan Request Seen B A → Type 0
ShowsAlways shown (Done a) = shown ≡ []
ShowsAlways shown (Ask q b k) =
    (rest : List Shadow) × (shown ≡ shown_request q ++ rest) × ((x : Seen) → ShowsAlways rest (k x))

-- the accesses of so many children of a family in a group move, from one on, but for those that are held
abbrev pub moves_shown : List ℕ → ℕ → GroupState → ℕ → ℕ → List Shadow
moves_shown held first group child left =
    map (λ k. Accessed (first + k) (child_counter group k) (next_group (child_counter group k)) Keep)
    (filter (λ k. not (is_among held (first + k))) (range_with_len child left))

-- those of a whole family; a data line has none
abbrev pub family_shown : List ℕ → GroupState → Option (Address × ℕ) → List Shadow
family_shown held group None = []
family_shown held group (Some (first, number)) = moves_shown held first.0 group 0 number

-- whether a child's own count is at its greatest
abbrev pub is_full : ℕ → GroupState → ℕ → Bool
is_full ic group child = nat_le (2 ^ ic - 1) (slice_index group.own child)

-- a child is accessed after the group move that it may need, each block under its counter in the group
abbrev pub child_shown : FrontState → Address → Purpose → Address → GroupState → List Shadow
child_shown state address purpose parent group =
    let child = child_in state.shape address in
    let now = child_counter (asked_group state.ic group child) child in
    (if is_full state.ic group child then
    family_shown (addresses_of state.held) group (children_in state.shape parent)
    ++ Accessed address.0 (child_counter (moved_group group) child) now purpose ∷ []
    else Accessed address.0 (child_counter group child) now purpose ∷ [])

abbrev pub under_shown : FrontState → Address → Purpose → Address → Option GroupState → List Shadow
under_shown state address purpose parent None = Accessed address.0 first_counter first_counter purpose ∷ []
under_shown state address purpose parent (Some group) = child_shown state address purpose parent group

abbrev pub visit_by : FrontState → Address → Purpose → Option Address → List Shadow
visit_by state address purpose None =
    let root = slice_index state.roots (root_place state.shape address) in
    Accessed address.0 (record { group = root; own = 0 }) (record { group = (root + 1) % 2 ^ 64; own = 0 }) purpose ∷ []
visit_by state address purpose (Some parent) = under_shown state address purpose parent (group_at state.held parent)

-- What an access that is asked for shows: by its parent's group, or by its root.
abbrev pub visit_shown : FrontState → Address → Purpose → List Shadow
visit_shown state address purpose = visit_by state address purpose (parent_in state.shape address)

-- the counter of a held block after a group move of this family: the next group counter, where it is one of it
abbrev pub is_member : ℕ → ℕ → ℕ → Bool
is_member first number address = nat_le first address && nat_le (address + 1) (first + number)

abbrev pub moved_counter : GroupState → Option (Address × ℕ) → ℕ → Counter → Counter
moved_counter group None address counter = counter
moved_counter group (Some (first, number)) address counter =
    (if is_member first.0 number address then next_group (child_counter group 0) else counter)

-- the same after the group move that has to come first, where one has to
abbrev pub moved_by : FrontState → Option (Address × GroupState) → ℕ → Counter → Counter
moved_by state None address counter = counter
moved_by state (Some (parent, group)) address counter =
    moved_counter group (children_in state.shape parent) address counter

-- the counter of a held block
abbrev pub counter_held : List Held → Address → Option Counter
counter_held list address = option_map (λ held. held.counter) (held_at list address)

-- The held blocks after it: the parent has the group after an access to the child, and all other groups stay; a group
-- move renumbers the children that are held, and all other counters stay.
pub record IsVisited (state : FrontState) (address : Address) (now : FrontState) : Type 0 where
  pub parent : (parent : Address) (group : GroupState) → parent_in state.shape address ≡ Some parent
      → group_at state.held parent ≡ Some group
      → group_at now.held parent ≡ Some (asked_group state.ic group (child_in state.shape address))
  pub others : (other : Address) → ((parent : Address) → parent_in state.shape address ≡ Some parent
      → other.0 ≢ parent.0) → group_at now.held other ≡ group_at state.held other
  pub counters : (other : Address) → counter_held now.held other
      ≡ option_map (moved_by state (full_parent state address) other.0) (counter_held state.held other)
