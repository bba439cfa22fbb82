-- What a front end holds, and the counters that it shows.
use Rattle.std.specs.Prelude.{◌≡◌, ℕ, ◌+◌, ◌-◌, ◌%◌, ◌^◌, ◌<◌, ◌≤◌, nat_le, if◌then◌else◌}
use Rattle.std.specs.Prelude.{List, [], length, Option, Some, None, slice_index, slice_set, replicate, option_map}
use Rattle.asc_base.specs.Has.{Has}
use Rattle.asc_base.specs.Shape.{IsShape, parent_in}
use Rattle.asc_base.specs.TreeShape.{layer_count, layer_first, child_index_of}
use Rattle.asc_base.specs.declared.shape.Shape.{Shape}
use Rattle.asc_base.specs.declared.block.Address.{Address}
use Rattle.asc_base.specs.declared.block.Counter.{Counter}
use Rattle.asc_base.specs.declared.settings.Config.{Config}
use Rattle.posmap_counters.specs.Counters.{first_counter}
use Rattle.posmap_counters.specs.Group.{GroupState, child_counter, stepped_group}
use Rattle.posmap_lookaside.specs.Held.{held_at, changed, with_group, addresses_of}
use Rattle.posmap_lookaside.specs.Lookaside.{IsLookaside}
use Rattle.posmap_lookaside.specs.Walk.{WalkSizes, held_after}
use Rattle.posmap_lookaside.specs.declared.held.Held.{Held}

pub record FrontState : Type 0 where
  pub shape : Shape
  -- the bits of an own count
  pub ic : ℕ
  -- the group counters of the top layer's blocks, in order
  pub roots : List ℕ
  -- the position-map blocks that are held, the most recent first
  pub held : List Held
  -- how many there may be
  pub plb : ℕ

-- What every front end is.
pub record IsFront (front : FrontState) : Type 0 where
  pub shape : IsShape front.shape
  pub ic_from : 2 ≤ front.ic
  pub ic_to : front.ic ≤ 14
  -- a root for each block of the top layer
  pub roots : length front.roots ≡ layer_count front.shape.lines (front.shape.layers - 1)
  -- the held blocks have room, and are distinct ones of the shape
  pub whole : IsLookaside (record { list = front.held; capacity = front.plb })
  pub inside : (address : ℕ) → Has address (addresses_of front.held) → address < front.shape.total

-- The front end at the start: no block was accessed, and none is held.
abbrev pub first_front : Config → FrontState
first_front config = record {
  shape = config.shape;
  ic = config.ic;
  roots = replicate (layer_count config.shape.lines (config.shape.layers - 1)) 0;
  held = [];
  plb = config.plb;
}

-- what the walk looks at
abbrev pub sizes_of : FrontState → WalkSizes
sizes_of front =
    record { lines = front.shape.lines; layers = front.shape.layers; plb = front.plb; ic = front.ic }

-- the place of a top layer's block among the roots
abbrev pub root_place : Shape → Address → ℕ
root_place shape address = address.0 - layer_first shape.lines (shape.layers - 1)

-- the place of a block among its parent's children
abbrev pub child_in : Shape → Address → ℕ
child_in shape address = child_index_of shape.lines shape.layers address.0

-- the group of a held block
abbrev pub group_at : List Held → Address → Option GroupState
group_at list address = option_map (λ held. held.group) (held_at list address)

-- the counter of a child of a block with this group; that of a block whose parent isn't held isn't shown
abbrev pub counter_under : ℕ → Option GroupState → Counter
counter_under child None = first_counter
counter_under child (Some group) = child_counter group child

-- the counter of a block with this parent; without one it is of the top layer
abbrev pub counter_by : FrontState → Address → Option Address → Counter
counter_by state address None = record { group = slice_index state.roots (root_place state.shape address); own = 0 }
counter_by state address (Some parent) = counter_under (child_in state.shape address) (group_at state.held parent)

-- The counter of a block, as the roots and the held groups show it.
abbrev pub counter_in : FrontState → Address → Counter
counter_in state address = counter_by state address (parent_in state.shape address)

-- the state with other held blocks
abbrev pub with_held : FrontState → List Held → FrontState
with_held state held = record state { held = held }

-- the state after a step of a child of this held block with this group
abbrev pub stepped_under : FrontState → Address → Address → Option GroupState → FrontState
stepped_under state address parent None = state
stepped_under state address parent (Some group) =
    with_held state
    (changed (with_group (stepped_group state.ic group (child_in state.shape address))) state.held parent)

-- the state after a step of a block with this parent; without one its root rises, after the greatest of 64 bits to 0
abbrev pub stepped_by : FrontState → Address → Option Address → FrontState
stepped_by state address None =
    let place = root_place state.shape address in
    record state { roots = slice_set state.roots place ((slice_index state.roots place + 1) % 2 ^ 64) }
stepped_by state address (Some parent) = stepped_under state address parent (group_at state.held parent)

-- The state after the counter of a block was stepped, in its parent's group or among the roots.
abbrev pub stepped : FrontState → Address → FrontState
stepped state address = stepped_by state address (parent_in state.shape address)

-- this parent with its group, where the child's own count is at its greatest
abbrev pub full_under : ℕ → ℕ → Address → Option GroupState → Option (Address × GroupState)
full_under ic child parent None = None
full_under ic child parent (Some group) =
    (if nat_le (2 ^ ic - 1) (slice_index group.own child) then Some (parent, group) else None)

abbrev pub full_by : FrontState → Address → Option Address → Option (Address × GroupState)
full_by state address None = None
full_by state address (Some parent) =
    full_under state.ic (child_in state.shape address) parent (group_at state.held parent)

-- The parent whose children have to move before an access to a block, with its group.
abbrev pub full_parent : FrontState → Address → Option (Address × GroupState)
full_parent state address = full_by state address (parent_in state.shape address)

-- The front end after a request for a line: it holds what is held after the walk, and its sizes stay.
pub record IsAfter (old : FrontState) (line : ℕ) (now : FrontState) : Type 0 where
  pub shape : now.shape ≡ old.shape
  pub ic : now.ic ≡ old.ic
  pub plb : now.plb ≡ old.plb
  pub held : addresses_of now.held ≡ held_after (sizes_of old) (addresses_of old.held) line
