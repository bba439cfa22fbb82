-- Walk: which blocks a request for a line accesses, and which it displaces, by a list of addresses and the counters
-- alone. `held` has the position-map blocks on chip, the most recent first. The rule is this project's own.
use Rattle.std.specs.Prelude.{◌≡◌, ◌<◌, ◌≤◌, ℕ, zero, suc, not, Option, None, Some}
use Rattle.std.specs.Prelude.{List, [], ◌∷◌, ◌++◌, length, map, take, take_while, find, reverse, slice_get}
use Rattle.std.specs.Option.{option_map_or}
use Rattle.asc_base.specs.Has.{Has}
use Rattle.asc_base.specs.TreeShape.{layer_first, parent_of, children_of}
use Rattle.asc_base.specs.declared.block.Counter.{Counter}
use Rattle.asc_base.specs.declared.block.Point.{Point}
use Rattle.posmap_counters.specs.Counters.{Counters, counter_at, Change, Access, MoveChild, RenumberChild, is_among}
use Rattle.posmap_counters.specs.Counters.{point_of}
use Rattle.posmap_counters.specs.Counters.{after, after_all, asked_changes}
use Rattle.posmap_lookaside.specs.Addresses.{used, AreDistinct}

-- why a block is accessed: it comes to be held, it is the line that is asked for, or it is one of a group that moves
pub data Purpose : Type 0 where
  Refill : Purpose
  Final : Purpose
  Moves : Purpose

-- One access: its block and the counter before it, its purpose, the block that it displaces, and all counters after it.
pub record WalkAccess : Type 0 where
  pub address : ℕ
  pub counter : Counter
  pub purpose : Purpose
  pub displaced : Option ℕ
  pub counters : Counters

-- what the walk looks at of a configuration: lines, layers, the room for held blocks, and the bits of an own count
pub record WalkSizes : Type 0 where
  pub lines : ℕ
  pub layers : ℕ
  pub plb : ℕ
  pub ic : ℕ

-- the held addresses and the counters, between two requests
pub record OnChip : Type 0 where
  pub held : List ℕ
  pub counters : Counters

-- some accesses, and what is on chip after them
pub record Walked : Type 0 where
  pub accesses : List WalkAccess
  pub chip : OnChip

-- the points of accesses
abbrev pub points_of : List WalkAccess → List Point
points_of accesses = map (λ access. point_of access.address access.counter) accesses

-- nothing is held, and no block was accessed
abbrev pub chip_at_start : OnChip
chip_at_start = record { held = []; counters = [] }

module _ (sizes : WalkSizes) where
  -- the ancestors of a block from its parent upwards, in at most so many layers
  unfoldable pub ancestors : ℕ → ℕ → List ℕ
  ancestors zero address = []
  ancestors (suc more) address =
      option_map_or (λ parent. parent ∷ ancestors more parent) (parent_of sizes.lines sizes.layers address) []

  -- the accesses of a change: one, or none where a child is renumbered
  abbrev pub accesses_of : Purpose → Option ℕ → Counters → Change → List WalkAccess
  accesses_of purpose displaced counters (Access address) = record {
    address = address;
    counter = counter_at counters address;
    purpose = purpose;
    displaced = displaced;
    counters = after sizes.lines sizes.layers counters (Access address);
  } ∷ []
  accesses_of purpose displaced counters (MoveChild address) = record {
    address = address;
    counter = counter_at counters address;
    purpose = Moves;
    displaced = None;
    counters = after sizes.lines sizes.layers counters (MoveChild address);
  } ∷ []
  accesses_of purpose displaced counters (RenumberChild address) = []

  -- those of changes one after another
  unfoldable pub accesses_of_all : Purpose → Option ℕ → Counters → List Change → List WalkAccess
  accesses_of_all purpose displaced counters [] = []
  accesses_of_all purpose displaced counters (change ∷ changes) =
      accesses_of purpose displaced counters change
      ++ accesses_of_all purpose displaced (after sizes.lines sizes.layers counters change) changes

  -- one block is accessed, a group move before it where its own count is at its greatest; these are held then
  abbrev pub visit : Purpose → Option ℕ → List ℕ → OnChip → ℕ → Walked
  visit purpose displaced held chip address =
      let changes = asked_changes sizes.lines sizes.layers sizes.ic chip.held chip.counters address in
      record {
        accesses = accesses_of_all purpose displaced chip.counters changes;
        chip = record { held = held; counters = after_all sizes.lines sizes.layers chip.counters changes };
      }

  -- a refilled block is the first of the held ones then, and displaces the last where there is no room
  abbrev pub refill : OnChip → ℕ → Walked
  refill chip address =
      visit Refill (slice_get (address ∷ chip.held) sizes.plb) (take sizes.plb (address ∷ chip.held)) chip address

  -- the missing blocks from the top down, and then the line
  unfoldable pub walk_down : ℕ → List ℕ → OnChip → Walked
  walk_down line [] chip = visit Final None chip.held chip line
  walk_down line (address ∷ below) chip =
      let first = refill chip address in
      let rest = walk_down line below first.chip in
      record { accesses = first.accesses ++ rest.accesses; chip = rest.chip }

-- the ancestors below the first that is held are missing
abbrev pub missing : List ℕ → List ℕ → List ℕ
missing held above = take_while (λ a. not (is_among held a)) above

-- and that one, if there is one, becomes the most recent
abbrev pub looked_up : List ℕ → List ℕ → List ℕ
looked_up held above = option_map_or (used held) (find (is_among held) above) held

-- The walk of a request for a line.
abbrev pub walk : WalkSizes → OnChip → ℕ → Walked
walk sizes chip line =
    let above = ancestors sizes sizes.layers line in
    walk_down sizes line (reverse (missing chip.held above))
    (record { held = looked_up chip.held above; counters = chip.counters })

-- the walks of requests one after another
unfoldable pub walks : WalkSizes → OnChip → List ℕ → Walked
walks sizes chip [] = record { accesses = []; chip = chip }
walks sizes chip (line ∷ lines) =
    let first = walk sizes chip line in
    let rest = walks sizes first.chip lines in
    record { accesses = first.accesses ++ rest.accesses; chip = rest.chip }

-- what is held after refills one after another
abbrev pub held_below : ℕ → List ℕ → List ℕ → List ℕ
held_below plb held [] = held
held_below plb held (address ∷ below) = held_below plb (take plb (address ∷ held)) below

-- What is held after a request for a line: by the held addresses and the line alone.
abbrev pub held_after : WalkSizes → List ℕ → ℕ → List ℕ
held_after sizes held line =
    let above = ancestors sizes sizes.layers line in
    held_below sizes.plb (looked_up held above) (reverse (missing held above))

-- a position-map block of the shape
abbrev pub IsMapBlock : WalkSizes → ℕ → Type 0
IsMapBlock sizes address =
    (address < layer_first sizes.lines sizes.layers)
    × (family : ℕ × ℕ) × (children_of sizes.lines sizes.layers address ≡ Some family)

-- What every list of held addresses is.
pub record IsHeldList (sizes : WalkSizes) (held : List ℕ) : Type 0 where
  pub fits : length held ≤ sizes.plb
  pub distinct : AreDistinct held
  pub blocks : (address : ℕ) → Has address held → IsMapBlock sizes address
