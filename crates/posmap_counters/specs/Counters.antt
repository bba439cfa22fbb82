-- The counters of all blocks as one finite map, and what accesses and group moves make of it, one block at a time.
use Rattle.std.specs.Prelude.{◌≡◌, ℕ, ◌+◌, ◌-◌, ◌%◌, ◌^◌, ◌<◌, nat_eq, nat_le, Bool, ◌⊎◌, if◌then◌else◌}
use Rattle.std.specs.Prelude.{List, [], ◌∷◌, ◌++◌, map, unwrap_or, is_none, option_and_then}
use Rattle.std.proofs.Common.{zero, suc}
use Rattle.std.specs.Bool.{OnTrue}
use Rattle.std.specs.Map.{lookup}
use Rattle.std.specs.List.{list_any}
use Rattle.std.specs.Option.{option_map_or}
use Rattle.asc_base.specs.TreeShape.{parent_of, children_of}
use Rattle.asc_base.specs.declared.block.Counter.{Counter}
use Rattle.asc_base.specs.declared.block.Point.{Point}
use Rattle.asc_base.specs.declared.block.Point.TheVariants.{Real}

-- addresses with their counters; of two pairs with one address the first counts
abbrev pub Counters : Type 0
Counters = List (ℕ × Counter)

-- the counter of a block that was never accessed
abbrev pub first_counter : Counter
first_counter = record { group = 0; own = 0 }

-- the counter of a block: (0,0) where the map has none
unfoldable pub counter_at : Counters → ℕ → Counter
counter_at counters address = unwrap_or (lookup (nat_eq address) counters) first_counter

-- a counter under the next group counter; after the greatest of 64 bits comes 0
abbrev pub next_group : Counter → Counter
next_group counter = record { group = (counter.group + 1) % 2 ^ 64; own = 0 }

-- a counter with one access more
abbrev pub next_own : Counter → Counter
next_own counter = record { group = counter.group; own = counter.own + 1 }

-- counters are ordered by group counter, then by own count
abbrev pub IsBefore : Counter → Counter → Type 0
IsBefore c d = (c.group < d.group) ⊎ ((c.group ≡ d.group) × (c.own < d.own))

-- the same or before
abbrev pub IsNotAfter : Counter → Counter → Type 0
IsNotAfter c d = (c ≡ d) ⊎ IsBefore c d

-- the point of a block's access under a counter
abbrev pub point_of : ℕ → Counter → Point
point_of address counter = Real (record { 0 = address }) counter

-- numbers from a first one on
unfoldable pub addresses_from : ℕ → ℕ → List ℕ
addresses_from first zero = []
addresses_from first (suc number) = first ∷ addresses_from (first + 1) number

-- whether an address is in a list
abbrev pub is_among : List ℕ → ℕ → Bool
is_among addresses address = list_any (λ a. nat_eq a address) addresses

-- What changes the counter of one block: an access that is asked for; and in a group move an access to a child, or a
-- child that is held is renumbered, without an access.
pub data Change : Type 0 where
  Access : ℕ → Change
  MoveChild : ℕ → Change
  RenumberChild : ℕ → Change

-- the block whose counter a change changes
abbrev pub block_of : Change → ℕ
block_of (Access address) = address
block_of (MoveChild address) = address
block_of (RenumberChild address) = address

-- a child's part of a group move while these blocks are held
abbrev pub child_move : List ℕ → ℕ → Change
child_move held child = (if is_among held child then RenumberChild child else MoveChild child)

-- the following speak of the blocks of the first `layers` layers over `lines` data lines
module _ (lines layers : ℕ) where
  -- the children of a block's parent, rising; none for a block of the top layer
  unfoldable pub siblings : ℕ → List ℕ
  siblings address =
      option_map_or (λ (first, number). addresses_from first number)
      (option_and_then (children_of lines layers) (parent_of lines layers address)) []

  -- the counter after an access: in the top layer the group counter rises, below it the own count
  abbrev pub accessed : Counters → ℕ → Counter
  accessed counters address =
      (if is_none (parent_of lines layers address) then next_group (counter_at counters address)
      else next_own (counter_at counters address))

  -- the counter that a change gives its block
  abbrev pub changed_counter : Counters → Change → Counter
  changed_counter counters (Access address) = accessed counters address
  changed_counter counters (MoveChild address) = next_group (counter_at counters address)
  changed_counter counters (RenumberChild address) = next_group (counter_at counters address)

  -- the counters after a change
  unfoldable pub after : Counters → Change → Counters
  after counters change = (block_of change, changed_counter counters change) ∷ counters

  -- the points of a change's accesses: the block under its counter before, none where it is renumbered
  unfoldable pub points : Counters → Change → List Point
  points counters (Access address) = point_of address (counter_at counters address) ∷ []
  points counters (MoveChild address) = point_of address (counter_at counters address) ∷ []
  points counters (RenumberChild address) = []

  -- the counters after changes one after another
  unfoldable pub after_all : Counters → List Change → Counters
  after_all counters [] = counters
  after_all counters (change ∷ changes) = after_all (after counters change) changes

  -- the points of changes one after another
  unfoldable pub all_points : Counters → List Change → List Point
  all_points counters [] = []
  all_points counters (change ∷ changes) = points counters change ++ all_points (after counters change) changes

  -- a change has room for the group counter that it raises
  abbrev pub HasRoom : Counters → Change → Type 0
  HasRoom counters (Access address) =
      OnTrue (is_none (parent_of lines layers address)) ((counter_at counters address).group + 1 < 2 ^ 64)
  HasRoom counters (MoveChild address) = (counter_at counters address).group + 1 < 2 ^ 64
  HasRoom counters (RenumberChild address) = (counter_at counters address).group + 1 < 2 ^ 64

  -- no group counter wraps in changes one after another
  abbrev pub NoneWraps : Counters → List Change → Type 0
  NoneWraps counters [] = Unit {0}
  NoneWraps counters (change ∷ changes) = HasRoom counters change × NoneWraps (after counters change) changes

  -- a group move of a block and its siblings while these blocks are held: a change of each, in rising order
  unfoldable pub group_move : List ℕ → ℕ → List Change
  group_move held address = map (child_move held) (siblings address)

  -- the changes of an access that is asked for, where own counts have `ic` bits: at the greatest own count a group move
  -- comes first
  unfoldable pub asked_changes : ℕ → List ℕ → Counters → ℕ → List Change
  asked_changes ic held counters address =
      (if nat_le (2 ^ ic - 1) (counter_at counters address).own then group_move held address ++ Access address ∷ []
      else Access address ∷ [])
