-- The counters of the children of one block, its family: `number` blocks from address `first` on. The counters of all
-- blocks are given here by a function of their addresses.
use Rattle.std.specs.Prelude.{◌≡◌, ℕ, ◌+◌, ◌-◌, ◌<◌, ◌≤◌, nat_lt, List, map, filter, slice_index, not, None}
use Rattle.std.specs.Prelude.{if◌then◌else◌}
use Rattle.std.specs.List.{range_with_len}
use Rattle.asc_base.specs.TreeShape.{layer_first, parent_of}
use Rattle.asc_base.specs.declared.block.Counter.{Counter}
use Rattle.asc_base.specs.declared.block.Point.{Point}
use Rattle.posmap_counters.specs.Counters.{next_group, point_of, is_among}
use Rattle.posmap_counters.specs.Group.{GroupState, child_counter, line_in}

-- A family has the counters of a group, whose own counts past the family are 0.
pub record HasCounters (count : ℕ → Counter) (first number : ℕ) (group : GroupState) : Type 0 where
  pub children : (child : ℕ) → child < number → count (first + child) ≡ child_counter group child
  pub others : (child : ℕ) → number ≤ child → slice_index group.own child ≡ 0

-- A family in a group move: the children before `done` have the next group counter, the others still their counters of
-- the group.
pub record IsMoving (count : ℕ → Counter) (first number done : ℕ) (group : GroupState) : Type 0 where
  pub moved : (child : ℕ) → child < done → count (first + child) ≡ next_group (child_counter group child)
  pub left : (child : ℕ) → done ≤ child → child < number → count (first + child) ≡ child_counter group child

-- The points of a group move of a family while these blocks are held: each child under its counter of the group, in
-- rising order, but for those that are held.
abbrev pub move_points : List ℕ → ℕ → ℕ → GroupState → List Point
move_points held first number group =
    map (λ child. point_of (first + child) (child_counter group child))
    (filter (λ child. not (is_among held (first + child))) (range_with_len 0 number))

-- the members of a family share their group counter
abbrev pub HasOneGroup : (ℕ → Counter) → ℕ → ℕ → Type 0
HasOneGroup count first number = (child : ℕ) → child < number → (count (first + child)).group ≡ (count first).group

-- the own counts of a family, 0 for the rest of 32 places
unfoldable pub own_counts : (ℕ → Counter) → ℕ → ℕ → List ℕ
own_counts count first number =
    map (λ child. (if nat_lt child number then (count (first + child)).own else 0)) (range_with_len 0 32)

-- the group of a family
abbrev pub family_group : (ℕ → Counter) → ℕ × ℕ → GroupState
family_group count (first, number) = record { group = (count first).group; own = own_counts count first number }

-- The line of a position-map block: that of its children's counters.
abbrev pub family_line : (ℕ → Counter) → ℕ × ℕ → List ℕ
family_line count family = line_in (family_group count family)

-- the top layer, whose counters are on chip: each is the number of accesses to its block, as a group counter
abbrev pub HasRoots : ℕ → ℕ → (ℕ → Counter) → List ℕ → Type 0
HasRoots lines layers count roots =
    (address : ℕ) → address < layer_first lines layers → parent_of lines layers address ≡ None
    → count address ≡ record { group = slice_index roots (address - layer_first lines (layers - 1)); own = 0 }
