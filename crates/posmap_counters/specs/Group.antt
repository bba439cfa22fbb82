-- The counters of the children of one block, and the line of a position-map block: the group counter in 8 bytes, then
-- 32 own counts of 14 bits in 56 bytes. All bytes and bits come highest first, and child 0 comes first, so the 56 bytes
-- and the 32 counts are digits of one number: in base 2 ^ 8 and in base 2 ^ 14.
use Rattle.std.specs.Prelude.{◌≡◌, ℕ, ◌+◌, ◌-◌, ◌%◌, ◌^◌, ◌<◌, nat_le, if◌then◌else◌}
use Rattle.std.specs.Prelude.{List, ◌++◌, take, drop, length, replicate, slice_index, slice_set}
use Rattle.std.specs.Int.Digits.{number_from_digits}
use Rattle.asc_base.specs.declared.block.Counter.{Counter}
use Rattle.posmap_counters.specs.Digits.{digits}

-- each own count has 14 bits
abbrev pub AreOwn : List ℕ → Type 0
AreOwn own = (child : ℕ) → slice_index own child < 16384

-- the counters of the children of one block: the group counter, which all share, and the own count of each
pub record GroupState : Type 0 where
  pub group : ℕ
  pub own : List ℕ

-- what every group is
pub record IsGroup (group : GroupState) : Type 0 where
  pub fits : group.group < 2 ^ 64
  pub children : length group.own ≡ 32
  pub own : AreOwn group.own

-- the line of a group counter and own counts
unfoldable pub line_of : ℕ → List ℕ → List ℕ
line_of group own = digits 256 8 group ++ digits 256 56 (number_from_digits 16384 own)

-- the group counter in a line
unfoldable pub group_of : List ℕ → ℕ
group_of line = number_from_digits 256 (take 8 line)

-- the own counts in a line
unfoldable pub own_of : List ℕ → List ℕ
own_of line = digits 16384 32 (number_from_digits 256 (drop 8 line))

-- the line of a group
abbrev pub line_in : GroupState → List ℕ
line_in group = line_of group.group group.own

-- the group in a line
abbrev pub group_in : List ℕ → GroupState
group_in line = record { group = group_of line; own = own_of line }

-- the counter of a child
abbrev pub child_counter : GroupState → ℕ → Counter
child_counter group child = record { group = group.group; own = slice_index group.own child }

-- the group of children that were never accessed
abbrev pub first_group : GroupState
first_group = record { group = 0; own = replicate 32 0 }

-- The group after an access to a child, where own counts have `ic` bits: the child's own count is one more. At the
-- greatest number of so many bits, or above it, the group stays.
abbrev pub stepped_group : ℕ → GroupState → ℕ → GroupState
stepped_group ic group child =
    (if nat_le (2 ^ ic - 1) (slice_index group.own child) then group
    else record { group = group.group; own = slice_set group.own child (slice_index group.own child + 1) })

-- the group after a group move: the next group counter, after the greatest of 64 bits 0, and own counts of 0
abbrev pub moved_group : GroupState → GroupState
moved_group group = record { group = (group.group + 1) % 2 ^ 64; own = replicate 32 0 }

-- the group after an access to a child that is asked for: at its greatest own count all children move first
abbrev pub asked_group : ℕ → GroupState → ℕ → GroupState
asked_group ic group child =
    (if nat_le (2 ^ ic - 1) (slice_index group.own child) then stepped_group ic (moved_group group) child
    else stepped_group ic group child)
