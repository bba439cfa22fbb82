-- The moves of a slot along the path of its leaf: reads from the root down, one after another, a turn, and writes in
-- the same order.
use Rattle.std.specs.Prelude.{ℕ, zero, suc, ◌+◌, ◌*◌, Bool, true, false, List, [], ◌∷◌, ◌++◌}
use Rattle.asc_base.specs.TreeShape.{bucket_of, move_cycles, turn_cycles}
use Rattle.bus_watch.specs.declared.log.Move.{Move}

-- the move at a level, where that at the root is made at a time
abbrev pub move_along : ℕ → Bool → ℕ → ℕ → ℕ → Move
move_along levels write first leaf level =
    record { time = first + move_cycles * level; write = write; bucket = bucket_of levels leaf level }

-- so many moves along the path of a leaf, from the root down, the first of them at a time
unfoldable pub along : ℕ → Bool → ℕ → ℕ → ℕ → List Move
along levels write first leaf zero = []
along levels write first leaf (suc level) =
    along levels write first leaf level ++ move_along levels write first leaf level ∷ []

-- the reads of a slot, from its start on
abbrev pub reads : ℕ → ℕ → ℕ → List Move
reads levels start leaf = along levels false start leaf (levels + 1)

-- when the reads of a slot end
abbrev pub reads_end : ℕ → ℕ → ℕ
reads_end levels start = start + move_cycles * (levels + 1)

-- when its writes begin
abbrev pub writes_start : ℕ → ℕ → ℕ
writes_start levels start = reads_end levels start + turn_cycles

-- its writes
abbrev pub writes : ℕ → ℕ → ℕ → List Move
writes levels start leaf = along levels true (writes_start levels start) leaf (levels + 1)

-- all moves of a slot
abbrev pub slot_moves : ℕ → ℕ → ℕ → List Move
slot_moves levels start leaf = reads levels start leaf ++ writes levels start leaf
