-- The trace of a log.
use Rattle.std.specs.Prelude.{ℕ, ◌+◌, nat_le, nat_lt, Bool, ◌&&◌, List, map, zip, length, filter}
use Rattle.asc_base.specs.TreeShape.{olat_of}
use Rattle.bus_watch.specs.declared.log.Move.{Move}
use Rattle.bus_watch.specs.Log.{LogLists}
use Rattle.bus_schedule.specs.Timetable.{Public}
use Rattle.bus_schedule.specs.Shown.{starts_of, leaves_of}
use Rattle.bus_trace.specs.Trace.{TraceLists}
use Rattle.bus_trace.specs.declared.trace.Seen.{Seen}

-- a move is made in the cycles of a slot, which has this start
abbrev pub is_in_slot : ℕ → ℕ → Move → Bool
is_in_slot levels start m = nat_le start m.time && nat_lt m.time (start + olat_of levels)

-- how many moves are made in the cycles of a slot
abbrev pub moves_in : ℕ → ℕ → List Move → ℕ
moves_in levels start moves = length (filter (is_in_slot levels start) moves)

-- what a log shows of a slot with this start and leaf
abbrev pub seen_of : ℕ → List Move → ℕ × ℕ → Seen
seen_of levels moves slot =
    record { start = slot.0; leaf = record { 0 = slot.1 }; moves = moves_in levels slot.0 moves }

-- what a log shows of its slots: each start goes with the leaf that has its place
abbrev pub seen_in : ℕ → LogLists → List Seen
seen_in levels log = map (seen_of levels log.moves) (zip (starts_of log.events) (leaves_of log.events))

-- the trace of a log up to a time
abbrev pub trace_of : Public → LogLists → ℕ → TraceLists
trace_of p log end = record { header = p; accesses = seen_in p.levels log; end = end }
