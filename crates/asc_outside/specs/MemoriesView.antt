-- The fields of the memories of runs and tests, as contracts see them.
use Rattle.std.specs.Prelude.{◌≡◌, ◌≤◌, ◌==◌, min, vec_capacity, None, Some, if◌then◌else◌, map, vec_len}
use Rattle.asc_outside.specs.Memory.{Ask}
use Rattle.asc_outside.specs.Memories.{BucketsState, FaultyState, ScriptedState}
use Rattle.asc_outside.specs.declared.memories.Asked.{Asked}
use Rattle.asc_outside.specs.declared.memories.HonestMemory.TheInside as honest
use Rattle.asc_outside.specs.declared.memories.FaultyMemory.TheInside as faulty
use Rattle.asc_outside.specs.declared.memories.ScriptedMemory.TheInside as scripted

-- the buckets are told where all of them are there
abbrev pub honest_view : honest.Inside → BucketsState
honest_view m = record {
  faults = 0;
  moved = m.moved;
  count = m.count;
  buckets = if vec_len m.buckets == m.count then Some m.buckets.items else None;
}

-- it tells the buckets of the memory below
abbrev pub faulty_view : faulty.Inside → FaultyState
faulty_view m = record { memory = record m.memory { faults = m.faults; moved = m.moved }; failing = m.failing.items }

-- the move that is kept
abbrev pub ask_of : Asked → Ask
ask_of a = record { time = a.time; write = a.write; bucket = a.bucket; bytes = a.bytes }

-- the replies and counts, the moves that are kept, and their answers
abbrev pub scripted_view : scripted.Inside → ScriptedState
scripted_view m = record {
  replies = m.replies.items;
  reads = m.reads;
  moved = m.moved;
  count = m.count;
  moves = m.moves;
  seen = map ask_of m.seen.items;
  said = m.said.items;
}

-- moves and answers are kept where they are among the first, for which there is room
pub record HasRoom (m : scripted.Inside) : Type 0 where
  pub fewer : m.reads ≤ m.moved
  pub seen_room : m.moves ≤ vec_capacity m.seen
  pub said_room : m.moves ≤ vec_capacity m.said
  pub seen_len : vec_len m.seen ≡ min m.moved m.moves
  pub said_len : vec_len m.said ≤ vec_len m.seen
