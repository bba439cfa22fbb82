-- What the memories of runs and tests keep beside what they mean, and what their calls leave.
use Rattle.std.specs.Prelude.{ℕ, ◌+◌, ◌-◌, ◌==◌, nat_le, nat_lt, Bool, if◌then◌else◌, Option, None, Some, option_map}
use Rattle.std.specs.Prelude.{List, [], ◌∷◌, ◌++◌, length, slice_get, slice_set}
use Rattle.std.specs.List.{list_any}
use Rattle.asc_outside.specs.Memory.{Ask, MemoryState, zero_buckets, read_ask, write_ask}

-- What a memory that tells its buckets keeps.
pub record BucketsState : Type 0 where
  -- how many moves failed
  pub faults : ℕ
  -- how many moves it was asked
  pub moved : ℕ
  pub count : ℕ
  -- the bytes of each bucket, None after a refused growth
  pub buckets : Option (List (List ℕ))

-- it tells its buckets, and neither moves nor answers
abbrev pub told_by_buckets : BucketsState → MemoryState
told_by_buckets m = record {
  faults = m.faults;
  moved = m.moved;
  count = m.count;
  told = m.buckets;
  seen = None;
  said = None;
  link = 0;
}

-- it was asked nothing yet
abbrev pub no_buckets : BucketsState
no_buckets = record { faults = 0; moved = 0; count = 0; buckets = Some [] }

-- so many buckets of zero bytes, told where any were told
abbrev pub after_prepare : BucketsState → ℕ → BucketsState
after_prepare m count = record m { count = count; buckets = option_map (λ _. zero_buckets count) m.buckets }

-- a move is asked
abbrev pub after_move : BucketsState → BucketsState
after_move m = record m { moved = m.moved + 1 }

-- a bucket is written
abbrev pub after_write : BucketsState → ℕ → List ℕ → BucketsState
after_write m number text = record m {
  moved = m.moved + 1;
  buckets = option_map (λ all. slice_set all number text) m.buckets;
}

-- a move fails
abbrev pub after_failure : BucketsState → BucketsState
after_failure m = record m { moved = m.moved + 1; faults = m.faults + 1 }

-- What a memory with failing moves keeps: its buckets, and the numbers of the moves that fail, from 1.
pub record FaultyState : Type 0 where
  pub memory : BucketsState
  pub failing : List ℕ

-- the number of the next move is listed
abbrev pub next_move_fails : FaultyState → Bool
next_move_fails m = list_any (λ number. number == m.memory.moved + 1) m.failing

-- What a scripted memory keeps: the replies, how many reads, moves and prepared buckets it had, for how many moves it
-- tells, and of these the moves and the answers.
pub record ScriptedState : Type 0 where
  pub replies : List (List ℕ)
  pub reads : ℕ
  pub moved : ℕ
  pub count : ℕ
  pub moves : ℕ
  pub seen : List Ask
  pub said : List (Option (List ℕ))

-- moves and answers are told where there was room for all of them; each read past the last reply is a fault
abbrev pub told_by_script : ScriptedState → MemoryState
told_by_script m = record {
  faults = m.reads - length m.replies;
  moved = m.moved;
  count = m.count;
  told = None;
  seen = if nat_le m.moved m.moves then Some m.seen else None;
  said = if nat_le m.moved m.moves then Some m.said else None;
  link = 0;
}

-- a list of one more item, where this move is among the first that are told
abbrev pub with_told : {A : Type 0} → ScriptedState → List A → A → List A
with_told {A} m items item = if nat_lt m.moved m.moves then items ++ item ∷ [] else items

-- a read is asked, and answered from the replies
abbrev pub after_script_read : ScriptedState → ℕ → ℕ → ScriptedState
after_script_read m at number = record m {
  reads = m.reads + 1;
  moved = m.moved + 1;
  seen = with_told m m.seen (read_ask at number);
  said = with_told m m.said (slice_get m.replies m.reads);
}

-- a write is asked
abbrev pub after_script_write : ScriptedState → ℕ → ℕ → List ℕ → ScriptedState
after_script_write m at number text = record m {
  moved = m.moved + 1;
  seen = with_told m m.seen (write_ask at number (Some text));
}
