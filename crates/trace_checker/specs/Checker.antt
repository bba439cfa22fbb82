-- What a check of a trace says.
use Rattle.std.specs.Prelude.{◌≡◌, ℕ, suc, ◌+◌, ◌*◌, ◌≤◌, List, map, take, length, Some, slice_get}
use Rattle.bus_watch.specs.Path.{slot_moves}
use Rattle.bus_schedule.specs.Timetable.{Public, count_of, bits_of, start_at, timetable, fallen}
use Rattle.bus_schedule.specs.Schedule.{moves_before_time}
use Rattle.bus_trace.specs.Trace.{TraceLists}
use Rattle.bus_trace.specs.declared.trace.Seen.{Seen}
use Rattle.trace_checker.specs.declared.verdict.Verdict.{Verdict}
use Rattle.trace_checker.specs.declared.verdict.Verdict.TheVariants.{Holds, Fails}

-- how many moves of a slot come before a time, which is the same for each leaf
abbrev pub moves_by : Public → ℕ → ℕ → ℕ
moves_by p end start = length (moves_before_time end (slot_moves p.levels start 0))

-- a slot of the schedule up to a time, by its start: its start, and its number of moves by then
abbrev pub slot_by : Public → ℕ → ℕ → ℕ × ℕ
slot_by p end start = (start, moves_by p end start)

-- the slots of a code up to a time
abbrev pub slots : Public → ℕ → ℕ → List (ℕ × ℕ)
slots p code end = map (slot_by p end) (timetable p code end)

-- a slot that a trace shows
abbrev pub shown_slot : Seen → ℕ × ℕ
shown_slot seen = (seen.start, seen.moves)

abbrev pub shown : List Seen → List (ℕ × ℕ)
shown accesses = map shown_slot accesses

-- The code allows the first k lines behind the header: the first k of its slots are the first k that the trace shows.
-- With one line more than there are accesses, which is the end line, they are all of both.
pub record Allows (t : TraceLists) (k code : ℕ) : Type 0 where
  pub first : take k (slots t.header code t.end) ≡ take k (shown t.accesses)

-- some code does
abbrev pub IsAllowed : TraceLists → ℕ → Type 0
IsAllowed t k = (code : ℕ) × Allows t k code

-- the code has the slots of the trace, and no others
pub record Fits (t : TraceLists) (code : ℕ) : Type 0 where
  pub all : slots t.header code t.end ≡ shown t.accesses

-- a number has this, and no lesser one does
pub record IsLeast (Has : ℕ → Type 0) (number : ℕ) : Type 0 where
  pub has : Has number
  pub least : (other : ℕ) → Has other → number ≤ other

-- a number has this, and no greater one does
pub record IsMost (Has : ℕ → Type 0) (number : ℕ) : Type 0 where
  pub has : Has number
  pub most : (other : ℕ) → Has other → other ≤ number

-- the bits of the choices that fell by the end of a trace
abbrev pub bits_by : TraceLists → ℕ → ℕ
bits_by t code = fallen t.header code t.end * bits_of (count_of t.header)

-- a start that may come next, by a code that allows the first k lines
pub record Next (t : TraceLists) (k start : ℕ) : Type 0 where
  pub code : ℕ
  pub allows : Allows t k code
  pub starts : start_at t.header code k ≡ start

-- The numbers found and wanted at the line after the first k, which is the first that no code allows. Of an access it
-- is the start where no code gives it, and the least is wanted; else the number of moves. Of the end line it is its
-- time, where each code has one more slot before it, and the latest start of one is wanted.
pub data Tells (t : TraceLists) (k : ℕ) : ℕ → ℕ → Type 0 where
  start : (seen : Seen) (wanted : ℕ) → slice_get t.accesses k ≡ Some seen → ¬ Next t k seen.start
      → IsLeast (Next t k) wanted → Tells t k seen.start wanted
  moves : (seen : Seen) → slice_get t.accesses k ≡ Some seen → Next t k seen.start
      → Tells t k seen.moves (moves_by t.header t.end seen.start)
  end : (wanted : ℕ) → k ≡ length t.accesses → IsMost (Next t k) wanted → Tells t k t.end wanted

-- the verdict of a check; the header has six lines
pub data Says (t : TraceLists) : Verdict → Type 0 where
  holds : (code : ℕ) → IsLeast (Fits t) code → Says t (Holds code (bits_by t code))
  fails : (k found wanted : ℕ) → IsAllowed t k → ¬ IsAllowed t (suc k) → Tells t k found wanted
      → Says t (Fails (7 + k) found wanted)

-- the verdict holds by a code that fits the trace and isn't greater than this one
pub record HoldsBy (t : TraceLists) (code : ℕ) (verdict : Verdict) : Type 0 where
  pub least : ℕ
  pub bits : ℕ
  pub is : verdict ≡ Holds least bits
  pub fits : Fits t least
  pub below : least ≤ code
