-- TraceText: which texts are which traces'.
use Rattle.std.specs.Prelude.{◌≡◌, ◌≢◌, ℕ, ◌+◌, ◌*◌, ◌^◌, ◌<◌, ◌≤◌, List, [], All}
use Rattle.asc_base.specs.Settings.{IsFromTo, AreRates, greatest_rate}
use Rattle.asc_base.specs.TreeShape.{olat_of}
use Rattle.bus_schedule.specs.Timetable.{Public, count_of}
use Rattle.bus_trace.specs.Trace.{TraceLists, trace_text}
use Rattle.bus_trace.specs.declared.trace.Seen.{Seen}

-- the ranges of a header's numbers, which are those of the settings
pub record IsHeader (h : Public) : Type 0 where
  pub levels : IsFromTo 1 20 h.levels
  pub rates : AreRates h.rates (count_of h)
  pub first : h.first < count_of h
  pub epoch : IsFromTo (olat_of h.levels + greatest_rate h.rates (count_of h)) 268435456 h.epoch
  pub leak : h.leak ≤ 60

-- the ranges of an access's numbers
pub record IsSeen (levels : ℕ) (seen : Seen) : Type 0 where
  pub start : seen.start ≤ 536870912
  pub leaf : seen.leaf.0 < 2 ^ levels
  pub moves : IsFromTo 1 (2 * (levels + 1)) seen.moves

-- all numbers of a trace are in their ranges
pub record IsTrace (t : TraceLists) : Type 0 where
  pub header : IsHeader t.header
  pub accesses : All (IsSeen t.header.levels) t.accesses
  pub end : t.end ≤ 536870912

-- a number of at most ten digits
abbrev pub IsShort : ℕ → Type 0
IsShort n = n < 10 ^ 10

-- three of them
pub record AreShort (seen : Seen) : Type 0 where
  pub start : IsShort seen.start
  pub leaf : IsShort seen.leaf.0
  pub moves : IsShort seen.moves

-- All numbers of a trace have at most ten digits, and it has a rate. So its lines have their forms, whatever the
-- ranges.
pub record IsForm (t : TraceLists) : Type 0 where
  pub levels : IsShort t.header.levels
  pub some : t.header.rates ≢ []
  pub rates : All IsShort t.header.rates
  pub first : IsShort t.header.first
  pub epoch : IsShort t.header.epoch
  pub leak : IsShort t.header.leak
  pub accesses : All AreShort t.accesses
  pub end : IsShort t.end

-- TraceText: the text is that of the lines of the trace, whose numbers are in their ranges.
pub record TraceText (text : List ℕ) (t : TraceLists) : Type 0 where
  pub ranges : IsTrace t
  pub lines : text ≡ trace_text t
