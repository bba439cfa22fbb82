-- Traces, and the lines that write one.
use Rattle.std.specs.Prelude.{ℕ, List, [], ◌∷◌, ◌++◌, map, take, codes}
use Rattle.std.specs.Fmt.{decimal}
use Rattle.std.specs.List.{flat_map}
use Rattle.bus_schedule.specs.Timetable.{Public}
use Rattle.bus_trace.specs.declared.trace.Header.{Header}
use Rattle.bus_trace.specs.declared.trace.Seen.{Seen}
use Rattle.bus_trace.specs.declared.trace.Trace.{Trace}

-- What a trace means: the public part of a configuration, the accesses in order, and the time of the end.
pub record TraceLists : Type 0 where
  pub header : Public
  pub accesses : List Seen
  pub end : ℕ

-- the public part that a header has
abbrev pub public_of : Header → Public
public_of h = record {
  levels = h.levels;
  rates = take h.rates.count h.rates.list;
  first = h.first;
  epoch = h.epoch;
  leak = h.leak;
}

-- what a trace means
abbrev pub lists_of : Trace → TraceLists
lists_of t = record { header = public_of t.header; accesses = t.accesses.items; end = t.end }

-- A line is the list of its bytes, without its line feed.
abbrev pub Line : Type 0
Line = List ℕ

-- numbers, with one space before each
abbrev pub spaced : List ℕ → List ℕ
spaced numbers = flat_map (λ n. 32 ∷ decimal n) numbers

-- a word and numbers, with one space before each
abbrev pub line : Line → List ℕ → Line
line word numbers = word ++ spaced numbers

-- the lines of a header
abbrev pub header_lines : Public → List Line
header_lines h =
    codes "ascend trace 1"
    ∷ line (codes "levels") (h.levels ∷ [])
    ∷ line (codes "rates") h.rates
    ∷ line (codes "first") (h.first ∷ [])
    ∷ line (codes "epoch") (h.epoch ∷ [])
    ∷ line (codes "leak") (h.leak ∷ [])
    ∷ []

-- the line of an access
abbrev pub access_line : Seen → Line
access_line seen = line (codes "access") (seen.start ∷ seen.leaf.0 ∷ seen.moves ∷ [])

-- the last line
abbrev pub end_line : ℕ → Line
end_line end = line (codes "end") (end ∷ [])

-- all lines of a trace
abbrev pub lines_of : TraceLists → List Line
lines_of t = header_lines t.header ++ (map access_line t.accesses ++ end_line t.end ∷ [])

-- lines as a text: a line feed ends each
unfoldable pub text_of : List Line → List ℕ
text_of lines = flat_map (λ l. l ++ 10 ∷ []) lines

-- the text of a trace
abbrev pub trace_text : TraceLists → List ℕ
trace_text t = text_of (lines_of t)
