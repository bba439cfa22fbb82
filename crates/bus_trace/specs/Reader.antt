-- The first fault of a text that is no trace's.
use Rattle.std.specs.Prelude.{◌≡◌, ◌≢◌, ℕ, ◌+◌, List, [], ◌∷◌, ◌++◌, Contains, length}
use Rattle.bus_trace.specs.Trace.{TraceLists, Line, lines_of, text_of}
use Rattle.bus_trace.specs.Grammar.{IsTrace, IsForm}
use Rattle.bus_trace.specs.declared.fault.TraceKind.{TraceKind}
use Rattle.bus_trace.specs.declared.fault.TraceKind.TheVariants.{Form, Range, Cut, Extra}

-- some trace of this sort has these lines first, and maybe more
abbrev pub Begins : (TraceLists → Type 0) → List Line → Type 0
Begins Sort lines = (t : TraceLists) × Sort t × (more : List Line) × (lines_of t ≡ lines ++ more)

-- the lines are the first ones of a trace in its ranges, which has one more at least
abbrev pub IsOpen : List Line → Type 0
IsOpen lines = (next : Line) × Begins IsTrace (lines ++ next ∷ [])

-- the lines are all lines of a trace in its ranges
abbrev pub IsWhole : List Line → Type 0
IsWhole lines = (t : TraceLists) × IsTrace t × (lines_of t ≡ lines)

-- there is no line feed in these bytes
abbrev pub IsUnended : List ℕ → Type 0
IsUnended bytes = ¬ Contains bytes 10

-- The text's first fault stands in the line after `good`, and is of this kind.
pub data FaultAfter (good : List Line) (text : List ℕ) : TraceKind → Type 0 where
  -- the line isn't of a form that can stand there, whatever its numbers
  form : (bad : Line) (rest : List ℕ) → text ≡ text_of (good ++ bad ∷ []) ++ rest → IsUnended bad → IsOpen good
      → ¬ Begins IsForm (good ++ bad ∷ []) → FaultAfter good text Form
  -- the line is of such a form, and a number is out of its range
  range : (bad : Line) (rest : List ℕ) → text ≡ text_of (good ++ bad ∷ []) ++ rest
      → Begins IsForm (good ++ bad ∷ []) → IsOpen good → ¬ Begins IsTrace (good ++ bad ∷ [])
      → FaultAfter good text Range
  -- the text ends before the line does
  cut : (rest : List ℕ) → text ≡ text_of good ++ rest → IsUnended rest → IsOpen good → FaultAfter good text Cut
  -- anything follows the whole trace
  extra : (rest : List ℕ) → text ≡ text_of good ++ rest → rest ≢ [] → IsWhole good → FaultAfter good text Extra

-- the text's first fault, by the number of its line, the first being 1
abbrev pub IsFirstFault : List ℕ → ℕ → TraceKind → Type 0
IsFirstFault text number kind = (good : List Line) × FaultAfter good text kind × (number ≡ length good + 1)
