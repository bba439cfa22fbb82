-- What the parts of the reader answer: of a number, of a line, and of the line that stands first in a text.
use Rattle.std.specs.Prelude.{◌≡◌, ◌≢◌, ℕ, ◌-◌, ◌≤◌, List, [], ◌∷◌, ◌++◌, All, length, replicate, IsTrue, false, codes}
use Rattle.std.specs.Char.{IsAsciiDigit}
use Rattle.std.specs.Fmt.{decimal}
use Rattle.asc_base.specs.Settings.{AreRates}
use Rattle.asc_base.specs.declared.settings.Rates.{Rates}
use Rattle.bus_trace.specs.Trace.{Line, spaced, access_line, end_line}
use Rattle.bus_trace.specs.Grammar.{IsShort, AreShort, IsSeen}
use Rattle.bus_trace.specs.Reader.{IsUnended, IsFirstFault}
use Rattle.bus_trace.specs.declared.fault.TraceFault.{TraceFault}
use Rattle.bus_trace.specs.declared.fault.TraceFault.TheVariants.{Bad, NoMemory}
use Rattle.bus_trace.specs.declared.fault.TraceKind.{TraceKind}
use Rattle.bus_trace.specs.declared.fault.TraceKind.TheVariants.{Form, Range, Cut, Extra}
use Rattle.bus_trace.specs.declared.trace.Seen.{Seen}
use Rattle.bus_trace.specs.declared.rates.Found.{Found}
use Rattle.bus_trace.specs.declared.lines.Item.{Item}
use Rattle.bus_trace.specs.declared.lines.Item.TheVariants.{Access, End}

-- no digit stands first
abbrev pub BeginsNoDigit : List ℕ → Type 0
BeginsNoDigit [] = Unit {0}
BeginsNoDigit (byte ∷ bytes) = ¬ IsAsciiDigit byte

-- a space and a number stand first, and then the rest
pub record BeginsNumber (text : List ℕ) (number : ℕ) (rest : List ℕ) : Type 0 where
  pub short : IsShort number
  pub parts : text ≡ 32 ∷ (decimal number ++ rest)
  pub ends : BeginsNoDigit rest

-- A line says something, which has one way to be written. What is in the form and what is in the ranges differs from
-- line to line.

-- the line isn't of the form, whatever it says
abbrev pub IsIllFormed : {A : Type 0} → (A → Line) → (A → Type 0) → Line → Type 0
IsIllFormed {A} write InForm line = (said : A) → InForm said → line ≡ write said → ⊥

-- the line is of the form, and what it says is out of the ranges
pub record IsOutside {A : Type 0} (write : A → Line) (InForm InRange : A → Type 0) (line : Line) : Type 0 where
  pub said : A
  pub form : InForm said
  pub written : line ≡ write said
  pub outside : (other : A) → InRange other → line ≡ write other → ⊥

-- what is wrong with a line
abbrev pub IsLineFault : {A : Type 0} → (A → Line) → (A → Type 0) → (A → Type 0) → Line → TraceKind → Type 0
IsLineFault write InForm InRange line Form = IsIllFormed write InForm line
IsLineFault write InForm InRange line Range = IsOutside write InForm InRange line
IsLineFault write InForm InRange line Cut = ⊥
IsLineFault write InForm InRange line Extra = ⊥

-- the line says this, which is in the ranges
pub record IsLineOf {A : Type 0} (write : A → Line) (InRange : A → Type 0) (line : Line) (said : A) : Type 0 where
  pub ranges : InRange said
  pub written : line ≡ write said

-- the line stands first, then its line feed, and then the rest
pub record BeginsLine (text line rest : List ℕ) : Type 0 where
  pub parts : text ≡ line ++ 10 ∷ rest
  pub unended : IsUnended line

-- the line that stands first says this, which is in the ranges
pub record TakesLine {A : Type 0} (write : A → Line) (InRange : A → Type 0) (text : List ℕ) (said : A) (rest : List ℕ)
    : Type 0 where
  pub line : Line
  pub begins : BeginsLine text line rest
  pub says : IsLineOf write InRange line said

-- what is wrong with the line that stands first
pub record HasLineFault {A : Type 0} (write : A → Line) (InForm InRange : A → Type 0) (text : List ℕ) (kind : TraceKind)
    : Type 0 where
  pub line : Line
  pub rest : List ℕ
  pub begins : BeginsLine text line rest
  pub fault : IsLineFault write InForm InRange line kind

abbrev pub HasFault : {A : Type 0} → (A → Line) → (A → Type 0) → (A → Type 0) → List ℕ → TraceKind → Type 0
HasFault write InForm InRange text Form = HasLineFault write InForm InRange text Form
HasFault write InForm InRange text Range = HasLineFault write InForm InRange text Range
HasFault write InForm InRange text Cut = IsUnended text
HasFault write InForm InRange text Extra = ⊥

-- the line that stands first, which has this number, is refused so
abbrev pub RefusesLine : {A : Type 0} → (A → Line) → (A → Type 0) → (A → Type 0) → ℕ → List ℕ → TraceFault → Type 0
RefusesLine write InForm InRange number text (Bad line kind) =
    (line ≡ number) × HasFault write InForm InRange text kind
RefusesLine write InForm InRange number text NoMemory = ⊥

-- the fault is the text's first, unless there was no memory
abbrev pub IsFaultOf : List ℕ → TraceFault → Type 0
IsFaultOf text (Bad line kind) = IsFirstFault text line kind
IsFaultOf text NoMemory = Unit {0}

-- the line of an access or of the end, what is in its form, and what is in its ranges
abbrev pub item_line : Item → Line
item_line (Access seen) = access_line seen
item_line (End end) = end_line end

abbrev pub IsShortItem : Item → Type 0
IsShortItem (Access seen) = AreShort seen
IsShortItem (End end) = IsShort end

abbrev pub IsItem : ℕ → Item → Type 0
IsItem levels (Access seen) = IsSeen levels seen
IsItem levels (End end) = end ≤ 536870912

-- some numbers of at most ten digits
pub record AreNumbers (numbers : List ℕ) : Type 0 where
  pub some : numbers ≢ []
  pub short : All IsShort numbers

-- they are rates
abbrev pub AreAllRates : List ℕ → Type 0
AreAllRates numbers = AreRates numbers (length numbers)

-- so many numbers, and so great, may be rates
pub record MayBeRates (numbers : List ℕ) : Type 0 where
  pub few : length numbers ≤ 16
  pub small : All (λ number. number ≤ 1048576) numbers

-- the list has these numbers, and zeros behind them
pub record HasRates (rates : Rates) (numbers : List ℕ) : Type 0 where
  pub list : rates.list ≡ numbers ++ replicate (16 - length numbers) 0
  pub count : rates.count ≡ length numbers
  pub few : length numbers ≤ 16

-- these numbers were found: the list has them, or they can't be rates
pub record Holds (found : Found) (numbers : List ℕ) : Type 0 where
  pub all : IsTrue found.all → HasRates found.rates numbers × MayBeRates numbers
  pub others : found.all ≡ false → ¬ MayBeRates numbers

-- the text is some numbers, each behind a space
pub record IsList (text : List ℕ) (numbers : List ℕ) : Type 0 where
  pub are : AreNumbers numbers
  pub written : text ≡ spaced numbers

-- and these were found
pub record IsFound (text : List ℕ) (found : Found) : Type 0 where
  pub numbers : List ℕ
  pub list : IsList text numbers
  pub holds : Holds found numbers

-- the first line of a trace, which says nothing
abbrev pub title_line : Unit {0} → Line
title_line said = codes "ascend trace 1"

abbrev pub IsAnything : Unit {0} → Type 0
IsAnything said = Unit {0}

-- an access with these numbers
abbrev pub seen_with : ℕ → ℕ → ℕ → Seen
seen_with start leaf moves = record { start = start; leaf = record { 0 = leaf }; moves = moves }
