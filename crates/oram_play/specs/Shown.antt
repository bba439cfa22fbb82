-- What answered accesses show of a walk, and when their lines are those of a memory.
use Rattle.std.specs.Prelude.{◌≡◌, ◌<◌, ℕ, List, [], ◌∷◌, Option, Some, None}
use Rattle.asc_base.specs.declared.block.Line.{Line}
use Rattle.asc_base.specs.declared.block.Message.{Message}
use Rattle.oram_walk.specs.Memory.{Shown, Accessed, Displaced, put_line, put_back}
use Rattle.oram_walk.specs.Front.{FrontState, sizes_of}
use Rattle.oram_walk.specs.Shows.{Shows, shown_by}
use Rattle.oram_walk.specs.declared.slots.Purpose.{Purpose}
use Rattle.posmap_lookaside.specs.Walk.{OnChip, WalkAccess, WalkSizes, walk}
use Rattle.oram_play.specs.InTurn.{AnsweredAccess}

-- what is appended, if anything is, and the lines of a memory after it
abbrev pub appended_shown : Option Message → List Shown
appended_shown None = []
appended_shown (Some message) = Displaced message.address.0 message.counter message.line ∷ []

abbrev pub lines_appended : (ℕ → Line) → Option Message → ℕ → Line
lines_appended lines None = lines
lines_appended lines (Some message) = put_line lines message.address.0 message.line

-- an access to a block under its counters and with its purpose, the line that is found, and what is appended behind it
abbrev pub answered_shown : AnsweredAccess → List Shown
answered_shown one =
    Accessed one.access.address.0 one.access.counter one.access.next one.access.purpose one.line
    ∷ appended_shown one.appended

-- Each access was answered with its block's line, in a memory that changes by what is put back and appended.
abbrev pub AreLinesIn : (ℕ → Line) → List AnsweredAccess → Type 0
AreLinesIn lines [] = Unit {0}
AreLinesIn lines (one ∷ more) =
    (one.line ≡ lines one.access.address.0)
    × AreLinesIn (lines_appended (put_back lines one.access.address.0 one.access.purpose) one.appended) more

-- the lines of such a memory after them
abbrev pub lines_in_turn : (ℕ → Line) → List AnsweredAccess → ℕ → Line
lines_in_turn lines [] = lines
lines_in_turn lines (one ∷ more) =
    lines_in_turn (lines_appended (put_back lines one.access.address.0 one.access.purpose) one.appended) more

-- each access shows what one of a walk does over a memory with these lines, in order, and the walk has no others
abbrev pub AreShownAs : WalkSizes → (ℕ → Line) → Purpose → List WalkAccess → List AnsweredAccess → Type 0
AreShownAs sizes lines put [] [] = Unit {0}
AreShownAs sizes lines put (walked ∷ rest) (one ∷ more) =
    (answered_shown one ≡ shown_by sizes lines put walked) × AreShownAs sizes lines put rest more
AreShownAs sizes lines put [] (one ∷ more) = ⊥
AreShownAs sizes lines put (walked ∷ rest) [] = ⊥

-- What a request's accesses show, if their lines are those of a memory that shows the counters: its walk.
abbrev pub ShowsWalk : FrontState → ℕ → Purpose → List AnsweredAccess → Type 0
ShowsWalk front line put accesses = (lines : ℕ → Line) (chip : OnChip) → line < front.shape.lines
    → Shows front lines chip → AreLinesIn lines accesses
    → AreShownAs (sizes_of front) lines put (walk (sizes_of front) chip line).accesses accesses
