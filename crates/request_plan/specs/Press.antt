-- A worked example: a press that prints sheets until it jams, which is for good, and a folder and a desk over it.
use Rattle.std.specs.Prelude.{◌≡◌, ◌⊎◌, ℕ, zero, suc, ◌+◌, ◌-◌, ◌*◌, ◌<◌, nat_le, Bool, true, false, if◌then◌else◌}
use Rattle.std.specs.Prelude.{List, [], ◌∷◌, ◌++◌, Option, Some, None, Result, Ok, Err}
use Rattle.std.specs.List.{flat_map}
use Rattle.request_plan.specs.Plan.{Plan, Done, Ask, Ends, Stops, Reply, Refuses, Gives, ComesTo}
use Rattle.request_plan.specs.Play.{Turn}
use Rattle.request_plan.specs.Course.{Source, Noted}
use Rattle.request_plan.specs.declared.press.Halted.{Halted}
use Rattle.request_plan.specs.declared.press.Halted.TheVariants.{NoPaper, Jammed}

-- The sheets printed so far, the paper that is left, after how many sheets more it jams, and whether it did.
pub record PressState : Type 0 where
  pub sheets : ℕ
  pub paper : ℕ
  pub sound : ℕ
  pub jammed : Bool

-- a press with so much paper that printed nothing
abbrev pub loaded : ℕ → ℕ → PressState
loaded paper sound = record { sheets = 0; paper = paper; sound = sound; jammed = false }

-- with a sheet more
abbrev pub with_sheet : PressState → PressState
with_sheet p = record p { sheets = p.sheets + 1; paper = p.paper - 1; sound = p.sound - 1 }

-- Without paper it changes nothing. A jam is for good: a jammed press answers so, and changes nothing.
abbrev pub Halts : PressState → Halted → PressState → Type 0
Halts old NoPaper new = (old.jammed ≡ false) × (old.paper ≡ 0) × (new ≡ old)
Halts old Jammed new =
    (new ≡ record old { jammed = true }) × ((old.jammed ≡ true) ⊎ ((old.jammed ≡ false) × (0 < old.paper)
    × (old.sound ≡ 0)))

-- A request for a sheet, which is answered by its number.
abbrev pub Prints : PressState → Unit {0} → Result ℕ Halted → PressState → Type 0
Prints old q (Ok number) new =
    (old.jammed ≡ false) × (0 < old.paper) × (0 < old.sound) × (new ≡ with_sheet old) × (number ≡ old.sheets + 1)
Prints old q (Err stop) new = Halts old stop new

-- it hasn't jammed, which an answer keeps and a jam breaks
abbrev pub IsSound : PressState → Type 0
IsSound p = p.jammed ≡ false

-- few sheets were printed
abbrev pub IsFew : PressState → Type 0
IsFew p = p.sheets < 100

-- the numbers of the sheets so far
abbrev pub sheets_to : ℕ → List ℕ
sheets_to zero = []
sheets_to (suc n) = sheets_to n ++ suc n ∷ []

-- the two pages of a sheet
abbrev pub pages_of : ℕ → List ℕ
pages_of sheet = (2 * sheet) ∷ (2 * sheet + 1) ∷ []

-- The pages that were printed. A press jams within a sheet, of which it printed the first page.
abbrev pub pages : PressState → List ℕ
pages p = flat_map pages_of (sheets_to p.sheets) ++ (if p.jammed then (2 * (p.sheets + 1)) ∷ [] else [])

-- what the page of a cut sheet is
abbrev pub IsFirstPage : Halted → PressState → ℕ → List ℕ → Type 0
IsFirstPage stop p sheet some = some ≡ (2 * sheet) ∷ []

abbrev pub IsJam : Halted → Type 0
IsJam stop = stop ≡ Jammed

abbrev pub IsOut : Halted → Type 0
IsOut stop = stop ≡ NoPaper

-- A press that never jams, as a server: the sheets, and the paper that is left. Without paper it makes no record.
abbrev pub shift_of : ℕ → ℕ → Turn ℕ (ℕ × ℕ) ℕ
shift_of n zero = record { records = []; held = (n, 0); answer = 0 }
shift_of n (suc paper) = record { records = (n + 1) ∷ []; held = (n + 1, paper); answer = n + 1 }

abbrev pub shift : ℕ × ℕ → Unit {0} → Turn ℕ (ℕ × ℕ) ℕ
shift held q = shift_of (held.0) (held.1)

-- The press has as many sheets and as much paper. When it jams the server doesn't know.
abbrev pub IsLike : PressState → ℕ × ℕ → Type 0
IsLike p held = (p.sheets ≡ held.0) × (p.paper ≡ held.1)

-- no paper is left
abbrev pub IsEmpty : ℕ × ℕ → Type 0
IsEmpty held = held.1 ≡ 0

-- what a press tells that hasn't jammed, and what it answers from there
abbrev pub told_sheets : PressState → Option ℕ
told_sheets p = if p.jammed then None else Some p.sheets

abbrev pub count_sheet : ℕ → Unit {0} → ℕ × ℕ
count_sheet n q = (n + 1, n + 1)

-- an answer is read from the number that is noted
abbrev pub numbers : Unit {0} → Source ℕ ℕ
numbers q = Noted (λ number. Some number)

-- A folder: its press, and how many leaflets of two sheets it made.
pub record FolderState : Type 0 where
  pub press : PressState
  pub leaflets : ℕ

-- A leaflet: two sheets, and its last sheet's number.
abbrev pub leaflet_plan : ℕ → Unit {0} → Plan (Unit {0}) ℕ (Unit {0}) (ℕ × ℕ)
leaflet_plan leaflets q = Ask tt tt (λ _. Ask tt tt (λ last. Done (leaflets + 1, last)))

-- A step of a folder. A leaflet that was stopped doesn't count.
abbrev pub Folds : FolderState → Unit {0} → Result ℕ Halted → FolderState → Type 0
Folds old q (Ok last) new = Ends Prints (leaflet_plan old.leaflets q) old.press new.press (new.leaflets, last)
Folds old q (Err stop) new =
    Stops Prints (leaflet_plan old.leaflets q) old.press new.press stop tt × (new.leaflets ≡ old.leaflets)

-- A sheet is handed out where its number is at most this, and refused where it is more.
abbrev pub hand_out : ℕ → Unit {0} → Plan (Unit {0}) ℕ (Unit {0}) (Reply Halted (Unit {0}) ℕ)
hand_out most q = Ask tt tt (λ number. Done (if nat_le number most then Gives tt number else Refuses NoPaper))

-- so many sheets, one after another; the number of the last
abbrev pub sheets_plan : ℕ → Plan (Unit {0}) ℕ ℕ ℕ
sheets_plan zero = Done 0
sheets_plan (suc zero) = Ask tt 1 (λ number. Done number)
sheets_plan (suc (suc n)) = Ask tt (suc (suc n)) (λ number. sheets_plan (suc n))

-- Such a request, one by one: it comes to what its plan comes to.
abbrev pub HandsUpTo : ℕ → PressState → Unit {0} → Result ℕ Halted → PressState → Type 0
HandsUpTo most old q answer new = ComesTo Prints (hand_out most q) old answer new

-- A desk: its press, and how many sheets it may still hand out.
pub record DeskState : Type 0 where
  pub press : PressState
  pub left : ℕ

-- its press hasn't jammed
abbrev pub HasSoundPress : DeskState → Type 0
HasSoundPress d = IsSound d.press

-- A request at a desk: it is refused where none is left to hand out; else a sheet is printed and handed out.
abbrev pub desk_plan : ℕ → Unit {0} → Plan (Unit {0}) ℕ (Unit {0}) (Reply Halted ℕ ℕ)
desk_plan zero q = Done (Refuses NoPaper)
desk_plan (suc left) q = Ask tt tt (λ number. Done (Gives left number))

-- A step of a desk. A sheet that was handed out is one less to hand out. Where none is left the press isn't asked.
abbrev pub HandsOut : DeskState → Unit {0} → Result ℕ Halted → DeskState → Type 0
HandsOut old q (Ok number) new =
    (0 < old.left) × Prints old.press q (Ok number) new.press × (new.left ≡ old.left - 1)
HandsOut old q (Err stop) new =
    (new.left ≡ old.left)
    × (((old.left ≡ 0) × (stop ≡ NoPaper) × (new.press ≡ old.press))
    ⊎ ((0 < old.left) × Prints old.press q (Err stop) new.press))

-- The plan asks for so many sheets, whatever their numbers are, and leaves as many as were still to come.
abbrev pub AsksFor : ℕ → Plan (Unit {0}) ℕ ℕ ℕ → Type 0
AsksFor zero (Done a) = Unit {0}
AsksFor zero (Ask q b k) = ⊥
AsksFor (suc n) (Done a) = ⊥
AsksFor (suc n) (Ask q b k) = (b ≡ suc n) × ((x : ℕ) → AsksFor n (k x))

-- the plan asks for as many sheets as the desk may still hand out
abbrev pub AsksForRest : DeskState → Plan (Unit {0}) ℕ ℕ ℕ → Type 0
AsksForRest d plan = AsksFor d.left plan

-- as many are left to ask for as the desk may still hand out
abbrev pub IsRest : DeskState → Halted → ℕ → Type 0
IsRest d stop left = left ≡ d.left
