-- What a stopped request leaves of the slots of its accesses.
use Rattle.std.specs.Prelude.{◌≡◌, ◌<◌, ℕ, List, [], ◌∷◌, ◌++◌, Some, None}
use Rattle.request_plan.specs.Plan.{Stops}
use Rattle.asc_base.specs.declared.block.Line.{Line}
use Rattle.asc_base.specs.declared.block.Message.{Message}
use Rattle.asc_base.specs.declared.settings.Config.{Config}
use Rattle.asc_base.specs.declared.stop.Stop.{Stop}
use Rattle.asc_base.specs.declared.stop.Stop.TheVariants.{NoMemory}
use Rattle.oram_contents.specs.Entries.{Keys}
use Rattle.oram_frontend.specs.Oram.{OramState}
use Rattle.oram_lines.specs.Noted.{Answers, StopsAt, AreAnswersIn, lines_behind}
use Rattle.oram_walk.specs.Front.{FrontState, sizes_of}
use Rattle.oram_walk.specs.Memory.{Accessed}
use Rattle.oram_walk.specs.Plans.{FrontPlan}
use Rattle.oram_walk.specs.Request.{Request, Slot as AccessSlot, Append, Room, Steps}
use Rattle.oram_walk.specs.Shows.{Shows, shown_by, put_of, found_line}
use Rattle.oram_walk.specs.declared.slots.Access.{Access}
use Rattle.oram_walk.specs.declared.slots.Purpose.{Purpose}
use Rattle.posmap_counters.specs.Counters.{counter_at}
use Rattle.posmap_lookaside.specs.Walk.{OnChip, WalkAccess, WalkSizes, walk}
use Rattle.rate_enforcer.specs.PortStep.{PortState}
use Rattle.run_play.specs.Slots.{Pace, Numbers, Slot}
use Rattle.oram_play.specs.InTurn.{AnsweredAccess, slots_in_turn, AreInTurn}
use Rattle.oram_play.specs.Shown.{answered_shown, AreLinesIn, lines_in_turn, AreShownAs}
use Rattle.oram_play.specs.Stopped.{AccessLeaves, AppendLeaves}
use Rattle.oram_play.specs.Taken.{HasTaken}

-- an access was stopped that is asked for at a time
pub record StopsAccess (keys : Keys) (levels : ℕ) (numbers : Numbers) (asked : ℕ) (slots : List Slot) (pace : Pace)
    (stop : Stop) (old new : PortState) : Type 0 where
  pub access : Access
  pub asked_is : access.asked ≡ asked
  pub leaves : AccessLeaves keys levels numbers slots pace access old stop new

-- an append was stopped behind the last of some slots
pub record StopsAppend (levels : ℕ) (slots : List Slot) (stop : Stop) (new : PortState) : Type 0 where
  pub message : Message
  pub before : List Slot
  pub slot : Slot
  pub are : slots ≡ before ++ slot ∷ []
  pub bare : slot.appended ≡ None
  pub leaves : AppendLeaves levels before slot message stop new

-- an access or an append was stopped, or room was wanting
pub data StopsNext (keys : Keys) (levels : ℕ) (numbers : Numbers) (asked : ℕ) (slots : List Slot) (pace : Pace)
    (stop : Stop) (old new : PortState) : Type 0 where
  AtAccess : StopsAccess keys levels numbers asked slots pace stop old new
      → StopsNext keys levels numbers asked slots pace stop old new
  AtAppend : StopsAppend levels slots stop new → StopsNext keys levels numbers asked slots pace stop old new
  NoRoom : stop ≡ NoMemory → StopsNext keys levels numbers asked slots pace stop old new

-- Behind these slots a port took those of some accesses, which were answered one after another, the first of them asked
-- for at a time; then came the stop.
pub record StopsInTurn (keys : Keys) (levels : ℕ) (config : Config) (numbers : Numbers) (asked : ℕ) (slots : List Slot)
    (pace : Pace) (stop : Stop) (new : PortState) : Type 0 where
  pub accesses : List AnsweredAccess
  pub end : ℕ
  pub in_turn : AreInTurn config numbers asked accesses pace end
  pub mid : PortState
  pub config_is : mid.clock.config ≡ config
  pub taken : HasTaken mid (slots ++ (slots_in_turn config numbers accesses pace).slots)
      (slots_in_turn config numbers accesses pace).pace
  pub next : StopsNext keys levels numbers end (slots ++ (slots_in_turn config numbers accesses pace).slots)
      (slots_in_turn config numbers accesses pace).pace stop mid new

-- what was asked for where it was stopped
abbrev pub asked_of : {keys : Keys} {levels : ℕ} {numbers : Numbers} {asked : ℕ} {slots : List Slot} {pace : Pace}
    {stop : Stop} {old new : PortState} → StopsNext keys levels numbers asked slots pace stop old new → Request
asked_of (AtAccess x) = AccessSlot x.access
asked_of (AtAppend x) = Append x.message
asked_of (NoRoom none) = Room

-- Of a walk's accesses over a memory with these lines the first ones are these, and the next one is to the block of an
-- access under its counters, with its purpose, and this line is to be found there.
pub record IsNextOf (sizes : WalkSizes) (lines : ℕ → Line) (put : Purpose) (walked : List WalkAccess)
    (accesses : List AnsweredAccess) (access : Access) (line : Line) : Type 0 where
  pub before : List WalkAccess
  pub next : WalkAccess
  pub later : List WalkAccess
  pub are : walked ≡ before ++ next ∷ later
  pub shown : AreShownAs sizes lines put before accesses
  pub is : Accessed access.address.0 access.counter access.next access.purpose line
      ≡ Accessed next.address next.counter (counter_at next.counters next.address) (put_of put next.purpose)
      (found_line sizes (counter_at next.counters) lines next.address)

-- the same where the last of these accesses is the next one, behind which a message is appended
pub record IsLastOf (sizes : WalkSizes) (lines : ℕ → Line) (put : Purpose) (walked : List WalkAccess)
    (accesses : List AnsweredAccess) (message : Message) : Type 0 where
  pub before : List WalkAccess
  pub next : WalkAccess
  pub later : List WalkAccess
  pub are : walked ≡ before ++ next ∷ later
  pub first : List AnsweredAccess
  pub last : AnsweredAccess
  pub parts : accesses ≡ first ++ last ∷ []
  pub shown : AreShownAs sizes lines put before first
  pub is : answered_shown (record last { appended = Some message }) ≡ shown_by sizes lines put next

-- So where a request was stopped, it was on its walk: at an access whose block's line is the memory's, as those before
-- it left it.
abbrev pub IsOnWalk : {keys : Keys} {levels : ℕ} {numbers : Numbers} {asked : ℕ} {slots : List Slot} {pace : Pace}
    {stop : Stop} {old new : PortState} → WalkSizes → (ℕ → Line) → Purpose → List WalkAccess → List AnsweredAccess
    → StopsNext keys levels numbers asked slots pace stop old new → Type 0
IsOnWalk sizes lines put walked accesses (AtAccess x) =
    IsNextOf sizes lines put walked accesses x.access (lines_in_turn lines accesses x.access.address.0)
IsOnWalk sizes lines put walked accesses (AtAppend x) = IsLastOf sizes lines put walked accesses x.message
IsOnWalk sizes lines put walked accesses (NoRoom none) = Unit {0}

-- What a stopped request shows of its walk, if the lines of its answered accesses are those of a memory that shows the
-- counters: it was on it.
abbrev pub ShowsWalkTo : {keys : Keys} {levels : ℕ} {numbers : Numbers} {asked : ℕ} {slots : List Slot} {pace : Pace}
    {stop : Stop} {old new : PortState} → FrontState → ℕ → Purpose → List AnsweredAccess
    → StopsNext keys levels numbers asked slots pace stop old new → Type 0
ShowsWalkTo front line put accesses next = (lines : ℕ → Line) (chip : OnChip) → line < front.shape.lines
    → Shows front lines chip → AreLinesIn lines accesses
    → IsOnWalk (sizes_of front) lines put (walk (sizes_of front) chip line).accesses accesses next

-- A request for a line was asked for at a time and stopped along its plan, behind these slots.
pub record IsStopped {A : Type 0} (keys : Keys) (levels : ℕ) (numbers : Numbers) (asked line : ℕ) (put : Purpose)
    (plan : FrontPlan A) (slots : List Slot) (pace : Pace) (stop : Stop) (old new : OramState) : Type 0 where
  -- it took slots access by access, up to one that was stopped, which is on the walk
  pub stops : StopsInTurn keys levels old.port.clock.config numbers asked slots pace stop new.port
  pub walks : ShowsWalkTo old.front line put stops.accesses stops.next
  -- the run of its plan, with each answer noted, up to there
  pub answers : Answers
  pub run : Stops (Steps (StopsAt keys levels stops.mid (asked_of stops.next))) plan
      (record { port = old.port; answers = [] }) (record { port = new.port; answers = answers }) stop new.front
  -- where these are the lines of a memory, so are those of the accesses, and both leave the same lines
  pub found : (lines : ℕ → Line) → AreAnswersIn lines answers → AreLinesIn lines stops.accesses
  pub leaves : (lines : ℕ → Line) → lines_behind lines answers ≡ lines_in_turn lines stops.accesses
