-- What is asked of a port along a plan and how it is answered; and when the answers are the lines of a memory.
use Rattle.std.specs.Prelude.{◌≡◌, ◌<◌, ℕ, List, [], ◌∷◌, ◌++◌, Some, Result, Ok, Err}
use Rattle.request_plan.specs.Plan.{Ends, Stops}
use Rattle.asc_base.specs.Has.{Has}
use Rattle.asc_base.specs.declared.block.Line.{Line}
use Rattle.asc_base.specs.declared.stop.Stop.{Stop}
use Rattle.oram_contents.specs.Counts.{Ghost, line_at}
use Rattle.oram_contents.specs.Entries.{Keys}
use Rattle.oram_contents.specs.Slots.{MayRise}
use Rattle.oram_frontend.specs.Access.{SlotStep}
use Rattle.oram_walk.specs.Front.{FrontState}
use Rattle.oram_walk.specs.Memory.{memory}
use Rattle.oram_walk.specs.Plans.{FrontPlan}
use Rattle.oram_walk.specs.Request.{Request, Slot, Append, Answer, Room, Steps}
use Rattle.oram_walk.specs.declared.slots.Access.{Access}
use Rattle.oram_walk.specs.declared.slots.Seen.{Seen}
use Rattle.rate_enforcer.specs.PortStep.{PortState}
use Rattle.oram_lines.specs.Standing.{IsKnown}

-- requests, each with its answer
abbrev pub Answers : Type 0
Answers = List (Request × Seen)

-- a port, and what was answered
pub record NotedState : Type 0 where
  pub port : PortState
  pub answers : Answers

-- the steps of a port, each answer of which is noted
abbrev pub NotedStep : Keys → ℕ → NotedState → Request → Result Seen Stop → NotedState → Type 0
NotedStep keys levels old request (Ok seen) new =
    SlotStep keys levels old.port request (Ok seen) new.port × (new.answers ≡ old.answers ++ (request, seen) ∷ [])
NotedStep keys levels old request (Err stop) new =
    SlotStep keys levels old.port request (Err stop) new.port × (new.answers ≡ old.answers)

-- the same steps, where the one that is stopped is of this request, from this port
abbrev pub StopsAt : Keys → ℕ → PortState → Request → NotedState → Request → Result Seen Stop → NotedState → Type 0
StopsAt keys levels mid last old request (Ok seen) new = NotedStep keys levels old request (Ok seen) new
StopsAt keys levels mid last old request (Err stop) new =
    NotedStep keys levels old request (Err stop) new × (old.port ≡ mid) × (request ≡ last)

-- the same of every request, that for room too
abbrev pub RefusesAt : Keys → ℕ → PortState → Request → NotedState → Request → Result Seen Stop → NotedState → Type 0
RefusesAt keys levels mid last old request (Ok seen) new = Steps (NotedStep keys levels) old request (Ok seen) new
RefusesAt keys levels mid last old request (Err stop) new =
    Steps (NotedStep keys levels) old request (Err stop) new × (old.port ≡ mid) × (request ≡ last)

-- an access is answered with its block's line in a memory
abbrev pub IsAnswerIn : (ℕ → Line) → Request → Seen → Type 0
IsAnswerIn lines (Slot access) seen = seen.line ≡ lines access.address.0
IsAnswerIn lines (Append message) seen = Unit {0}
IsAnswerIn lines (Answer line value) seen = Unit {0}
IsAnswerIn lines Room seen = Unit {0}

-- the lines of a memory after a request
abbrev pub lines_then : (ℕ → Line) → Request → ℕ → Line
lines_then lines request = (memory 0 lines request).held

-- each is answered so, in a memory that changes by what is put back and appended
abbrev pub AreAnswersIn : (ℕ → Line) → Answers → Type 0
AreAnswersIn lines [] = Unit {0}
AreAnswersIn lines ((request, seen) ∷ more) =
    IsAnswerIn lines request seen × AreAnswersIn (lines_then lines request) more

-- its lines after them
abbrev pub lines_behind : (ℕ → Line) → Answers → ℕ → Line
lines_behind lines [] = lines
lines_behind lines ((request, seen) ∷ more) = lines_behind (lines_then lines request) more

-- The lines of a memory are those of all blocks but the ones on chip and the one on its way.
pub record IsMemoryOf (keys : Keys) (g : Ghost) (lines : ℕ → Line) : Type 0 where
  pub each : (a : ℕ) → a < keys.shape.total → (Has a g.held → ⊥) → (g.flight ≡ Some a → ⊥)
      → (lines a).0 ≡ line_at keys.shape g a

-- An access is due at a port in a memory with these lines: of the port this is known, the block waits there for its
-- slot under the access's counter, which may rise to the next one, and the block's line is the memory's.
pub record IsDue (keys : Keys) (lines : ℕ → Line) (access : Access) (s : PortState) : Type 0 where
  pub ghost : Ghost
  pub known : IsKnown keys ghost s
  pub waits : ghost.pend ≡ Some access.address.0
  pub counter : access.counter ≡ ghost.count access.address.0
  pub rises : MayRise keys ghost access.address.0 access.next
  pub line : (lines access.address.0).0 ≡ line_at keys.shape ghost access.address.0

-- so of a request that is an access
abbrev pub IsDueRequest : Keys → (ℕ → Line) → Request → PortState → Type 0
IsDueRequest keys lines (Slot access) s = IsDue keys lines access s
IsDueRequest keys lines (Append message) s = Unit {0}
IsDueRequest keys lines (Answer line value) s = Unit {0}
IsDueRequest keys lines Room s = Unit {0}

-- Each run of a plan over a port is one in which its answers are noted behind others, and the other way round; so is
-- each that is stopped, at some request, from some port.
pub record AreRunsNoted (keys : Keys) (levels : ℕ) {A : Type 0} (plan : FrontPlan A) : Type 0 where
  pub ends : (s t : PortState) (before : Answers) (outcome : FrontState × A)
      → Ends (Steps (SlotStep keys levels)) plan s t outcome
      → (answers : Answers) × Ends (Steps (NotedStep keys levels)) plan (record { port = s; answers = before })
      (record { port = t; answers = answers }) outcome
  pub stops : (s t : PortState) (before : Answers) (stop : Stop) (left : FrontState)
      → Stops (Steps (SlotStep keys levels)) plan s t stop left
      → (answers : Answers) × (mid : PortState) × (last : Request)
      × Stops (Steps (StopsAt keys levels mid last)) plan (record { port = s; answers = before })
      (record { port = t; answers = answers }) stop left
  pub ends_back : (s t : NotedState) (outcome : FrontState × A) → Ends (Steps (NotedStep keys levels)) plan s t outcome
      → Ends (Steps (SlotStep keys levels)) plan s.port t.port outcome
  pub stops_back : (mid : PortState) (last : Request) (s t : NotedState) (stop : Stop) (left : FrontState)
      → Stops (Steps (StopsAt keys levels mid last)) plan s t stop left
      → Stops (Steps (SlotStep keys levels)) plan s.port t.port stop left
