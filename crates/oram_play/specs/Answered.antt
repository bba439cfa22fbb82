-- What an answered request for a line comes to: the slots that it takes, and its answers as they can be noted.
use Rattle.std.specs.Prelude.{◌≡◌, ◌<◌, ℕ, List, []}
use Rattle.request_plan.specs.Plan.{Ends}
use Rattle.asc_base.specs.declared.block.Line.{Line}
use Rattle.oram_contents.specs.Entries.{Keys}
use Rattle.oram_frontend.specs.Oram.{OramState}
use Rattle.oram_lines.specs.Noted.{Answers, NotedStep, AreAnswersIn, lines_behind}
use Rattle.oram_walk.specs.Front.{sizes_of}
use Rattle.oram_walk.specs.Plans.{FrontPlan}
use Rattle.oram_walk.specs.Request.{Steps}
use Rattle.oram_walk.specs.Shows.{Shows}
use Rattle.oram_walk.specs.declared.slots.Purpose.{Purpose}
use Rattle.posmap_lookaside.specs.Walk.{OnChip, walk}
use Rattle.run_play.specs.Slots.{Pace, Numbers, Slot}
use Rattle.oram_play.specs.InTurn.{TakesInTurn}
use Rattle.oram_play.specs.Shown.{AreLinesIn, ShowsWalk}

-- A request for a line was asked for at a time and answered along its plan, up to an end, behind these slots.
pub record IsAnswered {A : Type 0} (keys : Keys) (levels : ℕ) (numbers : Numbers) (asked end line : ℕ) (put : Purpose)
    (plan : FrontPlan A) (outcome : A) (slots : List Slot) (pace : Pace) (old new : OramState) : Type 0 where
  -- it took slots access by access, which show the walk
  pub takes : TakesInTurn old.port.clock.config numbers asked end slots pace new.port
  pub walks : ShowsWalk old.front line put takes.accesses
  pub config : new.port.clock.config ≡ old.port.clock.config
  -- the run of its plan, with each answer noted
  pub answers : Answers
  pub run : Ends (Steps (NotedStep keys levels)) plan (record { port = old.port; answers = [] })
      (record { port = new.port; answers = answers }) (new.front, outcome)
  -- where these are the lines of a memory, so are those of the accesses, and the front end and the memory show
  -- afterwards what is on chip after the walk
  pub found : (lines : ℕ → Line) → AreAnswersIn lines answers → AreLinesIn lines takes.accesses
  pub shows : (lines : ℕ → Line) (chip : OnChip) → line < old.front.shape.lines → Shows old.front lines chip
      → AreAnswersIn lines answers
      → Shows new.front (lines_behind lines answers) (walk (sizes_of old.front) chip line).chip
