-- When an encrypted memory stands where a play stands between two requests; and what a stop leaves.
use Rattle.std.specs.Prelude.{◌≡◌, ◌<◌, ℕ, List, [], ◌∷◌, ◌++◌, Option, None, Some}
use Rattle.asc_base.specs.declared.block.Line.{Line}
use Rattle.asc_base.specs.declared.settings.Config.{Config}
use Rattle.asc_base.specs.declared.stop.Stop.{Stop}
use Rattle.asc_base.specs.declared.stop.Stop.TheVariants.{Integrity, StashFull, TimeUp, Device, NoMemory}
use Rattle.data_cache.specs.Lines.{LineRequest, Fetch, Store}
use Rattle.oram_contents.specs.Counts.{Ghost}
use Rattle.oram_contents.specs.Entries.{Keys}
use Rattle.oram_frontend.specs.Oram.{OramState, OramRequest, Fetch as OramFetch, Store as OramStore}
use Rattle.oram_lines.specs.Noted.{IsMemoryOf}
use Rattle.oram_lines.specs.Standing.{StandsFor, IsCalm}
use Rattle.oram_walk.specs.Front.{sizes_of}
use Rattle.oram_walk.specs.Shows.{Shows}
use Rattle.rate_enforcer.specs.Counts.{IsCounted}
use Rattle.rate_enforcer.specs.PortStep.{PortState}
use Rattle.run_play.specs.Halt as cut
use Rattle.run_play.specs.Halt.{Fits, part_of, end_of, ending_of}
use Rattle.run_play.specs.Play as how
use Rattle.run_play.specs.PlayEvents.{said_of_all, play_events}
use Rattle.run_play.specs.Requests.{Standing, Taken, data_line, walk_sizes}
use Rattle.run_play.specs.Slots.{Slot}
use Rattle.oram_play.specs.Taken.{HasTaken}

-- An encrypted memory took these slots of a play and stands, between two requests, where the play stands: it holds the
-- lines that were stored, its chip and the lines outside show the play's chip, and no slot came too late.
pub record PlaysAs (keys : Keys) (levels : ℕ) (config : Config) (slots : List Slot) (now : Standing) (o : OramState)
    : Type 0 where
  pub config_is : o.port.clock.config ≡ config
  pub sizes : sizes_of o.front ≡ walk_sizes config
  pub ghost : Ghost
  pub stands : StandsFor keys levels 0 o.front ghost o.port
  pub calm : IsCalm ghost
  pub counted : IsCounted o.port.clock o.port.tap.log
  pub stored : (line : ℕ) → line < keys.shape.lines → ghost.data_lines line ≡ data_line now.data_lines line
  pub lines : ℕ → Line
  pub outside : IsMemoryOf keys ghost lines
  pub shows : Shows o.front lines now.chip
  pub taken : HasTaken o.port slots now.pace
  pub in_time : now.late ≡ None

-- a request for a line as a call at a time
abbrev pub called : ℕ → LineRequest → OramRequest
called asked (Fetch line) = OramFetch asked line
called asked (Store line value) = OramStore asked line (record { 0 = value })

-- what is told of an answered request: a fetch's line as last stored
abbrev pub IsTold : Standing → LineRequest → Option Line → Type 0
IsTold now (Fetch line) told = told ≡ Some (record { 0 = data_line now.data_lines line })
IsTold now (Store line value) told = told ≡ None

-- Of slots that were to be taken, behind others, one was stopped by a stop that can come in it: the log says the slots
-- before it and the part of it that was done, and the port's last end is that of the stop.
pub record IsCut (levels : ℕ) (slots taken : List Slot) (stop : cut.Stop) (new : PortState) : Type 0 where
  pub before : List Slot
  pub slot : Slot
  pub later : List Slot
  pub are : taken ≡ before ++ slot ∷ later
  pub fits : Fits levels stop slot
  pub said : said_of_all new.tap.log.events ≡ play_events (slots ++ before ++ part_of levels stop slot ∷ [])
  pub last : new.clock.last ≡ end_of levels slot.start stop

-- What a stop leaves of what a play was to take: all its slots, behind which one came too late; or a slot was stopped,
-- and the run's ending is the stop's. Of want of memory nothing is said.
abbrev pub LeavesOf : ℕ → List Slot → Taken → Stop → PortState → Type 0
LeavesOf levels slots taken (Integrity evidence) new =
    (stop : cut.Stop) × (ending_of stop ≡ how.Integrity evidence) × IsCut levels slots taken.slots stop new
LeavesOf levels slots taken (StashFull held) new =
    (stop : cut.Stop) × (ending_of stop ≡ how.StashFull held) × IsCut levels slots taken.slots stop new
LeavesOf levels slots taken (TimeUp at) new =
    (taken.standing.late ≡ Some at) × HasTaken new (slots ++ taken.slots) taken.standing.pace
    × (new.clock.last ≡ taken.standing.pace.heard.ended)
LeavesOf levels slots taken Device new =
    (stop : cut.Stop) × (ending_of stop ≡ how.Device) × IsCut levels slots taken.slots stop new
LeavesOf levels slots taken NoMemory new = Unit {0}
