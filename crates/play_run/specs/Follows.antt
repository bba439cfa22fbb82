-- When the lines of an encrypted memory with a clock stand where a play stands between two requests, and what a stop
-- leaves of all slots of a play.
use Rattle.std.specs.Prelude.{◌≡◌, ℕ, List, [], ◌∷◌, ◌++◌, Some}
use Rattle.asc_base.specs.declared.settings.Config.{Config}
use Rattle.asc_base.specs.declared.stop.Stop.{Stop}
use Rattle.asc_base.specs.declared.stop.Stop.TheVariants.{Integrity, StashFull, TimeUp, Device, NoMemory}
use Rattle.oram_contents.specs.Entries.{Keys}
use Rattle.oram_play.specs.Playing.{PlaysAs}
use Rattle.oram_play.specs.Taken.{HasTaken}
use Rattle.play_run.specs.Timed.{TimedState}
use Rattle.rate_enforcer.specs.PortStep.{PortState}
use Rattle.run_play.specs.Halt as cut
use Rattle.run_play.specs.Halt.{Fits, part_of, end_of, ending_of}
use Rattle.run_play.specs.Play as how
use Rattle.run_play.specs.PlayEvents.{said_of_all, play_events}
use Rattle.run_play.specs.Requests.{Standing}
use Rattle.run_play.specs.Slots.{Slot, Numbers}

-- The encrypted memory took these slots and stands where the play stands, at its clock, and as many fetches were
-- answered.
pub record Follows (keys : Keys) (levels : ℕ) (config : Config) (slots : List Slot) (now : Standing) (s : TimedState)
    : Type 0 where
  pub plays : PlaysAs keys levels config slots now s.oram
  pub clock : s.clock ≡ now.clock
  pub fetches : s.fetches ≡ now.numbers.fetches

-- these numbers with so many fetches
abbrev pub with_fetches : Numbers → ℕ → Numbers
with_fetches numbers count = record numbers { fetches = count }

-- One of these slots was stopped by a stop that can come in it: the log says the slots before it and the part of it
-- that was done, the port's last end is that of the stop, and the slot leaves these numbers.
pub record IsCutIn (levels : ℕ) (all : List Slot) (stop : cut.Stop) (numbers : Numbers) (new : PortState)
    : Type 0 where
  pub before : List Slot
  pub slot : Slot
  pub later : List Slot
  pub are : all ≡ before ++ slot ∷ later
  pub fits : Fits levels stop slot
  pub said : said_of_all new.tap.log.events ≡ play_events (before ++ part_of levels stop slot ∷ [])
  pub last : new.clock.last ≡ end_of levels slot.start stop
  pub left : slot.left ≡ numbers

-- a stop in one of these slots, after which the run ends so
abbrev pub CutsWith : ℕ → List Slot → how.PlayEnding → Numbers → PortState → Type 0
CutsWith levels all ending numbers new =
    (stop : cut.Stop) × (ending_of stop ≡ ending) × IsCutIn levels all stop numbers new

-- What a stop leaves of all slots of a play, after which it stands so: one of them was stopped; or one came too late
-- behind them all. Of want of memory nothing is said.
abbrev pub StopLeaves : ℕ → List Slot → Standing → Numbers → Stop → PortState → Type 0
StopLeaves levels all after numbers (Integrity evidence) new =
    CutsWith levels all (how.Integrity evidence) numbers new
StopLeaves levels all after numbers (StashFull held) new = CutsWith levels all (how.StashFull held) numbers new
StopLeaves levels all after numbers (TimeUp at) new =
    (after.late ≡ Some at) × (after.numbers ≡ numbers) × HasTaken new all after.pace
    × (new.clock.last ≡ after.pace.heard.ended)
StopLeaves levels all after numbers Device new = CutsWith levels all how.Device numbers new
StopLeaves levels all after numbers NoMemory new = Unit {0}
