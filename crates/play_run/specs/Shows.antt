-- What a log and the numbers of a run show of a play: all of it, or the play cut by a stop.
use Rattle.std.specs.Prelude.{◌≡◌, ◌⊎◌, ℕ, max, length}
use Rattle.std.specs.List.{count_by}
use Rattle.asc_base.specs.declared.settings.Config.{Config}
use Rattle.asc_base.specs.declared.stop.Stop.{Stop}
use Rattle.asc_base.specs.declared.stop.Stop.TheVariants.{Integrity, StashFull, TimeUp, Device, NoMemory}
use Rattle.bus_schedule.specs.Scheduled.{log_code}
use Rattle.bus_schedule.specs.Shown.{indices_of}
use Rattle.bus_schedule.specs.Timetable.{Public, public_of}
use Rattle.bus_watch.specs.Log.{LogLists}
use Rattle.rate_enforcer.specs.Counts.{is_dummy, is_real}
use Rattle.rate_enforcer.specs.PortStep.{PortState}
use Rattle.run_play.specs.Halt.{unprepared, IsHalted}
use Rattle.run_play.specs.Play as how
use Rattle.run_play.specs.Play.{Play, PlayEnding}
use Rattle.run_play.specs.PlayEvents.{said_of_all, play_events, PlayReport, report_of}
use Rattle.run_play.specs.Slots.{Numbers}

-- a play, or that play cut in one of its slots by a stop that can come there
abbrev pub IsRunOf : ℕ → Play → Play → Type 0
IsRunOf levels whole run = (run ≡ whole) ⊎ IsHalted levels whole run

-- The log says the events of a play, and its ending, its numbers and its end time are these.
pub record Shows (run : Play) (ended : PlayEnding) (left : Numbers) (end : ℕ) (log : LogLists) : Type 0 where
  pub events : said_of_all log.events ≡ play_events run.slots
  pub ending : run.ending ≡ ended
  pub numbers : run.numbers ≡ left
  pub last : run.last ≡ end

-- so of a play or of that play cut by a stop
abbrev pub RunShows : ℕ → Play → PlayEnding → Numbers → ℕ → LogLists → Type 0
RunShows levels whole ending numbers last log =
    (run : Play) × IsRunOf levels whole run × Shows run ending numbers last log

-- The same where a stop ends a run. Where no time is left its end is at the time of the settings or later. Of want of
-- memory nothing is said.
abbrev pub StopShows : ℕ → Config → Play → Numbers → Stop → PortState → Type 0
StopShows levels config whole numbers (Integrity evidence) new =
    RunShows levels whole (how.Integrity evidence) numbers new.clock.last new.tap.log
StopShows levels config whole numbers (StashFull held) new =
    RunShows levels whole (how.StashFull held) numbers new.clock.last new.tap.log
StopShows levels config whole numbers (TimeUp at) new =
    RunShows levels whole (how.TimeUp at) numbers (max config.time new.clock.last) new.tap.log
StopShows levels config whole numbers Device new =
    RunShows levels whole how.Device numbers new.clock.last new.tap.log
StopShows levels config whole numbers NoMemory new = Unit {0}

-- the report of a run with these numbers, whose slots and choices are counted in the log
abbrev pub shown_report : Public → PlayEnding → Numbers → ℕ → LogLists → PlayReport
shown_report p ending numbers last log = record {
  ending = ending;
  instructions = numbers.instructions;
  cycles = numbers.cycles;
  last = last;
  fetches = numbers.fetches;
  real = count_by is_real log.events;
  dummies = count_by is_dummy log.events;
  choices = length (indices_of log.events);
  code = log_code p log;
}

-- What is reported of a run and what its log says are those of a play, or of that play cut by a stop, or of the run
-- whose memory couldn't be prepared: the log's events are its slots', one by one, and the report is its report.
pub record IsPlayed (config : Config) (whole : Play) (report : PlayReport) (log : LogLists) : Type 0 where
  pub run : Play
  pub is : IsRunOf config.shape.levels whole run ⊎ (run ≡ unprepared)
  pub events : said_of_all log.events ≡ play_events run.slots
  pub report_is : report ≡ report_of (public_of config) run

-- So of the whole play.
pub record IsWholePlay (config : Config) (whole : Play) (report : PlayReport) (log : LogLists) : Type 0 where
  pub events : said_of_all log.events ≡ play_events whole.slots
  pub report_is : report ≡ report_of (public_of config) whole

-- an ending that is no stop of the memory's
abbrev pub IsOwn : PlayEnding → Type 0
IsOwn (how.Exited status) = Unit {0}
IsOwn (how.Trapped kind pc) = Unit {0}
IsOwn how.Budget = Unit {0}
IsOwn (how.TimeUp at) = Unit {0}
IsOwn (how.StashFull held) = ⊥
IsOwn (how.Integrity evidence) = ⊥
IsOwn how.Device = ⊥
