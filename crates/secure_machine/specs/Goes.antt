-- What requests leave of a port, however many there were: answered ones, and one that is stopped.
use Rattle.std.specs.Prelude.{◌≡◌, ◌≢◌, ◌+◌, ◌<◌, ◌≤◌, ℕ, List, length}
use Rattle.asc_base.specs.TreeShape.{olat_of}
use Rattle.asc_base.specs.declared.settings.Config.{Config}
use Rattle.asc_base.specs.declared.stop.Stop.{Stop}
use Rattle.asc_base.specs.declared.stop.Stop.TheVariants.{Integrity, StashFull, TimeUp, Device, NoMemory}
use Rattle.asc_outside.specs.Memory.{MemoryState}
use Rattle.bus_schedule.specs.Scheduled.{log_code}
use Rattle.bus_schedule.specs.Shown.{starts_of}
use Rattle.bus_schedule.specs.Timetable.{public_of, timetable, first_from}
use Rattle.bus_watch.specs.Honest.{TellsMirror, MayTellMirror}
use Rattle.bus_watch.specs.Log.{TapState, LogLists}
use Rattle.bus_watch.specs.RunEnd.{RunEnd}
use Rattle.bus_watch.specs.Tied.{Tied, TiedAt}
use Rattle.epoch_learner.specs.Stands.{KeepsPace}
use Rattle.rate_enforcer.specs.PortStep.{PortState, KeepsCount}
use Rattle.rate_enforcer.specs.Stops.{IsEndOf}

-- As many moves were asked of the memory as the log has more.
abbrev pub AsksMoves : (memory memory' : MemoryState) (tap tap' : TapState) → Type 0
AsksMoves memory memory' tap tap' =
    memory'.moved + length tap.log.moves ≡ memory.moved + length tap'.log.moves

abbrev pub Asks : PortState → PortState → Type 0
Asks old new = AsksMoves old.memory new.memory old.tap new.tap

-- No reply was altered, where the memory tells its buckets and they are the mirror's; and it goes on telling them so.
abbrev pub Unaltered : PortState → PortState → Type 0
Unaltered old new = TellsMirror old.memory old.tap → new.tap.log.altered ≡ old.tap.log.altered

abbrev pub TellsOn : PortState → PortState → Type 0
TellsOn old new = TellsMirror old.memory old.tap → TellsMirror new.memory new.tap

-- Where the memory tells its buckets they are still the mirror's.
abbrev pub MayTellOn : PortState → PortState → Type 0
MayTellOn old new = MayTellMirror old.memory old.tap → MayTellMirror new.memory new.tap

-- As many buckets are prepared.
abbrev pub SameCount : PortState → PortState → Type 0
SameCount old new = new.memory.count ≡ old.memory.count

-- The configuration is the same, what was counted is counted, what was tied is tied, and faults and slots were only
-- added to.
pub record Goes (old new : PortState) : Type 0 where
  pub config : new.clock.config ≡ old.clock.config
  pub counts : KeepsCount old new
  pub tied : (start : MemoryState) (buckets : List (List ℕ)) → Tied start buckets old.memory old.tap
      → Tied start buckets new.memory new.tap
  pub later : old.memory.faults ≤ new.memory.faults
  pub real : old.clock.real ≤ new.clock.real
  pub unaltered : Unaltered old new
  pub tells : TellsOn old new
  pub told : MayTellOn old new
  pub prepared : SameCount old new
  pub asked : Asks old new

-- A time is the start of the first slot that wasn't done, since it isn't before the time of the settings: in the
-- timetable of the log's own code it is the first start from that time on, and all slots that start before it were
-- done.
pub record IsNextStart (config : Config) (at : ℕ) (log : LogLists) : Type 0 where
  pub late : config.time ≤ at
  pub first : at ≡ first_from (public_of config) (log_code (public_of config) log) config.time
  pub done : starts_of log.events ≡ timetable (public_of config) (log_code (public_of config) log) at

-- Up to when the log keeps the pace after a stop. Where no slot is left, it does up to each time from the last end to
-- the start of the slot that wasn't done, which isn't before the time of the settings.
abbrev pub PaceAt : Config → Stop → PortState → Type 0
PaceAt config (Integrity evidence) new = KeepsPace config new.clock.last new.tap.log
PaceAt config (StashFull held) new = KeepsPace config new.clock.last new.tap.log
PaceAt config (TimeUp at) new = (config.time ≤ at) × (new.clock.last ≤ at)
    × ((end : ℕ) → new.clock.last ≤ end → end ≤ at → KeepsPace config end new.tap.log)
    × IsNextStart config at new.tap.log
PaceAt config Device new = KeepsPace config new.clock.last new.tap.log
PaceAt config NoMemory new = KeepsPace config new.clock.last new.tap.log

-- how memory and tap are tied after a stop
abbrev pub TiedAfter : Stop → MemoryState → List (List ℕ) → PortState → Type 0
TiedAfter stop start buckets new = (end : RunEnd) × IsEndOf stop end × TiedAt end start buckets new.memory new.tap

-- The same where the last of them is stopped. The end that it leaves comes less than a slot's cycles after the time of
-- the settings. Buckets that the memory tells are still the mirror's, but where memory ran out.
pub record Breaks (stop : Stop) (old new : PortState) : Type 0 where
  pub config : new.clock.config ≡ old.clock.config
  pub counts : KeepsCount old new
  pub tied : (start : MemoryState) (buckets : List (List ℕ)) → Tied start buckets old.memory old.tap
      → TiedAfter stop start buckets new
  pub later : old.memory.faults ≤ new.memory.faults
  pub cause : stop ≡ Device → old.memory.faults < new.memory.faults
  pub pace : PaceAt old.clock.config stop new
  pub in_time : new.clock.last < old.clock.config.time + olat_of old.clock.config.shape.levels
  pub unaltered : Unaltered old new
  pub told : stop ≢ NoMemory → MayTellOn old new
  pub prepared : SameCount old new
  pub asked : Asks old new
