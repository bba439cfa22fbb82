-- How a run comes to its end, and what it leaves then.
use Rattle.std.specs.Prelude.{◌≡◌, ◌+◌, ◌<◌, ◌≤◌, ◌⊎◌, ℕ, List, min}
use Rattle.asc_base.specs.TreeShape.{olat_of}
use Rattle.asc_base.specs.declared.settings.Config.{Config}
use Rattle.asc_base.specs.declared.stop.Stop.{Stop}
use Rattle.asc_base.specs.declared.stop.Stop.TheVariants as why
use Rattle.asc_outside.specs.Memory.{MemoryState}
use Rattle.bus_watch.specs.Log.{LogLists}
use Rattle.bus_watch.specs.RunEnd.{RunEnd, Whole, MoveFailed, RanOut}
use Rattle.bus_watch.specs.Tied.{Tied, TiedAt}
use Rattle.epoch_learner.specs.Stands.{KeepsPace}
use Rattle.oram_frontend.specs.Oram.{OramState}
use Rattle.rate_enforcer.specs.PortStep.{PortState, KeepsCount}
use Rattle.secure_machine.specs.Goes.{Goes, Breaks, Unaltered, Asks, MayTellOn, SameCount, IsNextStart}
use Rattle.play_run.specs.Timed.{Serving}
use Rattle.secure_machine.specs.declared.machine.Cause.{Cause}
use Rattle.secure_machine.specs.declared.machine.Cause.TheVariants.{Ends, Stops}
use Rattle.secure_machine.specs.declared.machine.Halted.{Halted}
use Rattle.secure_machine.specs.declared.report.Ending.{Ending}
use Rattle.secure_machine.specs.declared.report.Ending.TheVariants.{Exit, Trap, Budget, TimeUp, StashFull, Integrity}
use Rattle.secure_machine.specs.declared.report.Ending.TheVariants.{Device}

-- An ending that comes by itself, after so many instructions and cycles, and up to when slots are still to be done: to
-- the smaller of the clock and the time of the settings, and to that time when time is up. An exit is an instruction
-- within the budget. At a trap some of the budget is left, and so it is when time is up, which is at the clock that has
-- reached the time of the settings. At the budget all of it is used.
abbrev pub IsOwnEnding : (budget time instructions cycles until : ℕ) → Ending → Type 0
IsOwnEnding budget time instructions cycles until (Exit status) =
    (0 < instructions) × (instructions ≤ budget) × (until ≡ min cycles time)
IsOwnEnding budget time instructions cycles until (Trap kind pc) = (instructions < budget) × (until ≡ min cycles time)
IsOwnEnding budget time instructions cycles until Budget = (instructions ≡ budget) × (until ≡ min cycles time)
IsOwnEnding budget time instructions cycles until (TimeUp at) =
    (instructions < budget) × (time ≤ at) × (until ≡ time) × (at ≡ cycles)
IsOwnEnding budget time instructions cycles until (StashFull held) = ⊥
IsOwnEnding budget time instructions cycles until (Integrity evidence) = ⊥
IsOwnEnding budget time instructions cycles until Device = ⊥

-- An ending by the settings, of whatever kind, with the end of the schedule: it isn't before the smaller of the clock
-- and the time of the settings, nor before that time when time is up. No more instructions are finished than the budget
-- allows: an exit is one of them, at a trap some are left, and at the budget none.
abbrev pub IsRightEnding : (budget time instructions cycles last : ℕ) → Ending → Type 0
IsRightEnding budget time instructions cycles last (Exit status) =
    (0 < instructions) × (instructions ≤ budget) × (min cycles time ≤ last)
IsRightEnding budget time instructions cycles last (Trap kind pc) = (instructions < budget) × (min cycles time ≤ last)
IsRightEnding budget time instructions cycles last Budget = (instructions ≡ budget) × (min cycles time ≤ last)
IsRightEnding budget time instructions cycles last (TimeUp at) =
    (instructions ≤ budget) × (time ≤ at) × (time ≤ last)
IsRightEnding budget time instructions cycles last (StashFull held) = instructions ≤ budget
IsRightEnding budget time instructions cycles last (Integrity evidence) = instructions ≤ budget
IsRightEnding budget time instructions cycles last Device = instructions ≤ budget

-- When time is up: at the clock, where it has reached the time of the settings before an instruction that the budget
-- still has room for; or at the start of the first slot that wasn't done.
abbrev pub IsTimeUp : Config → (budget instructions cycles : ℕ) → LogLists → (at : ℕ) → Type 0
IsTimeUp config budget instructions cycles log at =
    ((at ≡ cycles) × (config.time ≤ cycles) × (instructions < budget)) ⊎ IsNextStart config at log

-- No more instructions come: the run ends by itself, and the slots up to a time are still to be done; or a line was
-- stopped, within the budget.
abbrev pub HaltsBy : (budget levels instructions cycles : ℕ) → Cause → PortState → OramState → Type 0
HaltsBy budget levels instructions cycles (Ends ending until) old new =
    Goes old new.port × Serving levels new × (until ≤ new.port.clock.config.time)
    × IsOwnEnding budget old.clock.config.time instructions cycles until ending
HaltsBy budget levels instructions cycles (Stops s) old new = Breaks s old new.port × (instructions ≤ budget)

abbrev pub Halts : (budget levels : ℕ) → Halted → PortState → OramState → Type 0
Halts budget levels halted old new = HaltsBy budget levels halted.instructions halted.cycles halted.cause old new

-- Where no time was left for a slot, and an instruction is finished, that slot starts after the clock.
abbrev pub StopsLater : (instructions cycles : ℕ) → Stop → Type 0
StopsLater instructions cycles stop = (at : ℕ) → stop ≡ why.TimeUp at → 0 < instructions → cycles < at

-- so where a line was stopped
abbrev pub HaltsLater : (instructions cycles : ℕ) → Cause → Type 0
HaltsLater instructions cycles (Ends ending until) = Unit {0}
HaltsLater instructions cycles (Stops stop) = StopsLater instructions cycles stop

-- How a reported run's moves ended: the last one failed where the memory did, and none else.
abbrev pub moves_end : Ending → RunEnd
moves_end (Exit status) = Whole
moves_end (Trap kind pc) = Whole
moves_end Budget = Whole
moves_end (TimeUp at) = Whole
moves_end (StashFull held) = Whole
moves_end (Integrity evidence) = Whole
moves_end Device = MoveFailed

-- What a run leaves that is reported: all is counted and tied, the log keeps the pace up to its end, which comes less
-- than a slot's cycles after the time of the settings, its ending is right, time is up when it is said to be, and a
-- failure of the memory has its cause.
pub record Settled (budget instructions cycles : ℕ) (ending : Ending) (last : ℕ) (old new : PortState) : Type 0 where
  pub config : new.clock.config ≡ old.clock.config
  pub counts : KeepsCount old new
  pub tied : (start : MemoryState) (buckets : List (List ℕ)) → Tied start buckets old.memory old.tap
      → TiedAt (moves_end ending) start buckets new.memory new.tap
  pub later : old.memory.faults ≤ new.memory.faults
  pub cause : ending ≡ Device → old.memory.faults < new.memory.faults
  pub pace : KeepsPace old.clock.config last new.tap.log
  pub in_time : last < old.clock.config.time + olat_of old.clock.config.shape.levels
  pub right : IsRightEnding budget old.clock.config.time instructions cycles last ending
  pub time_up : (at : ℕ) → ending ≡ TimeUp at
      → IsTimeUp old.clock.config budget instructions cycles new.tap.log at
  pub unaltered : Unaltered old new
  pub told : MayTellOn old new
  pub prepared : SameCount old new
  pub asked : Asks old new

-- What want of memory leaves: up to some time the log keeps the pace, all is counted, and all is tied, but what the
-- last move left.
pub record Short (old new : PortState) : Type 0 where
  pub config : new.clock.config ≡ old.clock.config
  pub counts : KeepsCount old new
  pub tied : (start : MemoryState) (buckets : List (List ℕ)) → Tied start buckets old.memory old.tap
      → TiedAt RanOut start buckets new.memory new.tap
  pub later : old.memory.faults ≤ new.memory.faults
  pub end : ℕ
  pub pace : KeepsPace old.clock.config end new.tap.log
  pub unaltered : Unaltered old new
  pub prepared : SameCount old new
  pub asked : Asks old new
