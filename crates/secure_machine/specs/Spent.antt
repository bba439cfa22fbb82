-- What the cycles of a run were spent on, whatever the memory replied: its clock is the costs of its image lines and of
-- its finished instructions, and what it waited for its slots.
use Rattle.std.specs.Prelude.{◌≡◌, ◌+◌, ◌<◌, ◌≤◌, ℕ, List, length}
use Rattle.asc_base.specs.Settings.{greatest_rate}
use Rattle.asc_base.specs.TreeShape.{olat_of}
use Rattle.asc_base.specs.declared.settings.Config.{Config}
use Rattle.asc_base.specs.declared.stop.Stop.{Stop}
use Rattle.asc_outside.specs.Memory.{MemoryState}
use Rattle.bus_watch.specs.Log.{TapState, LogLists}
use Rattle.data_cache.specs.CacheLists.{Lines}
use Rattle.elf_loader.specs.declared.image.Image.{Image}
use Rattle.fed_run.specs.Answered.{feed_of}
use Rattle.fed_run.specs.Fed.{NotedLine}
use Rattle.fed_run.specs.Whole.{feed_at_start}
use Rattle.play_run.specs.Spent.{waits, fed_cost, IsSpent, SpentAtStop}
use Rattle.rv32_core.specs.Machine.{Machine}
use Rattle.secure_machine.specs.Answered.{answered_lines}
use Rattle.secure_machine.specs.Fed.{NotesMore}
use Rattle.secure_machine.specs.Finish.{StopsLater}
use Rattle.secure_machine.specs.Run.{start_of}
use Rattle.secure_machine.specs.Same.{timed_of}
use Rattle.secure_machine.specs.declared.lines.TimedLines.{TimedLines}
use Rattle.secure_machine.specs.declared.machine.Cause.{Cause}
use Rattle.secure_machine.specs.declared.machine.Cause.TheVariants.{Ends, Stops}
use Rattle.secure_machine.specs.declared.machine.Halted.{Halted}
use Rattle.secure_machine.specs.declared.report.Ending.{Ending}
use Rattle.secure_machine.specs.declared.report.Ending.TheVariants.{Exit, Trap, Budget, TimeUp, StashFull, Integrity}
use Rattle.secure_machine.specs.declared.report.Ending.TheVariants.{Device}
use Rattle.secure_machine.specs.declared.report.Report.{Report}

-- ---- an end
-- At such an end nothing is begun that isn't finished: at an exit, at the budget, and where time is up at the clock and
-- an instruction is finished, so that all image lines are written.
abbrev pub EndsAtClock : (instructions cycles : ℕ) → Ending → Type 0
EndsAtClock instructions cycles (Exit status) = Unit {0}
EndsAtClock instructions cycles (Trap kind pc) = ⊥
EndsAtClock instructions cycles Budget = Unit {0}
EndsAtClock instructions cycles (TimeUp at) = (0 < instructions) × (at ≡ cycles)
EndsAtClock instructions cycles (StashFull held) = ⊥
EndsAtClock instructions cycles (Integrity evidence) = ⊥
EndsAtClock instructions cycles Device = ⊥

-- A run ended so, after so many instructions and at this clock, and so many cycles were spent. The clock is never
-- further than that, and where nothing was begun that isn't finished it is just that. Where time is up, that is less
-- than a slot's cycles and the greatest rate after it.
pub record EndsSpent (config : Config) (levels spent instructions clock : ℕ) (ending : Ending) : Type 0 where
  pub cycles : clock ≤ spent
  pub whole : EndsAtClock instructions clock ending → clock ≡ spent
  pub time : (at : ℕ) → ending ≡ TimeUp at
      → at < spent + olat_of levels + greatest_rate config.rates.list config.rates.count

-- ---- lines with a clock
module _ {M W L : Type 0} (memory_of : M → MemoryState) (tap_of : W → TapState) (levels_of : L → ℕ) (config : Config)
    (levels : ℕ) where
  -- They are of this configuration and of a tree with so many levels, and their clock is these costs and what was
  -- waited.
  pub record ClockSpent (costs : ℕ) (s : TimedLines M W L) : Type 0 where
    pub config_is : s.oram.now.port.clock.config ≡ config
    pub levels_are : levels_of s.oram.now.port.leaves ≡ levels
    pub spent : IsSpent levels costs (timed_of memory_of tap_of s)

  -- what was spent with these costs
  abbrev pub spent_with : ℕ → TimedLines M W L → ℕ
  spent_with costs s = costs + waits levels (tap_of s.tap.now).log

  -- A line was stopped after these costs, and the clock before it is this one.
  abbrev pub StopSpent : (costs cycles : ℕ) → Stop → TimedLines M W L → Type 0
  StopSpent costs cycles stop s =
      SpentAtStop config levels costs cycles stop (timed_of memory_of tap_of s).oram.port

  -- no more instructions come, by itself or by a stop
  abbrev pub CauseSpent : (costs instructions cycles : ℕ) → Cause → TimedLines M W L → Type 0
  CauseSpent costs instructions cycles (Ends ending until) s =
      EndsSpent config levels (spent_with costs s) instructions cycles ending
  CauseSpent costs instructions cycles (Stops stop) s = StopSpent costs cycles stop s
      × StopsLater instructions cycles stop

  -- After so many instructions and these costs a run came to its end in some more; their costs are those of the machine
  -- that is fed with just the lines that were answered for these.
  abbrev pub HaltsSpent : (costs ways before : ℕ) → Machine → Lines → (s t : TimedLines M W L) → Halted → Type 0
  HaltsSpent costs ways before machine lists s t halted =
      (lines : List NotedLine) × (more : ℕ) × NotesMore tap_of s lines t × (halted.instructions ≡ before + more)
      × CauseSpent (costs + fed_cost ways more machine (feed_of lists lines)) halted.instructions halted.cycles
      halted.cause t

-- ---- a report
-- What the cycles of a run were spent on: its image lines, one cycle each, the instructions that finished, and the
-- slots that it waited for.
abbrev pub cycles_spent : Config → Image → List ℕ → (instructions : ℕ) → LogLists → ℕ
cycles_spent config image input instructions log =
    length image.marked.items
    + fed_cost config.ways instructions (start_of config image input)
    (feed_at_start config.ways config.sets image.bytes.items image.marked.items (answered_lines log.events))
    + waits config.shape.levels log

-- A report's clock is never further than what its run's cycles were spent on, by this log and with the reported number
-- of instructions. Where nothing was begun that isn't finished it is just that. And where time is up, that is less than
-- a slot's cycles and the greatest rate after it.
pub record IsSpentOn (config : Config) (image : Image) (input : List ℕ) (report : Report) (log : LogLists) : Type 0
  where
    pub cycles : report.cycles ≤ cycles_spent config image input report.instructions log
    pub whole : EndsAtClock report.instructions report.cycles report.ending
        → report.cycles ≡ cycles_spent config image input report.instructions log
    pub time : (at : ℕ) → report.ending ≡ TimeUp at
        → at < cycles_spent config image input report.instructions log + olat_of config.shape.levels
        + greatest_rate config.rates.list config.rates.count
