-- Where cache and lines with a clock stand in a whole play, unless the log shows a forgery; and what is reported of a
-- run beside its play.
use Rattle.std.specs.Prelude.{◌⊎◌, ◌≤◌, ℕ, List}
use Rattle.asc_base.specs.declared.block.Point.{Point}
use Rattle.asc_base.specs.declared.settings.Config.{Config}
use Rattle.asc_base.specs.declared.stop.Stop.{Stop}
use Rattle.asc_outside.specs.Memory.{MemoryState}
use Rattle.bus_watch.specs.Log.{TapState}
use Rattle.data_cache.specs.Contents.{Contents}
use Rattle.elf_loader.specs.declared.image.Image.{Image}
use Rattle.play_run.specs.Given.{CallsPlay}
use Rattle.play_run.specs.Shows.{RunShows, StopShows}
use Rattle.play_run.specs.Stands.{numbers_of, StandsInImage, StandsInRun, EndsIn, InstructionLeaves}
use Rattle.run_play.specs.Play as how
use Rattle.run_play.specs.Play.{Play, PlayEnding, play_of}
use Rattle.run_play.specs.PlayEvents.{PlayReport}
use Rattle.rv32_core.specs.Machine.{Machine}
use Rattle.rv32_core.specs.declared.outcome.Ended.{Ended}
use Rattle.secure_machine.specs.Refines.{IsForged}
use Rattle.secure_machine.specs.Run.{start_of}
use Rattle.secure_machine.specs.Same.{timed_of, keys_in}
use Rattle.secure_machine.specs.declared.lines.TimedLines.{TimedLines}
use Rattle.secure_machine.specs.declared.machine.Cause.{Cause}
use Rattle.secure_machine.specs.declared.machine.Cause.TheVariants.{Ends, Stops}
use Rattle.secure_machine.specs.declared.machine.Halted.{Halted}
use Rattle.secure_machine.specs.declared.report.Ending.{Ending}
use Rattle.secure_machine.specs.declared.report.Ending.TheVariants.{Exit, Trap, Budget, TimeUp, StashFull, Integrity}
use Rattle.secure_machine.specs.declared.report.Ending.TheVariants.{Device}
use Rattle.secure_machine.specs.declared.report.Report.{Report}

-- an ending, as a play's
abbrev pub play_ending : Ending → PlayEnding
play_ending (Exit status) = how.Exited status
play_ending (Trap kind pc) = how.Trapped kind pc
play_ending Budget = how.Budget
play_ending (TimeUp at) = how.TimeUp at
play_ending (StashFull held) = how.StashFull held
play_ending (Integrity evidence) = how.Integrity evidence
play_ending Device = how.Device

-- a report without its output, as a play's
abbrev pub play_report : Report → PlayReport
play_report report = record {
  ending = play_ending report.ending;
  instructions = report.instructions;
  cycles = report.cycles;
  last = report.last;
  fetches = report.fetches;
  real = report.real;
  dummies = report.dummies;
  choices = report.choices;
  code = report.code;
}

-- the Play of an image with an input
abbrev pub play_with : Config → Image → List ℕ → Play
play_with config image input =
    play_of config image.bytes.items image.marked.items (start_of config image input)

module _ {M W L : Type 0} (memory_of : M → MemoryState) (tap_of : W → TapState) (leaf_of : L → Point → ℕ)
    (levels_of : L → ℕ) (config : Config) where
  -- each call of an encrypted memory with these keys takes the slots of a play
  abbrev pub CallsInPlay : TimedLines M W L → Type 0
  CallsInPlay s = CallsPlay (keys_in leaf_of s) (levels_of s.oram.now.port.leaves) config

  module _ (whole : Play) where
    -- before these image lines, at a clock up to a limit, unless the log shows a forgery
    abbrev pub InImage : ℕ → List ℕ → Machine → List ℕ → Contents → TimedLines M W L → Type 0
    InImage limit memory machine marked cache s = IsForged memory_of tap_of leaf_of levels_of s
        ⊎ (StandsInImage (keys_in leaf_of s) (levels_of s.oram.now.port.leaves) config whole memory machine marked cache
        (timed_of memory_of tap_of s)
        × (s.clock ≤ limit))

    -- after so many instructions, where so many are left
    abbrev pub InRun : (before left : ℕ) → Machine → Contents → TimedLines M W L → Type 0
    InRun before left machine cache s = IsForged memory_of tap_of leaf_of levels_of s
        ⊎ StandsInRun (keys_in leaf_of s) (levels_of s.oram.now.port.leaves) config whole before left machine cache
        (timed_of memory_of tap_of s)

    -- behind an instruction that began at a clock
    abbrev pub LeavesInPlay : (before left clock : ℕ) → Machine → Contents → Ended → TimedLines M W L → Type 0
    LeavesInPlay before left clock machine cache ended s = IsForged memory_of tap_of leaf_of levels_of s
        ⊎ InstructionLeaves (keys_in leaf_of s) (levels_of s.oram.now.port.leaves) config whole before left clock
        machine cache (timed_of memory_of tap_of s) ended

    -- where a line was stopped
    abbrev pub StoppedInPlay : (instructions cycles : ℕ) → Stop → TimedLines M W L → Type 0
    StoppedInPlay instructions cycles stop s = IsForged memory_of tap_of leaf_of levels_of s
        ⊎ StopShows (levels_of s.oram.now.port.leaves) config whole (numbers_of instructions cycles s.fetches) stop
        (timed_of memory_of tap_of s).oram.port

    -- where no more instructions come, by itself or by a stop
    abbrev pub CauseInPlay : (instructions cycles : ℕ) → Cause → TimedLines M W L → Type 0
    CauseInPlay instructions cycles (Ends ending until) s = IsForged memory_of tap_of leaf_of levels_of s
        ⊎ EndsIn (keys_in leaf_of s) (levels_of s.oram.now.port.leaves) config whole (play_ending ending)
        (numbers_of instructions cycles s.fetches) until (timed_of memory_of tap_of s).oram
    CauseInPlay instructions cycles (Stops stop) s = StoppedInPlay instructions cycles stop s

    abbrev pub HaltsInPlay : Halted → TimedLines M W L → Type 0
    HaltsInPlay halted s = CauseInPlay halted.instructions halted.cycles halted.cause s

    -- where a run came to its end: its log and its numbers are the play's, or those of the play cut by a stop
    abbrev pub EndedInPlay : (instructions cycles : ℕ) → Ending → ℕ → TimedLines M W L → Type 0
    EndedInPlay instructions cycles ending last s = IsForged memory_of tap_of leaf_of levels_of s
        ⊎ RunShows (levels_of s.oram.now.port.leaves) whole (play_ending ending)
        (numbers_of instructions cycles s.fetches) last (timed_of memory_of tap_of s).oram.port.tap.log
