-- What cache and lines with a clock stand for, unless the log shows a forgery; that stops by evidence come only after
-- an altered reply; and that no leaf is drawn twice for one point where a line was stopped.
use Rattle.std.specs.Prelude.{◌≡◌, ◌⊎◌, ℕ, List, []}
use Rattle.asc_base.specs.declared.block.Point.{Point}
use Rattle.asc_base.specs.declared.stop.Evidence.{Evidence}
use Rattle.asc_base.specs.declared.stop.Stop.{Stop}
use Rattle.asc_base.specs.declared.stop.Stop.TheVariants as why
use Rattle.asc_outside.specs.Memory.{MemoryState}
use Rattle.bus_watch.specs.Log.{TapState, LogLists}
use Rattle.data_cache.specs.Contents.{Contents}
use Rattle.encrypted_run.specs.Refined.{Computes}
use Rattle.oram_contents.specs.Forgery.{Forgery}
use Rattle.oram_lines.specs.Standing.{DrawnOnce}
use Rattle.secure_machine.specs.Same.{timed_of, keys_in}
use Rattle.secure_machine.specs.declared.lines.TimedLines.{TimedLines}
use Rattle.secure_machine.specs.declared.machine.Cause.{Cause}
use Rattle.secure_machine.specs.declared.machine.Cause.TheVariants.{Ends, Stops}
use Rattle.secure_machine.specs.declared.report.Ending.{Ending}
use Rattle.secure_machine.specs.declared.report.Ending.TheVariants.{Integrity}

-- where the log has no altered reply a stop is by no evidence, and an ending isn't
abbrev pub IsUnblamed : Stop → LogLists → Type 0
IsUnblamed stop log = (evidence : Evidence) → stop ≡ why.Integrity evidence → log.altered ≡ [] → ⊥

abbrev pub EndsUnblamed : Ending → LogLists → Type 0
EndsUnblamed ending log = (evidence : Evidence) → ending ≡ Integrity evidence → log.altered ≡ [] → ⊥

module _ {M W L : Type 0} (memory_of : M → MemoryState) (tap_of : W → TapState) (leaf_of : L → Point → ℕ)
    (levels_of : L → ℕ) where
  -- the log shows a forgery
  abbrev pub IsForged : TimedLines M W L → Type 0
  IsForged s = Forgery (keys_in leaf_of s) (timed_of memory_of tap_of s).oram.port.tap.log

  -- cache and lines stand for these bytes
  abbrev pub StandFor : Contents → List ℕ → TimedLines M W L → Type 0
  StandFor cache memory s = Computes (keys_in leaf_of s) (levels_of s.oram.now.port.leaves) cache memory
      (timed_of memory_of tap_of s).oram

  -- the one or the other
  abbrev pub Knows : Contents → List ℕ → TimedLines M W L → Type 0
  Knows cache memory s = IsForged s ⊎ StandFor cache memory s

  -- for each point a leaf was drawn at most once, or the log shows a forgery
  abbrev pub DrewOnce : TimedLines M W L → Type 0
  DrewOnce s = IsForged s ⊎ DrawnOnce (timed_of memory_of tap_of s).oram.port.tap.log.events

  -- A line was stopped: by evidence only where a reply was altered, and by then no leaf was drawn twice for one point,
  -- or the log shows a forgery.
  abbrev pub StopUnblamed : Stop → TimedLines M W L → Type 0
  StopUnblamed stop s = IsUnblamed stop (timed_of memory_of tap_of s).oram.port.tap.log × DrewOnce s

  -- No more instructions come: by itself, where cache and lines stand for some bytes; or a line was stopped so.
  abbrev pub CauseUnblamed : Cause → TimedLines M W L → Type 0
  CauseUnblamed (Ends ending until) s = (cache : Contents) × (memory : List ℕ) × Knows cache memory s
  CauseUnblamed (Stops stop) s = StopUnblamed stop s
