-- What requests for lines with a clock leave, however many there were.
use Rattle.std.specs.Prelude.{ℕ}
use Rattle.asc_base.specs.declared.block.Point.{Point}
use Rattle.asc_base.specs.declared.stop.Stop.{Stop}
use Rattle.asc_outside.specs.Memory.{MemoryState}
use Rattle.bus_watch.specs.Log.{TapState}
use Rattle.log_replay.specs.Given.{CallsReplay}
use Rattle.log_replay.specs.Replayed.{IsReplayed, StopsReplayed}
use Rattle.rate_enforcer.specs.PortStep.{PortState}
use Rattle.secure_machine.specs.Finish.{Halts, HaltsLater}
use Rattle.secure_machine.specs.Goes.{Goes, Breaks}
use Rattle.secure_machine.specs.Judged.{CauseReplayed}
use Rattle.secure_machine.specs.Same.{IsSameLines, timed_of, keys_in}
use Rattle.play_run.specs.Timed.{CanAsk, KeepsNoted}
use Rattle.secure_machine.specs.declared.lines.TimedLines.{TimedLines}
use Rattle.secure_machine.specs.declared.machine.Halted.{Halted}

module _ {M W L : Type 0} (memory_of : M → MemoryState) (tap_of : W → TapState) (levels_of : L → ℕ) where
  -- the port behind the lines, over what it was lent
  abbrev pub port : TimedLines M W L → PortState
  port s = (timed_of memory_of tap_of s).oram.port

  -- they can be asked
  abbrev pub Ready : TimedLines M W L → Type 0
  Ready s = CanAsk (levels_of s.oram.now.port.leaves) s.count (timed_of memory_of tap_of s)

module _ {M W L : Type 0} (memory_of : M → MemoryState) (tap_of : W → TapState) (leaf_of : L → Point → ℕ)
    (levels_of : L → ℕ) where
  -- where each call of the encrypted memory goes on being what its log says, and it was so, this holds
  abbrev pub IfReplayed : TimedLines M W L → Type 0 → Type 0
  IfReplayed s After = CallsReplay (keys_in leaf_of s) (levels_of s.oram.now.port.leaves)
      → IsReplayed (keys_in leaf_of s) (timed_of memory_of tap_of s).oram → After

  -- all of them were answered
  pub record Onwards (s t : TimedLines M W L) : Type 0 where
    pub same : IsSameLines s t
    pub goes : Goes (port memory_of tap_of levels_of s) (port memory_of tap_of levels_of t)
    pub fetches : KeepsNoted (timed_of memory_of tap_of s) (timed_of memory_of tap_of t)
    pub replays : IfReplayed s (IsReplayed (keys_in leaf_of s) (timed_of memory_of tap_of t).oram)
    pub ready : Ready memory_of tap_of levels_of t

  -- the last of them was stopped
  pub record BreaksOff (stop : Stop) (s t : TimedLines M W L) : Type 0 where
    pub same : IsSameLines s t
    pub breaks : Breaks stop (port memory_of tap_of levels_of s) (port memory_of tap_of levels_of t)
    pub fetches : KeepsNoted (timed_of memory_of tap_of s) (timed_of memory_of tap_of t)
    pub replays : IfReplayed s (StopsReplayed (keys_in leaf_of s) s.oram.now.port.tree.stash stop
        (port memory_of tap_of levels_of t))

  -- no more instructions come
  pub record HaltsOver (budget : ℕ) (halted : Halted) (s t : TimedLines M W L) : Type 0 where
    pub same : IsSameLines s t
    pub halts : Halts budget (levels_of t.oram.now.port.leaves) halted (port memory_of tap_of levels_of s)
        (timed_of memory_of tap_of t).oram
    pub late : HaltsLater halted.instructions halted.cycles halted.cause
    pub fetches : KeepsNoted (timed_of memory_of tap_of s) (timed_of memory_of tap_of t)
    pub replays : IfReplayed s (CauseReplayed (keys_in leaf_of s) s.oram.now.port.tree.stash halted.cause
        (timed_of memory_of tap_of t).oram)
