-- What a stop says: which one it becomes, how the bus's run ended, and when the slot ended.
use Rattle.std.specs.Prelude.{◌≡◌, ◌≤◌, ◌+◌, ◌*◌, ◌⊎◌, ℕ, List, Option, None, Some, Result, Ok, Err}
use Rattle.asc_base.specs.TreeShape.{move_cycles}
use Rattle.asc_base.specs.declared.stop.Evidence.TheVariants as evidence
use Rattle.asc_base.specs.declared.stop.Stop.{Stop}
use Rattle.asc_base.specs.declared.stop.Stop.TheVariants.{Integrity, StashFull, TimeUp, Device, NoMemory}
use Rattle.asc_outside.specs.Memory.{MemoryState}
use Rattle.bus_watch.specs.declared.bus.Bus.{Bus}
use Rattle.bus_watch.specs.declared.log.Event.{Event}
use Rattle.bus_watch.specs.declared.log.Move.{Move}
use Rattle.bus_watch.specs.Log.{TapState}
use Rattle.bus_watch.specs.Made.{Ran}
use Rattle.bus_watch.specs.Path.{reads_end, writes_start}
use Rattle.bus_watch.specs.RunEnd.{RunEnd, Whole, MoveFailed, RanOut}
use Rattle.unified_tree.specs.declared.stop.TreeStop.{TreeStop}
use Rattle.unified_tree.specs.declared.stop.TreeStop.TheVariants as tree

-- the stop that a stop of the tree becomes
abbrev pub stop_after : TreeStop → Stop
stop_after (tree.BadSlot bucket slot) = Integrity (evidence.BadSlot bucket slot)
stop_after (tree.OffPath bucket slot) = Integrity (evidence.OffPath bucket slot)
stop_after (tree.Doubled address) = Integrity (evidence.Doubled address)
stop_after (tree.Full held) = StashFull held
stop_after tree.Device = Device
stop_after tree.NoMemory = NoMemory

-- a cycle after a move of a path, whose first move is made at this time
abbrev pub BrokeAt : (levels first last : ℕ) → Type 0
BrokeAt levels first last = (level : ℕ) × (level ≤ levels) × (last ≡ first + move_cycles * level + 1)

-- a cycle after a read or a write of the slot that starts at this time
abbrev pub BrokeIn : (levels start last : ℕ) → Type 0
BrokeIn levels start last = BrokeAt levels start last ⊎ BrokeAt levels (writes_start levels start) last

-- The end that a stop leaves, where the slot that is next starts at a time, or the slot that stopped: after evidence
-- and a full stash it is the end of the slot's reads, after a failed move the cycle after it. Where memory ran out
-- before the slot began, or no slot is left, it is still the end of the slot before, from which the next one is as far
-- as the rate.
abbrev pub EndsAt : Stop → (levels rate next last : ℕ) → Type 0
EndsAt (Integrity evidence) levels rate next last = last ≡ reads_end levels next
EndsAt (StashFull held) levels rate next last = last ≡ reads_end levels next
EndsAt (TimeUp at) levels rate next last = (at ≡ next) × (next ≡ last + rate)
EndsAt Device levels rate next last = BrokeIn levels next last
EndsAt NoMemory levels rate next last = (next ≡ last + rate) ⊎ BrokeIn levels next last

-- how the calls of the bus ended, where a call stops
abbrev pub IsEndOf : Stop → RunEnd → Type 0
IsEndOf (Integrity evidence) end = end ≡ Whole
IsEndOf (StashFull held) end = end ≡ Whole
IsEndOf (TimeUp at) end = end ≡ Whole
IsEndOf Device end = end ≡ MoveFailed
IsEndOf NoMemory end = (end ≡ Whole) ⊎ (end ≡ RanOut)

-- the bus was used: some moves were made and some events noted, and the run ended so
pub record RanTo {M W : Type 0} (memory_of : M → MemoryState) (tap_of : W → TapState) (end : RunEnd)
    (old new : Bus M W) : Type 0 where
  pub moves : List Move
  pub events : List Event
  pub ran : Ran memory_of tap_of end moves events old new

-- the same where a call stops
pub record RanStop {M W : Type 0} (memory_of : M → MemoryState) (tap_of : W → TapState) (stop : Stop)
    (old new : Bus M W) : Type 0 where
  pub end : RunEnd
  pub is_end : IsEndOf stop end
  pub ran : RanTo memory_of tap_of end old new

-- the stop that was kept before, or else this one
abbrev pub first_stop : Option Stop → Stop → Stop
first_stop None stop = stop
first_stop (Some before) stop = before

-- an answer is what a verdict says
abbrev pub Judges : Result (Unit {0}) Stop → Option Stop → Type 0
Judges (Ok _) verdict = verdict ≡ None
Judges (Err stop) verdict = verdict ≡ Some stop
