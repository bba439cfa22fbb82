-- What a run of bus calls leaves of a memory and a tap.
use Rattle.std.specs.Prelude.{◌≡◌, ◌<◌, ◌+◌, ◌≤◌, ℕ, List, ◌++◌, length, All}
use Rattle.asc_outside.specs.Memory.{MemoryState}
use Rattle.bus_watch.specs.declared.bus.Bus.{Bus}
use Rattle.bus_watch.specs.declared.log.Altered.{Altered}
use Rattle.bus_watch.specs.declared.log.Event.{Event}
use Rattle.bus_watch.specs.declared.log.Move.{Move}
use Rattle.bus_watch.specs.Honest.{StaysHonest}
use Rattle.bus_watch.specs.Log.{LogLists, TapState}
use Rattle.bus_watch.specs.RunEnd.{RunEnd, MoveFailed}
use Rattle.bus_watch.specs.Same.{IsSameBus}
use Rattle.bus_watch.specs.Tied.{Tied, TiedAt}

-- These replies were noted as altered, each while the log had at least the events before the run, and at most those
-- after it.
pub record GainsAltered (log log' : LogLists) : Type 0 where
  pub altered : List Altered
  pub gained : log'.altered ≡ log.altered ++ altered
  pub before : All (λ (a : Altered). (length log.events ≤ a.before) × (a.before ≤ length log'.events)) altered

-- These moves were made and these events noted, each in this order: each move was noted, each was asked of the memory
-- once, and nothing else was. A run ends by a failed move only where the count of faults rose in it.
pub record Made (end : RunEnd) (moves : List Move) (events : List Event)
    (memory memory' : MemoryState) (tap tap' : TapState) : Type 0 where
  pub moves_are : tap'.log.moves ≡ tap.log.moves ++ moves
  pub events_are : tap'.log.events ≡ tap.log.events ++ events
  pub replies : GainsAltered tap.log tap'.log
  pub asked : memory'.moved ≡ memory.moved + length moves
  pub prepared : memory'.count ≡ memory.count
  pub linked : memory'.link ≡ memory.link
  pub later : memory.faults ≤ memory'.faults
  pub cause : end ≡ MoveFailed → memory.faults < memory'.faults
  pub mirrored : length tap'.mirror ≡ length tap.mirror
  pub room : tap.spare_moves ≤ tap'.spare_moves + length moves
  pub event_room : tap.spare_events ≤ tap'.spare_events + length events
  pub tied : (start : MemoryState) (buckets : List (List ℕ)) → Tied start buckets memory tap
      → TiedAt end start buckets memory' tap'
  pub honest : StaysHonest end memory memory' tap tap'

-- the same of a bus, by what its memory and its tap mean; the bus is still over the two
pub record Ran {M W : Type 0} (memory_of : M → MemoryState) (tap_of : W → TapState)
    (end : RunEnd) (moves : List Move) (events : List Event) (old new : Bus M W) : Type 0 where
  pub same : IsSameBus old new
  pub made : Made end moves events (memory_of old.memory.now) (memory_of new.memory.now)
      (tap_of old.tap.now) (tap_of new.tap.now)
