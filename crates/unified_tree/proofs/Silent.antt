-- A path's read and its write note no event, however they end; and what a refused write says.
use Rattle.std.proofs.Common.{◌≡◌, [], List, ℕ, Result, Ok, Err, ap}
use Rattle.asc_outside.specs.Memory.{MemoryState}
use Rattle.bus_watch.specs.Log.{TapState}
use Rattle.bus_watch.specs.Made.{Ran}
use Rattle.bus_watch.specs.RunEnd.{Whole, end_at}
use Rattle.bus_watch.specs.declared.bus.Bus.{Bus}
use Rattle.bus_watch.specs.declared.bus.BusStop.{BusStop}
use Rattle.bus_watch.specs.declared.log.Move.{Move}
use Rattle.bus_watch.proofs.MadeLaws.{silent_events}
use Rattle.unified_tree.specs.Cut.{CutRead, CutWrite}
use Rattle.unified_tree.specs.Stops.{IfRead, IfWritten}
use Rattle.unified_tree.specs.Tree.{TreeState}
use Rattle.unified_tree.specs.declared.stop.TreeStop.{TreeStop}
use Rattle.unified_tree.specs.declared.stop.TreeStop.TheVariants.{BadSlot, OffPath, Doubled, Full, Device, NoMemory}

module _ {M W : Type 0} (memory_of : M → MemoryState) (tap_of : W → TapState) (moves : List Move) (start leaf : ℕ)
    (tree tree' : TreeState) (old new : Bus M W) where
  abbrev IsSilent : Type 0
  IsSilent = (tap_of new.tap.now).log.events ≡ (tap_of old.tap.now).log.events

  pub read_silent : (result : Result (Unit {0}) TreeStop)
      → IfRead result (Ran memory_of tap_of Whole moves [] old new)
      (λ stop. CutRead memory_of tap_of (end_at stop) start leaf tree tree' old new) → IsSilent
  read_silent (Ok _) h = silent_events h.made
  read_silent (Err (BadSlot bucket slot)) h = silent_events h.made
  read_silent (Err (OffPath bucket slot)) h = silent_events h.made
  read_silent (Err (Doubled address)) h = silent_events h.made
  read_silent (Err (Full held)) h = absurd h
  read_silent (Err Device) h = silent_events h.ran.made
  read_silent (Err NoMemory) h = silent_events h.ran.made

  pub write_silent : (result : Result (Unit {0}) TreeStop)
      → IfWritten result (Ran memory_of tap_of Whole moves [] old new) (λ _. new ≡ old)
      (λ stop. CutWrite memory_of tap_of (end_at stop) start leaf tree tree' old new) → IsSilent
  write_silent (Ok _) h = silent_events h.made
  write_silent (Err (BadSlot bucket slot)) h = absurd h
  write_silent (Err (OffPath bucket slot)) h = absurd h
  write_silent (Err (Doubled address)) h = absurd h
  write_silent (Err (Full held)) h = ap (λ (b : Bus M W). (tap_of b.tap.now).log.events) h
  write_silent (Err Device) h = silent_events h.ran.made
  write_silent (Err NoMemory) h = silent_events h.ran.made

-- What a refused write says, without what an Ok would say.
pub refused_write : (P : Type 0) (F : ℕ → Type 0) (Q : BusStop → Type 0) (stop : TreeStop) → IfWritten (Err stop) P F Q
    → IfWritten (Err stop) ⊥ F Q
refused_write P F Q (BadSlot bucket slot) h = h
refused_write P F Q (OffPath bucket slot) h = h
refused_write P F Q (Doubled address) h = h
refused_write P F Q (Full held) h = h
refused_write P F Q Device h = h
refused_write P F Q NoMemory h = h
