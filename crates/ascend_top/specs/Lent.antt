-- What a command is lent of the outside, and what it leaves of it.
use Rattle.std.specs.Prelude.{◌≡◌}
use Rattle.asc_outside.specs.Memory.{MemoryState}
use Rattle.bus_watch.specs.Log.{TapState}

-- the memory and the tap that a command is lent, before it and after it
pub record Lent : Type 0 where
  pub memory : MemoryState
  pub memory' : MemoryState
  pub tap : TapState
  pub tap' : TapState

abbrev pub lent_as : (memory memory' : MemoryState) (tap tap' : TapState) → Lent
lent_as memory memory' tap tap' = record { memory = memory; memory' = memory'; tap = tap; tap' = tap' }

-- the memory wasn't asked, and the tap was told nothing
pub record IsIdle (lent : Lent) : Type 0 where
  pub memory : lent.memory' ≡ lent.memory
  pub tap : lent.tap' ≡ lent.tap
