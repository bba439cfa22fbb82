-- A memory that tells what was last written.
use Rattle.std.specs.Prelude.{◌≡◌, ◌≢◌, ℕ, List, Some}
use Rattle.asc_outside.specs.Memory.{MemoryState}
use Rattle.bus_watch.specs.Log.{TapState}
use Rattle.bus_watch.specs.RunEnd.{RunEnd, Whole, RanOut}

-- it tells its buckets, and they are the mirror's
abbrev pub TellsMirror : MemoryState → TapState → Type 0
TellsMirror memory tap = memory.told ≡ Some tap.mirror

-- where it tells its buckets, they are the mirror's
abbrev pub MayTellMirror : MemoryState → TapState → Type 0
MayTellMirror memory tap = (all : List (List ℕ)) → memory.told ≡ Some all → all ≡ tap.mirror

-- While the memory tells the mirror's buckets, no reply is altered. It goes on telling them up to a failed move, and
-- where it tells any after that they are still the mirror's.
pub record StaysHonest (end : RunEnd) (memory memory' : MemoryState) (tap tap' : TapState) : Type 0 where
  pub unaltered : TellsMirror memory tap → tap'.log.altered ≡ tap.log.altered
  pub whole : end ≡ Whole → TellsMirror memory tap → TellsMirror memory' tap'
  pub told : end ≢ RanOut → MayTellMirror memory tap → MayTellMirror memory' tap'
