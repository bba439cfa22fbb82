-- What the preparation of a bus leaves of its memory and its tap.
use Rattle.std.specs.Prelude.{◌≡◌, ◌<◌, ◌+◌, ◌*◌, ◌≤◌, ◌⊎◌, ℕ, option_map, Result, Ok, Err}
use Rattle.asc_outside.specs.Memory.{MemoryState, Keeps, zero_buckets}
use Rattle.bus_watch.specs.declared.bus.BusStop.{BusStop}
use Rattle.bus_watch.specs.declared.bus.BusStop.TheVariants.{Device, NoMemory}
use Rattle.bus_watch.specs.Log.{TapState}

-- the memory has so many buckets of zero bytes, which it tells where it told any
abbrev pub HasZeroBuckets : ℕ → MemoryState → MemoryState → Type 0
HasZeroBuckets buckets memory memory' = memory'.told ≡ option_map (λ _. zero_buckets buckets) memory.told

-- after an Ok: memory and mirror have zero bytes, and there is room for the moves and events of so many accesses
pub record HasRoomFor (buckets levels accesses : ℕ) (memory memory' : MemoryState) (tap' : TapState) : Type 0 where
  pub told : HasZeroBuckets buckets memory memory'
  pub mirror : tap'.mirror ≡ zero_buckets buckets
  pub moves : 2 * (levels + 1) * accesses ≤ tap'.spare_moves
  pub events : 6 * accesses ≤ tap'.spare_events

-- after a failure of the memory: what it told stays, or isn't told any more, and its count of faults rose
pub record IsRefused (memory memory' : MemoryState) (tap tap' : TapState) : Type 0 where
  pub told : Keeps memory.told memory'.told
  pub cause : memory.faults < memory'.faults
  pub kept : tap' ≡ tap

-- after want of memory: of the memory's, which leaves what it told or tells it no more, or of the tap's
pub record IsShort (buckets : ℕ) (memory memory' : MemoryState) (tap tap' : TapState) : Type 0 where
  pub told : Keeps memory.told memory'.told ⊎ HasZeroBuckets buckets memory memory'
  pub kept : tap' ≡ tap

-- by the answer
abbrev pub IsPreparedBy : Result (Unit {0}) BusStop → ℕ → ℕ → ℕ
    → MemoryState → MemoryState → TapState → TapState → Type 0
IsPreparedBy (Ok _) buckets levels accesses m m' t t' = HasRoomFor buckets levels accesses m m' t'
IsPreparedBy (Err Device) buckets levels accesses m m' t t' = IsRefused m m' t t'
IsPreparedBy (Err NoMemory) buckets levels accesses m m' t t' = IsShort buckets m m' t t'

-- What `prepare` leaves. On every answer the buckets count as prepared, no move was made, and nothing was noted.
pub record IsPrepared (result : Result (Unit {0}) BusStop) (buckets levels accesses : ℕ)
    (memory memory' : MemoryState) (tap tap' : TapState) : Type 0 where
  pub count : memory'.count ≡ buckets
  pub moved : memory'.moved ≡ memory.moved
  pub seen : memory'.seen ≡ memory.seen
  pub said : memory'.said ≡ memory.said
  pub link : memory'.link ≡ memory.link
  pub later : memory.faults ≤ memory'.faults
  pub log : tap'.log ≡ tap.log
  pub by_answer : IsPreparedBy result buckets levels accesses memory memory' tap tap'
