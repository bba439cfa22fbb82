-- When a bus can be asked.
use Rattle.std.specs.Prelude.{◌≡◌, ◌+◌, ◌^◌, ◌≤◌, ℕ, length}
use Rattle.asc_outside.specs.Memory.{MemoryState}
use Rattle.bus_watch.specs.Log.{TapState}

-- Memory and tap are prepared for so many buckets, and can take so many moves and events more.
pub record IsReady (buckets moves events : ℕ) (memory : MemoryState) (tap : TapState) : Type 0 where
  pub prepared : memory.count ≡ buckets
  pub mirrored : length tap.mirror ≡ buckets
  pub asked : memory.moved + moves ≤ 2 ^ 63
  pub room : moves ≤ tap.spare_moves
  pub event_room : events ≤ tap.spare_events
