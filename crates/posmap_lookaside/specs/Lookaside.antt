-- What contracts see of a lookaside buffer.
use Rattle.std.specs.Prelude.{ℕ, ◌≤◌, List, length}
use Rattle.posmap_lookaside.specs.Addresses.{AreDistinct}
use Rattle.posmap_lookaside.specs.Held.{addresses_of}
use Rattle.posmap_lookaside.specs.declared.held.Held.{Held}

pub record LookasideState : Type 0 where
  -- the most recent first
  pub list : List Held
  -- the most blocks
  pub capacity : ℕ

-- what every buffer is
pub record IsLookaside (buffer : LookasideState) : Type 0 where
  pub some : 1 ≤ buffer.capacity
  pub fits : length buffer.list ≤ buffer.capacity
  pub distinct : AreDistinct (addresses_of buffer.list)
