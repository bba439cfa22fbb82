-- A path's reads or writes that a stop of the bus cut short.
use Rattle.std.specs.Prelude.{◌≡◌, ◌≤◌, ◌+◌, ◌*◌, ℕ, false, true, []}
use Rattle.asc_base.specs.TreeShape.{move_cycles}
use Rattle.asc_outside.specs.Memory.{MemoryState}
use Rattle.bus_watch.specs.declared.bus.Bus.{Bus}
use Rattle.bus_watch.specs.Log.{TapState}
use Rattle.bus_watch.specs.Made.{Ran}
use Rattle.bus_watch.specs.Path.{along, writes_start}
use Rattle.bus_watch.specs.RunEnd.{RunEnd}
use Rattle.oram_contents.specs.PathWritten.{sealed}
use Rattle.unified_tree.specs.Tree.{TreeState}

-- The reads down to a level were made, the last of which had no Ok. The end is a cycle after that one's time.
pub record CutRead {M W : Type 0} (memory_of : M → MemoryState) (tap_of : W → TapState) (end : RunEnd)
    (start leaf : ℕ) (tree tree' : TreeState) (old new : Bus M W) : Type 0 where
  pub level : ℕ
  pub within : level ≤ tree.shape.levels
  pub ran : Ran memory_of tap_of end (along tree.shape.levels false start leaf (level + 1)) [] old new
  pub ended : tree'.ended ≡ start + move_cycles * level + 1

-- The same of writes: the buckets above the level are written, each write that was asked used up its seed.
pub record CutWrite {M W : Type 0} (memory_of : M → MemoryState) (tap_of : W → TapState) (end : RunEnd)
    (start leaf : ℕ) (tree tree' : TreeState) (old new : Bus M W) : Type 0 where
  pub level : ℕ
  pub within : level ≤ tree.shape.levels
  pub ran : Ran memory_of tap_of end
      (along tree.shape.levels true (writes_start tree.shape.levels start) leaf (level + 1)) [] old new
  pub mirror : (tap_of new.tap.now).mirror
      ≡ sealed tree.key tree.shape.levels leaf tree.seed tree.hand (tap_of old.tap.now).mirror level
  pub seed : tree'.seed ≡ tree.seed + (level + 1)
  pub ended : tree'.ended ≡ writes_start tree.shape.levels start + move_cycles * level + 1
