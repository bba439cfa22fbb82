-- How a dummy's slot stops: in its path's read, or in its path's write.
use Rattle.std.specs.Prelude.{◌≡◌, ◌<◌, ◌≤◌, ◌⊎◌, ⊤, ℕ, [], ◌∷◌, Some, None, Ok, Err}
use Rattle.asc_base.specs.declared.block.Point.TheVariants.{Dummy}
use Rattle.asc_outside.specs.Memory.{MemoryState}
use Rattle.bus_watch.specs.Log.{TapState}
use Rattle.bus_watch.specs.Made.{Ran}
use Rattle.bus_watch.specs.Path.{reads, reads_end}
use Rattle.bus_watch.specs.RunEnd.{Whole, end_at}
use Rattle.bus_watch.specs.declared.bus.Bus.{Bus}
use Rattle.bus_watch.specs.declared.log.Event.TheVariants.{Access, Drawn}
use Rattle.oram_contents.specs.PathWritten.{rest_of}
use Rattle.unified_tree.specs.declared.stop.TreeStop.{TreeStop}
use Rattle.unified_tree.specs.Cut.{CutRead, CutWrite}
use Rattle.unified_tree.specs.Slot.{WasRead}
use Rattle.unified_tree.specs.Stops.{IfRead, IfWritten}
use Rattle.unified_tree.specs.Tree.{IsSameTree, TreeState}

module _ {M W : Type 0} (memory_of : M → MemoryState) (tap_of : W → TapState) (start leaf : ℕ) (stop : TreeStop)
    (tree tree' : TreeState) (old new : Bus M W) where
  -- The path's read was refused: after all of its reads for the first evidence, or at the move that was refused.
  pub record StopsInRead : Type 0 where
    pub ran : IfRead (Err stop) (Ran memory_of tap_of Whole (reads tree.shape.levels start leaf) [] old new)
        (λ cut. CutRead memory_of tap_of (end_at cut) start leaf tree tree' old new)
    pub read : IfRead (Err stop) (WasRead tree.key tree.shape start leaf (Err stop) (tap_of old.tap.now)
        (tap_of new.tap.now) tree.hand tree'.hand) (λ _. tree'.hand ≡ tree.hand)
    pub ended : IfRead (Err stop) (tree'.ended ≡ reads_end tree.shape.levels start)
        (λ _. tree'.ended ≤ reads_end tree.shape.levels start)
    pub mirror : (tap_of new.tap.now).mirror ≡ (tap_of old.tap.now).mirror
    pub seed : tree'.seed ≡ tree.seed
    pub path : tree'.path ≡ None

  -- The path was read, and its write refused: before the first move where more would stay than may, or at the move that
  -- was refused. What was read stays at hand, and the path open.
  pub record StopsInWrite : Type 0 where
    pub opened : TreeState
    pub middle : Bus M W
    pub same : IsSameTree tree opened
    pub seed : opened.seed ≡ tree.seed
    pub reads_ran : Ran memory_of tap_of Whole (reads tree.shape.levels start leaf) [] old middle
    pub read : WasRead tree.key tree.shape start leaf (Ok tt) (tap_of old.tap.now) (tap_of middle.tap.now) tree.hand
        opened.hand
    pub mirror : (tap_of middle.tap.now).mirror ≡ (tap_of old.tap.now).mirror
    pub ran : IfWritten (Err stop) ⊥ (λ _. new ≡ middle)
        (λ cut. CutWrite memory_of tap_of (end_at cut) start leaf opened tree' middle new)
    pub full : IfWritten (Err stop) ⊥
        (λ held. (held ≡ rest_of opened.shape.levels leaf opened.hand) × (opened.stash < held))
        (λ _. rest_of opened.shape.levels leaf opened.hand ≤ opened.stash)
    pub refused : IfWritten (Err stop) ⊥
        (λ _. (tree'.ended ≡ reads_end opened.shape.levels start) × (tree'.seed ≡ opened.seed)) (λ _. ⊤)
    pub hand : tree'.hand ≡ opened.hand
    pub path : tree'.path ≡ Some (record { start = start; leaf = record { 0 = leaf } })

-- The start and the leaf of a dummy's slot were noted, and then it stopped.
pub record StopsSlot {M W : Type 0} (memory_of : M → MemoryState) (tap_of : W → TapState) (start number leaf : ℕ)
    (stop : TreeStop) (tree tree' : TreeState) (old new : Bus M W) : Type 0 where
  pub noted : Bus M W
  pub notes : Ran memory_of tap_of Whole [] (Access start None ∷ Drawn (Dummy number) (record { 0 = leaf }) ∷ []) old
      noted
  pub mirror : (tap_of noted.tap.now).mirror ≡ (tap_of old.tap.now).mirror
  pub stops : StopsInRead memory_of tap_of start leaf stop tree tree' noted new
      ⊎ StopsInWrite memory_of tap_of start leaf stop tree tree' noted new
