-- What each call leaves of tree and tap, for the keys of an encrypted memory: what its contract says, and what its
-- caller notes beside it.
use Rattle.std.specs.Prelude.{◌≡◌, ◌≤◌, ◌+◌, ℕ, List, [], ◌∷◌, ◌++◌, Option, None, Ok, Err}
use Rattle.asc_base.specs.declared.block.Counter.{Counter}
use Rattle.asc_base.specs.declared.block.Entry.{Entry}
use Rattle.asc_base.specs.declared.block.Point.{Point}
use Rattle.bus_watch.specs.Log.{LogLists, TapState}
use Rattle.bus_watch.specs.declared.log.Event.TheVariants.{Tagged}
use Rattle.oram_contents.specs.Entries.{Keys, message_of, entry_of}
use Rattle.oram_contents.specs.PathWritten.{stays, sealed}
use Rattle.oram_contents.specs.Shapes.{AreOfShape}
use Rattle.oram_contents.specs.Slots.{drawn_events}
use Rattle.oram_contents.specs.Steps.{Adds, accepted}
use Rattle.oram_contents.specs.Verdict.{judged}
use Rattle.oram_stash.specs.Entries.{held, without}
use Rattle.unified_tree.specs.Slot.{GainsNow, WasRead}
use Rattle.unified_tree.specs.Stops.{IfRead}
use Rattle.unified_tree.specs.Tree.{TreeState}
use Rattle.unified_tree.specs.declared.stop.TreeStop.{TreeStop}

module _ (keys : Keys) (tap tap' : TapState) (tree tree' : TreeState) where
  -- The start of a slot and its point were noted in a log, and nothing else. Then the path of its leaf was read.
  pub record LeftByRead (old : LogLists) (start : ℕ) (asked : Option ℕ) (p : Point) : Type 0 where
    pub shape : keys.shape ≡ tree.shape
    pub pads : keys.pads ≡ tree.key
    pub drawn : Adds old tap.log (drawn_events keys start asked p) []
    pub silent : tap'.log.events ≡ tap.log.events
    pub read : WasRead tree.key tree.shape start (keys.leaf_of p) (Ok tt) tap tap' tree.hand tree'.hand
    pub of_shape : AreOfShape tree.shape tree'.hand
    pub mirror : tap'.mirror ≡ tap.mirror
    pub seed : tree'.seed ≡ tree.seed

  -- The same of a read that was refused: what joined up to the first evidence is at hand too, and nothing more after a
  -- stop of the bus.
  pub record LeftByReadCut (old : LogLists) (start : ℕ) (asked : Option ℕ) (p : Point)
      (stop : TreeStop) : Type 0 where
    pub shape : keys.shape ≡ tree.shape
    pub pads : keys.pads ≡ tree.key
    pub drawn : Adds old tap.log (drawn_events keys start asked p) []
    pub silent : tap'.log.events ≡ tap.log.events
    pub gains : GainsNow tap.log tap'.log
    pub read : IfRead (Err stop)
        (WasRead tree.key tree.shape start (keys.leaf_of p) (Err stop) tap tap' tree.hand tree'.hand)
        (λ _. tree'.hand ≡ tree.hand)
    pub of_shape : AreOfShape tree.shape tree'.hand
    pub mirror : tap'.mirror ≡ tap.mirror
    pub seed : tree'.seed ≡ tree.seed

  -- The path of a leaf was written.
  pub record LeftByWrite (leaf : ℕ) : Type 0 where
    pub shape : keys.shape ≡ tree.shape
    pub pads : keys.pads ≡ tree.key
    pub silent : Adds tap.log tap'.log [] []
    pub hand : tree'.hand ≡ stays tree.shape.levels leaf tree.hand
    pub mirror : tap'.mirror
        ≡ sealed tree.key tree.shape.levels leaf tree.seed tree.hand tap.mirror (tree.shape.levels + 1)
    pub seed : tree'.seed ≡ tree.seed + (tree.shape.levels + 1)

  -- So many of its buckets were written, none where more would stay than may, and so many seeds were used up.
  pub record LeftByWriteCut (leaf level used : ℕ) : Type 0 where
    pub shape : keys.shape ≡ tree.shape
    pub pads : keys.pads ≡ tree.key
    pub within : level ≤ tree.shape.levels
    pub silent : Adds tap.log tap'.log [] []
    pub hand : tree'.hand ≡ tree.hand
    pub mirror : tap'.mirror ≡ sealed tree.key tree.shape.levels leaf tree.seed tree.hand tap.mirror level
    pub seed : tree'.seed ≡ tree.seed + used

  -- The entry of a block was taken out, nothing was wrong with it under the block's counter, and it was noted as
  -- accepted; or there was rightly none.
  pub record LeftByTake (a : ℕ) (c : Counter) (found : Option Entry) : Type 0 where
    pub taken : found ≡ held tree.hand (record { 0 = a })
    pub hand : tree'.hand ≡ without tree.hand (record { 0 = a })
    pub seed : tree'.seed ≡ tree.seed
    pub mirror : tap'.mirror ≡ tap.mirror
    pub right : judged keys a c found ≡ None
    pub noted : Adds tap.log tap'.log (accepted a c found) []

  -- A line of a block was noted as tagged under a counter, and its entry put at hand, where none of the block was.
  pub record LeftByPut (a : ℕ) (c : Counter) (l : List ℕ) : Type 0 where
    pub free : held tree.hand (record { 0 = a }) ≡ None
    pub hand : tree'.hand ≡ tree.hand ++ entry_of keys a c l ∷ []
    pub seed : tree'.seed ≡ tree.seed
    pub mirror : tap'.mirror ≡ tap.mirror
    pub noted : Adds tap.log tap'.log (Tagged (message_of a c l) ∷ []) []

  -- The same where one of the block was at hand: its message was noted, and nothing was put.
  pub record LeftByPutCut (a : ℕ) (c : Counter) (l : List ℕ) : Type 0 where
    pub hand : tree'.hand ≡ tree.hand
    pub seed : tree'.seed ≡ tree.seed
    pub mirror : tap'.mirror ≡ tap.mirror
    pub noted : Adds tap.log tap'.log (Tagged (message_of a c l) ∷ []) []
