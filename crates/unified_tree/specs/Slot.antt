-- What a path's read leaves of tap and hand where no bus call failed, and the contents that tree and tap are.
use Rattle.std.specs.Prelude.{◌≡◌, ℕ, List, ◌++◌, length, All, Result}
use Rattle.asc_base.specs.declared.block.Entry.{Entry}
use Rattle.asc_base.specs.declared.shape.Shape.{Shape}
use Rattle.bus_watch.specs.declared.log.Altered.{Altered}
use Rattle.bus_watch.specs.Log.{LogLists, TapState}
use Rattle.oram_contents.specs.Contents.{Contents}
use Rattle.oram_contents.specs.PathRead.{replies, path_read}
use Rattle.unified_tree.specs.declared.stop.TreeStop.{TreeStop}
use Rattle.unified_tree.specs.Joined.{path_joined}
use Rattle.unified_tree.specs.Stops.{Says}
use Rattle.unified_tree.specs.Tree.{TreeState}

-- the contents: the entries at hand and the next seed are the tree's, the buckets the mirror's
abbrev pub contents_of : TreeState → TapState → Contents
contents_of tree tap = record { hand = tree.hand; mirror = tap.mirror; seed = tree.seed }

-- the log gained altered replies, each noted with all events before it
pub record GainsNow (log log' : LogLists) : Type 0 where
  pub altered : List Altered
  pub gained : log'.altered ≡ log.altered ++ altered
  pub noted : All (λ (reply : Altered). reply.before ≡ length log.events) altered

-- By the altered replies that the log gained the answer is the verdict on the path over what was at hand and last
-- written, and at hand is what joined up to it.
pub record WasRead (key : List ℕ) (shape : Shape) (start leaf : ℕ) (result : Result (Unit {0}) TreeStop)
    (tap tap' : TapState) (hand hand' : List Entry) : Type 0 where
  pub gains : GainsNow tap.log tap'.log
  pub says : Says result (path_read key shape leaf (replies shape.levels start leaf tap.mirror gains.altered) hand)
      hand'
  pub joined : hand' ≡ path_joined key shape leaf (replies shape.levels start leaf tap.mirror gains.altered) hand
