-- What the fields of a tree mean.
use Rattle.std.specs.Prelude.{◌≤◌, ◌<◌, ◌+◌, ◌-◌, ◌^◌, length, min, vec_capacity, IfSome}
use Rattle.asc_base.specs.Shape.{IsShape}
use Rattle.unified_tree.specs.declared.tree.Tree.TheInside.{Inside}
use Rattle.oram_contents.specs.Shapes.{AreOfShape}
use Rattle.unified_tree.specs.Tree.{TreeState}

-- what a tree means: the room is that of the stash and of the lists beside it
abbrev pub tree_of : Inside → TreeState
tree_of tree = record {
  shape = tree.shape;
  stash = tree.stash;
  key = tree.codec;
  hand = tree.hand.entries;
  spare = min tree.hand.spare (min (vec_capacity tree.depths - length tree.hand.entries)
      (vec_capacity tree.places - length tree.hand.entries));
  seed = tree.seed;
  path = tree.path;
  ended = tree.ended;
}

-- a tree has a shape, a seed, and room for the replies of a path and for a depth and a place of
-- each entry; what is at hand is of the shape
pub record IsTree (tree : Inside) : Type 0 where
  pub shape : IsShape tree.shape
  pub small : tree.shape.levels ≤ 20
  pub seed : 0 < tree.seed
  pub texts : tree.shape.levels + 1 ≤ vec_capacity tree.texts
  pub depths : length tree.hand.entries ≤ vec_capacity tree.depths
  pub places : length tree.hand.entries ≤ vec_capacity tree.places
  pub of_shape : AreOfShape tree.shape tree.hand.entries
  pub few : length tree.hand.entries ≤ 2 ^ 21
  pub path : IfSome tree.path (λ path. (path.leaf.0 < 2 ^ tree.shape.levels) × (path.start < 2 ^ 39))
