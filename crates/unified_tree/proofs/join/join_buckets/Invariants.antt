use Rattle.std.proofs.Common.{◌≡◌, ◌≤◌, ◌+◌, ◌*◌, length, drop, map}
use Rattle.bucket_codec.specs.Bucket.{opened}
use Rattle.oram_contents.specs.Shapes.{AreOfShape}
use Rattle.oram_contents.specs.PathRead.{join_buckets}
use Rattle.unified_tree.specs.Joined.{buckets_joined}
use Rattle.unified_tree.proofs.join.join_buckets.Given as goal

abbrev pub invariant-loop-level : goal.invariant-loop-level
invariant-loop-level l = record {
  end : l.level-end ≡ l.shape.levels + 1;
  room : 4 * (l.shape.levels + 1) ≤ l.hand.spare + 4 * l.level;
  spare : l.fn.hand.spare ≤ l.hand.spare + 4 * l.level;
  more : length l.hand.entries ≤ length l.fn.hand.entries + 4 * l.level;
  of_shape : AreOfShape l.shape l.fn.hand.entries → AreOfShape l.shape l.hand.entries;
  rest : join_buckets l.shape.levels l.leaf.0 0 (map (opened l.codec l.shape) l.texts) l.fn.hand.entries
      ≡ join_buckets l.shape.levels l.leaf.0 l.level (map (opened l.codec l.shape) (drop l.level l.texts))
      l.hand.entries;
  joined : buckets_joined l.shape.levels l.leaf.0 0 (map (opened l.codec l.shape) l.texts) l.fn.hand.entries
      ≡ buckets_joined l.shape.levels l.leaf.0 l.level
      (map (opened l.codec l.shape) (drop l.level l.texts)) l.hand.entries;
}
