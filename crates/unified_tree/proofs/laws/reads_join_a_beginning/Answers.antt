use Rattle.std.proofs.Common.{map}
use Rattle.bucket_codec.specs.Bucket.{opened}
use Rattle.unified_tree.proofs.JoinedLaws.{buckets_begin, buckets_same}
use Rattle.unified_tree.proofs.laws.reads_join_a_beginning.Goals as goal

pub returns-clause-beginning : goal.returns-clause-beginning
returns-clause-beginning c key shape leaf texts hand =
    buckets_begin shape.levels leaf 0 (map (opened key shape) texts) hand

pub returns-clause-whole : goal.returns-clause-whole
returns-clause-whole c key shape leaf texts hand joined is =
    buckets_same shape.levels leaf 0 (map (opened key shape) texts) hand joined is
