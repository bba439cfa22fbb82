use Rattle.bucket_codec.proofs.Buckets.{opened_bucket}
use Rattle.bucket_codec.proofs.laws.opens_what_was_sealed.Goals as goal

pub returns : goal.returns
returns c = opened_bucket
