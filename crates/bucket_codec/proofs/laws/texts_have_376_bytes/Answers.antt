use Rattle.bucket_codec.proofs.Buckets.{length-bucket_text, seed_in-bucket}
use Rattle.bucket_codec.proofs.laws.texts_have_376_bytes.Goals as goal

pub returns-clause-number : goal.returns-clause-number
returns-clause-number c = length-bucket_text

pub returns-clause-seed : goal.returns-clause-seed
returns-clause-seed c = seed_in-bucket
