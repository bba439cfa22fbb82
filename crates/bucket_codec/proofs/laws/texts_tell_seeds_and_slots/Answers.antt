use Rattle.bucket_codec.proofs.Buckets.{parts_of_text}
use Rattle.bucket_codec.proofs.laws.texts_tell_seeds_and_slots.Goals as goal

pub returns : goal.returns
returns c = parts_of_text
