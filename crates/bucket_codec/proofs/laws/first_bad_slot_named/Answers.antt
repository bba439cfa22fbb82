use Rattle.bucket_codec.proofs.Spelled.{opened_first_bad}
use Rattle.bucket_codec.proofs.laws.first_bad_slot_named.Goals as goal

pub returns : goal.returns
returns c = opened_first_bad
