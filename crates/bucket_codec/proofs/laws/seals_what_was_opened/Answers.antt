use Rattle.bucket_codec.proofs.Opened.{opened_spelled}
use Rattle.bucket_codec.proofs.laws.seals_what_was_opened.Goals as goal

pub returns : goal.returns
returns c = opened_spelled
