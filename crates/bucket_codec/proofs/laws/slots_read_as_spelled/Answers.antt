use Rattle.bucket_codec.proofs.Spelled.{spells_both}
use Rattle.bucket_codec.proofs.laws.slots_read_as_spelled.Goals as goal

pub returns : goal.returns
returns c = spells_both
