use Rattle.bucket_codec.proofs.Opened.{opened_typed, opened_range}
use Rattle.bucket_codec.proofs.laws.opened_slots_are_of_shape.Goals as goal

pub returns-clause-typed : goal.returns-clause-typed
returns-clause-typed c = opened_typed

pub returns-clause-range : goal.returns-clause-range
returns-clause-range c = opened_range
