use Rattle.std.proofs.Common.{refl}
use Rattle.asc_outside.specs.Memory.{zero_bucket}
use Rattle.asc_outside.proofs.memory.empty_bucket.Goals as goal

pub returns : goal.returns
unfolding zero_bucket
returns c = refl
