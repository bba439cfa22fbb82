use Rattle.asc_base.proofs.Paths.{shared_iff, shared_of-le, bucket_of-apart}
use Rattle.asc_base.proofs.laws.paths_share.Goals as goal

pub returns-clause-shared : goal.returns-clause-shared
returns-clause-shared c = shared_iff

pub returns-clause-within : goal.returns-clause-within
returns-clause-within c = shared_of-le

pub returns-clause-apart : goal.returns-clause-apart
returns-clause-apart c levels x y low high in_x in_y in_low in_high other =
    bucket_of-apart levels x y low high other in_low in_high in_x in_y
