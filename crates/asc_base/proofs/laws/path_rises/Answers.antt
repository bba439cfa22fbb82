use Rattle.asc_base.proofs.Paths.{bucket_of-lt, bucket_of-rises}
use Rattle.asc_base.proofs.laws.path_rises.Goals as goal

pub returns-clause-inside : goal.returns-clause-inside
returns-clause-inside c = bucket_of-lt

pub returns-clause-rises : goal.returns-clause-rises
returns-clause-rises c = bucket_of-rises
