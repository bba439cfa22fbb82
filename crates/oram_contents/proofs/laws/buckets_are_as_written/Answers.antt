use Rattle.oram_contents.proofs.BucketLaws.{written_there, opened_there}
use Rattle.oram_contents.proofs.ContentsLaws.{sealed-length, sealed-off}
use Rattle.oram_contents.proofs.laws.buckets_are_as_written.Goals as goal

pub returns-clause-path : goal.returns-clause-path
returns-clause-path c = written_there

pub returns-clause-others : goal.returns-clause-others
returns-clause-others c keys leaf w bucket now off =
    sealed-off keys.pads keys.shape.levels leaf now.seed now.hand now.mirror w bucket off

pub returns-clause-opened : goal.returns-clause-opened
returns-clause-opened c = opened_there

pub returns-clause-sized : goal.returns-clause-sized
returns-clause-sized c keys leaf w now = sealed-length keys.pads keys.shape.levels leaf now.seed now.hand now.mirror w
