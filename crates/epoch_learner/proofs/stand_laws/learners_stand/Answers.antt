use Rattle.epoch_learner.proofs.StandLaws.{stands_first}
use Rattle.epoch_learner.proofs.stand_laws.learners_stand.Goals as goal

pub returns : goal.returns
returns c = stands_first
