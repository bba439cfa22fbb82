use Rattle.epoch_learner.proofs.StandLaws.{saw_fits, ended_fits}
use Rattle.epoch_learner.proofs.stand_laws.sums_stay_small.Goals as goal

pub returns-clause-saw : goal.returns-clause-saw
returns-clause-saw c = λ config n last next learner asked log. saw_fits asked

pub returns-clause-ended : goal.returns-clause-ended
returns-clause-ended c = λ config n start leaf end part learner log. ended_fits end
