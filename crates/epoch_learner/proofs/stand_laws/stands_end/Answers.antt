use Rattle.epoch_learner.proofs.StandLaws.{stands_passed, stands_chosen}
use Rattle.epoch_learner.proofs.stand_laws.stands_end.Goals as goal

pub returns-clause-passed : goal.returns-clause-passed
returns-clause-passed c = λ config n start leaf end learner log. stands_passed end

pub returns-clause-chosen : goal.returns-clause-chosen
returns-clause-chosen c = λ config n start leaf end index learner old new. stands_chosen end index new
