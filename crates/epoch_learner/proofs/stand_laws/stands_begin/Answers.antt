use Rattle.epoch_learner.proofs.StandLaws.{stands_begun}
use Rattle.epoch_learner.proofs.stand_laws.stands_begin.Goals as goal

pub returns : goal.returns
returns c = λ config n last next learner asked point leaf old mid new. stands_begun asked point leaf mid new
