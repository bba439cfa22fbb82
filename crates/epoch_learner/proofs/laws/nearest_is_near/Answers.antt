use Rattle.epoch_learner.proofs.Nearest.{nearest_first, none_is_nearer, smaller_on_tie}
use Rattle.epoch_learner.proofs.laws.nearest_is_near.Goals as goal

pub returns-clause-within : goal.returns-clause-within
returns-clause-within c = λ rates number some. (nearest_first rates number some).0

pub returns-clause-near : goal.returns-clause-near
returns-clause-near c = none_is_nearer

pub returns-clause-tie : goal.returns-clause-tie
returns-clause-tie c = smaller_on_tie
