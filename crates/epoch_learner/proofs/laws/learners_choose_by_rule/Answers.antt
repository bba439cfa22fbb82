use Rattle.epoch_learner.proofs.RuleLaws.{choice_by_rule}
use Rattle.epoch_learner.proofs.laws.learners_choose_by_rule.Goals as goal

pub returns : goal.returns
returns c = choice_by_rule
