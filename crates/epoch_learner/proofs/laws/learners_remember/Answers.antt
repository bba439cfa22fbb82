use Rattle.epoch_learner.proofs.RuleLaws.{start_remembers, access_remembers, end_remembers, choice_remembers}
use Rattle.epoch_learner.proofs.RuleLaws.{rule_by_sums}
use Rattle.epoch_learner.proofs.laws.learners_remember.Goals as goal

pub returns-clause-start : goal.returns-clause-start
returns-clause-start c = start_remembers

pub returns-clause-access : goal.returns-clause-access
returns-clause-access c = access_remembers

pub returns-clause-passed : goal.returns-clause-passed
returns-clause-passed c = end_remembers

pub returns-clause-chosen : goal.returns-clause-chosen
returns-clause-chosen c = choice_remembers

pub returns-clause-rule : goal.returns-clause-rule
returns-clause-rule c = rule_by_sums
