use Rattle.epoch_learner.proofs.RuleLaws.{start_code, access_code, end_code, choice_code}
use Rattle.epoch_learner.proofs.laws.codes_grow.Goals as goal

pub returns-clause-start : goal.returns-clause-start
returns-clause-start c = start_code

pub returns-clause-access : goal.returns-clause-access
returns-clause-access c = access_code

pub returns-clause-passed : goal.returns-clause-passed
returns-clause-passed c = end_code

pub returns-clause-chosen : goal.returns-clause-chosen
returns-clause-chosen c = choice_code
