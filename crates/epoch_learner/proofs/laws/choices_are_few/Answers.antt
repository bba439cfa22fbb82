use Rattle.epoch_learner.proofs.Steps.{after_end_keeps, falls_never_after, falls_never_of_one, falls_never_of_few}
use Rattle.epoch_learner.proofs.Steps.{code_fits}
use Rattle.epoch_learner.proofs.laws.choices_are_few.Goals as goal

pub returns-clause-kept : goal.returns-clause-kept
returns-clause-kept c = after_end_keeps

pub returns-clause-last : goal.returns-clause-last
returns-clause-last c = falls_never_after

pub returns-clause-one : goal.returns-clause-one
returns-clause-one c = falls_never_of_one

pub returns-clause-few : goal.returns-clause-few
returns-clause-few c = falls_never_of_few

pub returns-clause-code : goal.returns-clause-code
returns-clause-code c = λ config learner h. (code_fits config learner h).0

pub returns-clause-bits : goal.returns-clause-bits
returns-clause-bits c = λ config learner h. (code_fits config learner h).1
