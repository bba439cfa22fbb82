use Rattle.epoch_learner.proofs.StandLaws.{stands_silent, inside_silent, stands_ran, inside_ran}
use Rattle.epoch_learner.proofs.stand_laws.stands_go_on.Goals as goal

pub returns-clause-between : goal.returns-clause-between
returns-clause-between c = λ config n last next learner old new. stands_silent

pub returns-clause-inside : goal.returns-clause-inside
returns-clause-inside c = λ config n start leaf part more learner old new. inside_silent more

pub returns-clause-ran_between : goal.returns-clause-ran_between
returns-clause-ran_between c = λ config n last next learner cut events m m2 t t2. stands_ran

pub returns-clause-ran_inside : goal.returns-clause-ran_inside
returns-clause-ran_inside c = λ config n start leaf part more learner cut events m m2 t t2. inside_ran
