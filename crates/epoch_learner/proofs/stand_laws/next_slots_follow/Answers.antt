use Rattle.epoch_learner.proofs.StandLaws.{stands_next, stands_apart, stands_far, stands_from}
use Rattle.epoch_learner.proofs.stand_laws.next_slots_follow.Goals as goal

pub returns-clause-next : goal.returns-clause-next
returns-clause-next c = λ config n last next learner log. stands_next

pub returns-clause-apart : goal.returns-clause-apart
returns-clause-apart c = λ config n last next learner log. stands_apart

pub returns-clause-took : goal.returns-clause-took
returns-clause-took c = λ config n last next learner log. stands_far

pub returns-clause-first : goal.returns-clause-first
returns-clause-first c = λ config n last next time learner log. stands_from time
