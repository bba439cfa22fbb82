use Rattle.asc_base.specs.TreeShape.{olat_of}
use Rattle.epoch_learner.specs.Heard.{nothing_heard}
use Rattle.epoch_learner.proofs.HeardLaws.{silence_heard}
use Rattle.epoch_learner.proofs.RuleLaws.{access_heard, access_ended, choice_heard}
use Rattle.epoch_learner.proofs.laws.logs_are_remembered.Goals as goal

pub returns-clause-access : goal.returns-clause-access
returns-clause-access c = access_heard

pub returns-clause-ended : goal.returns-clause-ended
returns-clause-ended c = access_ended

pub returns-clause-silent : goal.returns-clause-silent
returns-clause-silent c = λ p events more. silence_heard (olat_of p.levels) nothing_heard events more

pub returns-clause-chosen : goal.returns-clause-chosen
returns-clause-chosen c = choice_heard
