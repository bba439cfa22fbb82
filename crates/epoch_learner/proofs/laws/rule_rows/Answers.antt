use Rattle.std.proofs.Common.{refl}
use Rattle.asc_base.specs.Greatest.{least}
use Rattle.epoch_learner.specs.LearnerRule.{nearest, index_by_sums}
use Rattle.epoch_learner.specs.Heard.{heard_of, AreByRule}
use Rattle.epoch_learner.proofs.laws.rule_rows.Goals as goal

pub returns-clause-waited : goal.returns-clause-waited
unfolding least nearest index_by_sums
returns-clause-waited c = refl

pub returns-clause-tie : goal.returns-clause-tie
unfolding least nearest index_by_sums
returns-clause-tie c = refl

pub returns-clause-nearer : goal.returns-clause-nearer
unfolding least nearest index_by_sums
returns-clause-nearer c = refl

pub returns-clause-none : goal.returns-clause-none
unfolding least nearest index_by_sums
returns-clause-none c = refl

pub returns-clause-dummy : goal.returns-clause-dummy
unfolding heard_of AreByRule least nearest index_by_sums
returns-clause-dummy c = (tt, (tt, (refl, tt)))

pub returns-clause-other : goal.returns-clause-other
unfolding heard_of AreByRule least nearest index_by_sums
returns-clause-other c = λ h. let wrong = h.1.1.0 in cc
