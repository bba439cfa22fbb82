use Rattle.std.proofs.Common.{[], refl}
use Rattle.epoch_learner.proofs.HeardLaws.{heard_of_more, silence_heard, by_rule_kept, by_rule_more, other_events}
use Rattle.epoch_learner.proofs.laws.logs_go_on.Goals as goal

pub returns-clause-heard : goal.returns-clause-heard
returns-clause-heard c = heard_of_more

pub returns-clause-silent : goal.returns-clause-silent
returns-clause-silent c = silence_heard

pub returns-clause-empty : goal.returns-clause-empty
returns-clause-empty c = λ rates olat heard. other_events rates olat heard [] refl

pub returns-clause-kept : goal.returns-clause-kept
returns-clause-kept c = by_rule_kept

pub returns-clause-more : goal.returns-clause-more
returns-clause-more c = by_rule_more
