use Rattle.epoch_learner.proofs.FollowLaws.{falls_as_next, end_passed, end_chosen}
use Rattle.epoch_learner.proofs.laws.ends_follow.Goals as goal

pub returns-clause-falls : goal.returns-clause-falls
returns-clause-falls c = falls_as_next

pub returns-clause-passed : goal.returns-clause-passed
returns-clause-passed c = end_passed

pub returns-clause-chosen : goal.returns-clause-chosen
returns-clause-chosen c = end_chosen
