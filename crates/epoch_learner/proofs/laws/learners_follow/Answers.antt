use Rattle.epoch_learner.proofs.FollowLaws.{start_is_of, start_follows, access_follows}
use Rattle.epoch_learner.proofs.laws.learners_follow.Goals as goal

pub returns-clause-new : goal.returns-clause-new
returns-clause-new c = start_is_of

pub returns-clause-start : goal.returns-clause-start
returns-clause-start c = λ config is. start_follows config (start_is_of config is)

pub returns-clause-access : goal.returns-clause-access
returns-clause-access c = access_follows
