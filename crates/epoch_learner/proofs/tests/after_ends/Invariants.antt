use Rattle.epoch_learner.specs.Learner.{IsLearner}
use Rattle.epoch_learner.proofs.tests.after_ends.Given as goal

abbrev pub invariant-loop-k : goal.invariant-loop-k
invariant-loop-k g l = IsLearner l.learner
