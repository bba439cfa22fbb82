use Rattle.epoch_learner.specs.Learner.{IsLearner}
use Rattle.epoch_learner.proofs.tests.first_choice.Given as goal

abbrev pub invariant-loop-access : goal.invariant-loop-access
invariant-loop-access g l = IsLearner l.learner
