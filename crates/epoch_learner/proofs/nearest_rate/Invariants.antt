use Rattle.std.proofs.Common.{◌<◌}
use Rattle.epoch_learner.proofs.Nearest.{IsFirstNearest}
use Rattle.epoch_learner.proofs.nearest_rate.Given as goal

abbrev pub invariant-loop-index : goal.invariant-loop-index
invariant-loop-index l = record {
  below : l.best < l.index;
  first : IsFirstNearest l.rates.list l.number l.index l.best;
}
