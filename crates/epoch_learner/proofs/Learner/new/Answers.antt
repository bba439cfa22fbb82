use Rattle.std.proofs.Common.{arith}
use Rattle.asc_base.proofs.RateLists.{rate_count-le}
use Rattle.epoch_learner.proofs.Learner.new.Goals as goal

pub bounds-config-config : goal.bounds-config-config
bounds-config-config c = omega (arith, (rate_count-le _ _ c.requires.rates).1)
