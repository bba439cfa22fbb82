use Rattle.epoch_learner.proofs.FollowLaws.{rate_bounds}
use Rattle.epoch_learner.proofs.Learner.rate.Goals as goal

pub returns-clause-bounds : goal.returns-clause-bounds
returns-clause-bounds c = λ config h. rate_bounds config c.args.self.now h
