use Rattle.std.proofs.Common.{sym, inl, inr, arith}
use Rattle.asc_base.proofs.Paths.{shared_of_is}
use Rattle.asc_base.proofs.shape.Shape.shared.Goals as goal

pub returns-else-bucket_on-clause-shared : goal.returns-else-bucket_on-clause-shared
returns-else-bucket_on-clause-shared c =
    sym (shared_of_is c.args.self.now.levels c.args.x.0 c.args.y.0 c.loop-level.level c.loop-level.invariant.within
    (inr (omega (arith, c.bucket_on.ensures.bucket, c.bucket_on-in-loop-level.ensures.bucket)))
    c.loop-level.invariant.differ)

pub returns-after-loop-level-clause-shared : goal.returns-after-loop-level-clause-shared
returns-after-loop-level-clause-shared c =
    sym (shared_of_is c.args.self.now.levels c.args.x.0 c.args.y.0 c.loop-level.level c.loop-level.invariant.within
    (inl (omega arith)) c.loop-level.invariant.differ)
