use Rattle.std.proofs.Common.{false, ◌+◌, ◌*◌, ap, refl, arith}
use Rattle.bus_watch.proofs.MadeLaws.{ready_after, ready_less}
use Rattle.bus_watch.proofs.PathLaws.{ran_root, ran_next}
use Rattle.bus_watch.proofs.tests.read_along.Goals as goal

pub loop-level-init : goal.loop-level-init
loop-level-init g c =
    let m = g.M.UntrustedMemory.state in
    let t = g.W.Watch.state in
    record {
      end = refl;
      ran = ran_root m t c.args.shape.now.levels false c.args.start c.args.leaf.0 c.args.bus.now;
      ready = ready_less _ _ _ _ _ c.requires.ready (omega arith) (omega arith);
    }

pub loop-level-preserved : goal.loop-level-preserved
loop-level-preserved g c =
    let m = g.M.UntrustedMemory.state in
    let t = g.W.Watch.state in
    let l = c.loop-level.invariant in
    record {
      end = refl;
      ran = ran_next m t c.args.shape.now.levels false c.args.start c.args.leaf.0 c.loop-level.level _ _
          (ap (λ n. c.args.start + 40 * n) c.from.ensures) c.bucket_on.ensures.bucket l.ran c.in-Ok.ensures.ran;
      ready = ready_after _ _ _ _ _ l.ready c.in-Ok.ensures.ran.made (omega arith) (omega arith);
    }

pub returns-in-Err-clause-cut : goal.returns-in-Err-clause-cut
returns-in-Err-clause-cut g c =
    let m = g.M.UntrustedMemory.state in
    let t = g.W.Watch.state in
    let l = c.loop-level.invariant in (
      c.loop-level.level,
      omega arith,
      ran_next m t c.args.shape.now.levels false c.args.start c.args.leaf.0 c.loop-level.level _ _
          (ap (λ n. c.args.start + 40 * n) c.from.ensures) c.bucket_on.ensures.bucket l.ran c.in-Err.ensures.ran,
    )
