use Rattle.std.proofs.Common.{◌∙◌, true, ap, sym, arith, refl}
use Rattle.bus_watch.specs.Log.{LogLists}
use Rattle.bus_watch.specs.Path.{writes_start}
use Rattle.bus_watch.proofs.MadeLaws.{ready_after, ready_less}
use Rattle.bus_watch.proofs.PathLaws.{ran_root, ran_next}
use Rattle.unified_tree.proofs.Written.{sealed-start, next_bucket}
use Rattle.unified_tree.proofs.writes.write_buckets.Goals as goal

pub loop-level-init : goal.loop-level-init
loop-level-init g c =
    let m = g.M.UntrustedMemory.state in
    let t = g.W.Watch.state in
    let levels = c.args.shape.now.levels in
    record {
      end = refl;
      ran = ran_root m t levels true (writes_start levels c.args.start) c.args.leaf.0 c.args.bus.now;
      ready = ready_less _ _ _ _ _ c.requires.ready (omega arith) (omega arith);
      altered = refl;
      mirror = sym (sealed-start _ _ _ _ _ _);
    }

pub returns-in-Err-clause-cut : goal.returns-in-Err-clause-cut
returns-in-Err-clause-cut g c =
    let m = g.M.UntrustedMemory.state in
    let t = g.W.Watch.state in
    let levels = c.args.shape.now.levels in
    ran_next m t levels true (writes_start levels c.args.start) c.args.leaf.0 c.loop-level.level _ _
    (omega (arith, c.from.ensures, c.from-in-loop-level.ensures)) c.bucket_on.ensures.bucket
    c.loop-level.invariant.ran c.in-Err.ensures.ran

pub loop-level-preserved : goal.loop-level-preserved
loop-level-preserved g c =
    let m = g.M.UntrustedMemory.state in
    let t = g.W.Watch.state in
    let levels = c.args.shape.now.levels in
    let l = c.loop-level.invariant in
    let mid = g.W.Watch.state c.loop-level.bus.tap.now in
    let new = g.W.Watch.state c.write.new.self.tap.now in
    record {
      end = refl;
      ran = ran_next m t levels true (writes_start levels c.args.start) c.args.leaf.0 c.loop-level.level _ _
          (omega (arith, c.from.ensures, c.from-in-loop-level.ensures)) c.bucket_on.ensures.bucket l.ran
          c.in-Ok.ensures.ran;
      ready = ready_after _ _ _ _ _ l.ready c.in-Ok.ensures.ran.made (omega arith) (omega arith);
      altered = ap (λ (x : LogLists). x.altered) c.write.ensures.log ∙ l.altered;
      mirror = next_bucket c.args.codec.now levels c.args.leaf.0 c.args.seed c.loop-level.level c.bucket_on.result
          c.from-in-loop-level-2.result c.args.hand.now.entries c.args.places.now c.slots_on-slots.result
          c.seal.new.into _ mid.mirror new.mirror c.bucket_on.ensures.bucket c.from-in-loop-level-2.ensures
          c.requires.places c.slots_on-slots.ensures c.seal.ensures.text l.mirror c.in-Ok.ensures.mirror;
    }
