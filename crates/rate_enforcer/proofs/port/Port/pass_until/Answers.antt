use Rattle.std.proofs.Common.{◌<◌, ◌≤◌, ◌∙◌, ◌^◌, [], length, refl, ap, subst, arith}
use Rattle.asc_base.specs.declared.settings.Config.{Config}
use Rattle.bus_watch.proofs.MadeLaws.{ran_none}
use Rattle.oram_contents.specs.Slots.{IsDummy}
use Rattle.unified_tree.specs.Slot.{contents_of}
use Rattle.rate_enforcer.specs.Served.{keys_of}
use Rattle.rate_enforcer.specs.Breaks.{DummyStops}
use Rattle.rate_enforcer.proofs.Breaks.{passes_stop}
use Rattle.rate_enforcer.proofs.Contents.{none_passed, dummies_more}
use Rattle.rate_enforcer.specs.State.{Stopped}
use Rattle.rate_enforcer.proofs.StateLaws.{ran_on, stops_on}
use Rattle.rate_enforcer.proofs.port.Port.pass_until.Goals as goal

pub loop-self-init : goal.loop-self-init
loop-self-init g c = record {
  leaves = refl;
  kept = record { shape = refl; stash = refl; key = refl };
  config = refl;
  rests = λ notes r. r;
  last = omega arith;
  more = omega arith;
  counts = λ counted. counted;
  real = refl;
  passed = λ tags. none_passed (keys_of c.args.self.now.tree tags (g.L.LeafFn.leaf_of c.args.self.now.leaves))
      c.args.self.now.tree.stash c.args.self.now.clock.dummies (g.W.Watch.state c.args.bus.now.tap.now).log
      (contents_of c.args.self.now.tree (g.W.Watch.state c.args.bus.now.tap.now));
  ran = record { moves = []; events = []; ran = ran_none g.M.UntrustedMemory.state g.W.Watch.state c.args.bus.now };
}

pub dummy-requires : goal.dummy-requires
dummy-requires g c =
    let i = c.loop-self.invariant in
    record {
      rests = i.rests 0 c.requires.rests;
      early = omega (arith, c.loop-self-test.true, c.requires.in_time, ap (λ (x : Config). x.time) i.config);
    }

pub loop-self-preserved : goal.loop-self-preserved
loop-self-preserved g c =
    let i = c.loop-self.invariant in
    let d = c.dummy.ensures in
    let o = c.in-Ok.ensures in
    let t = g.W.Watch.state in
    let r = i.rests 0 c.requires.rests in
    let seeds : c.loop-self.self.tree.seed < 2 ^ 63 = omega (
      arith,
      r.is_for.seed,
      c.loop-self-test.true,
      c.requires.in_time,
      c.requires.rests.stands.step.follows.is_of.is_config.time.1,
    ) in
    let few : length c.dummy.new.self.tree.hand ≤ c.args.self.now.tree.stash = omega (
      arith,
      (o.rests 0 r).few,
      ap (λ (x : Config). x.stash) d.config,
      ap (λ (x : Config). x.stash) i.config,
      c.requires.rests.is_for.stash,
    ) in
    record {
      more = omega (arith, i.more, o.dummies);
      counts = λ counted. d.counts (i.counts counted);
      real = d.real ∙ i.real;
      passed = λ tags. dummies_more c.args.self.now.tree c.loop-self.self.tree c.dummy.new.self.tree tags
          (g.L.LeafFn.leaf_of c.args.self.now.leaves) c.loop-self.self.clock.next c.args.self.now.clock.dummies
          c.loop-self.self.clock.dummies c.dummy.new.self.clock.dummies (t c.args.bus.now.tap.now)
          (t c.loop-self.bus.tap.now) (t c.dummy.new.bus.tap.now) i.kept i.more o.dummies seeds few (i.passed tags)
          (subst (λ x. IsDummy (keys_of c.loop-self.self.tree tags (g.L.LeafFn.leaf_of x))
          (t c.loop-self.bus.tap.now).log (t c.dummy.new.bus.tap.now).log
          (contents_of c.loop-self.self.tree (t c.loop-self.bus.tap.now))
          (contents_of c.dummy.new.self.tree (t c.dummy.new.bus.tap.now)) c.loop-self.self.clock.next
          c.loop-self.self.clock.dummies) i.leaves (o.passed tags));
      leaves = d.leaves ∙ i.leaves;
      kept = record {
        shape = d.kept.shape ∙ i.kept.shape;
        stash = d.kept.stash ∙ i.kept.stash;
        key = d.kept.key ∙ i.kept.key;
      };
      config = d.config ∙ i.config;
      rests = λ notes r. o.rests notes (i.rests notes r);
      last = omega (arith, o.last, c.loop-self-test.true, ap (λ (x : Config). x.shape.levels) i.config);
      ran = ran_on g.M.UntrustedMemory.state g.W.Watch.state i.ran o.ran;
    }

pub returns-in-Err-clause-ran_err : goal.returns-in-Err-clause-ran_err
returns-in-Err-clause-ran_err g c =
    stops_on g.M.UntrustedMemory.state g.W.Watch.state c.loop-self.invariant.ran c.in-Err.ensures.ran_err

pub returns-in-Err-clause-stopped : goal.returns-in-Err-clause-stopped
returns-in-Err-clause-stopped g c =
    subst (λ (x : Config). Stopped x c.dummy.new.self.clock c.in-Err.stop
    (g.W.Watch.state c.dummy.new.bus.tap.now).log) c.loop-self.invariant.config c.in-Err.ensures.stopped

pub returns-in-Err-clause-breaks : goal.returns-in-Err-clause-breaks
returns-in-Err-clause-breaks g c tags =
    let t = g.W.Watch.state in
    let leaf_of = g.L.LeafFn.leaf_of in
    let i = c.loop-self.invariant in
    let now = c.loop-self.self in
    let stops = subst (λ x. DummyStops (keys_of now.tree tags (leaf_of x)) now.tree.stash c.in-Err.stop
    (t c.loop-self.bus.tap.now).log (t c.dummy.new.bus.tap.now).log
    (contents_of now.tree (t c.loop-self.bus.tap.now))
    (contents_of c.dummy.new.self.tree (t c.dummy.new.bus.tap.now)) now.clock.next now.clock.dummies)
    i.leaves (c.in-Err.ensures.breaks tags) in
    passes_stop c.args.self.now.tree now.tree c.dummy.new.self.tree tags (leaf_of c.args.self.now.leaves)
    c.in-Err.stop now.clock.next c.dummy.new.self.clock.next c.args.self.now.clock.dummies now.clock.dummies
    (t c.args.bus.now.tap.now) (t c.loop-self.bus.tap.now) (t c.dummy.new.bus.tap.now) i.kept i.more
    c.in-Err.ensures.next_err (i.passed tags) stops

pub returns-in-Err-clause-counts : goal.returns-in-Err-clause-counts
returns-in-Err-clause-counts g c counted = c.dummy.ensures.counts (c.loop-self.invariant.counts counted)
