use Rattle.std.proofs.Common.{◌≡◌, max, refl, subst, arith, rules}
use Rattle.asc_base.specs.declared.settings.Config.{Config}
use Rattle.epoch_learner.specs.Stands.{KeepsPace}
use Rattle.rate_enforcer.proofs.StateLaws.{pace_between, rests_apart}
use Rattle.std.proofs.Common.{inr}
use Rattle.rate_enforcer.specs.State.{Rests}
use Rattle.rate_enforcer.proofs.Steps.{used_so}
use Rattle.rate_enforcer.proofs.port.Port.idle_until.Goals as goal

pub returns-clause-pace : goal.returns-clause-pace
returns-clause-pace g c =
    let now = c.pass_until.new.self.clock in
    let is : c.max.result ≡ max c.args.time now.last = grind arith in
    let r = c.in-Ok.ensures.rests 0 (c.requires.rests (search rules)) in
    let apart = rests_apart r in
    subst (λ (x : Config). KeepsPace x c.max.result (g.W.Watch.state c.pass_until.new.bus.tap.now).log)
    c.pass_until.ensures.config
    (pace_between c.max.result r (omega (arith, is)) (omega (arith, is, apart, c.in-Ok.ensures.reached)))

pub returns-in-Err-clause-step : goal.returns-in-Err-clause-step
returns-in-Err-clause-step g c =
    let ran = c.in-Err.ensures.ran_err in
    inr (record {
      going = search rules;
      early = c.in-Err.ensures.early;
      same = record { config = c.pass_until.ensures.config; tree = c.pass_until.ensures.kept };
      end = ran.end;
      is_end = ran.is_end;
      used = used_so g.M.UntrustedMemory.state g.W.Watch.state c.args.bus.now c.pass_until.new.bus
          c.args.self.now.clock c.pass_until.new.self.clock c.args.self.now.tree c.pass_until.new.self.tree ran.ran;
      stopped = c.in-Err.ensures.stopped;
      real = c.pass_until.ensures.real;
      counts = c.pass_until.ensures.counts;
      breaks = c.in-Err.ensures.breaks;
    })

pub returns-clause-step : goal.returns-clause-step
returns-clause-step g c =
    let now = c.pass_until.new.self in
    let is : c.max.result ≡ max c.args.time now.clock.last = grind arith in (
      refl,
      record {
        going = search rules;
        same = record { config = c.pass_until.ensures.config; tree = c.pass_until.ensures.kept };
        used = used_so g.M.UntrustedMemory.state g.W.Watch.state c.args.bus.now c.pass_until.new.bus
            c.args.self.now.clock now.clock c.args.self.now.tree now.tree c.in-Ok.ensures.ran;
        rests = λ notes r. subst (λ x. Rests notes now.clock now.tree (g.L.LeafFn.levels x)
            (g.M.UntrustedMemory.state c.pass_until.new.bus.memory.now) (g.W.Watch.state c.pass_until.new.bus.tap.now))
            c.pass_until.ensures.leaves (c.in-Ok.ensures.rests notes r);
        end_is = is;
        reached = c.in-Ok.ensures.reached;
        early = c.in-Ok.ensures.last;
        more = c.in-Ok.ensures.more;
        real = c.pass_until.ensures.real;
        counts = c.pass_until.ensures.counts;
        passed = λ tags. (c.in-Ok.ensures.passed tags).0;
        few = λ tags. (c.in-Ok.ensures.passed tags).1;
        pace = returns-clause-pace g c;
      },
    )
