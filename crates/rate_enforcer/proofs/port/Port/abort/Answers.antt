use Rattle.std.proofs.Common.{◌+◌, ◌*◌, Some, refl, ap, arith}
use Rattle.rate_enforcer.proofs.StateLaws.{given_up}
use Rattle.rate_enforcer.specs.declared.clock.Clock.{Clock}
use Rattle.rate_enforcer.proofs.Steps.{of_slot}
use Rattle.rate_enforcer.proofs.port.Port.abort.Goals as goal

pub returns-clause-pace : goal.returns-clause-pace
returns-clause-pace g c notes memory tap o = given_up c.args.slot _ o (omega arith)

pub returns-clause-step : goal.returns-clause-step
returns-clause-step g c memory tap =
    let clock = c.args.self.now.clock in
    let slot = c.args.slot in
    let end = slot.start + 40 * (c.from.result + 1) in
    let path = c.requires.is_open.path in (
      refl,
      record {
        path = record { start = slot.start; leaf = slot.leaf };
        on = path;
        end_is = omega arith;
        clock = ap (λ s. let k : Clock = record clock { last = end; stop = Some s } in k) c.earlier-kept.ensures;
        tree = refl;
        memory = refl;
        tap = refl;
        pace = λ notes leaf o. given_up slot end (of_slot slot o.slot path o.opens) (omega arith);
      },
    )
