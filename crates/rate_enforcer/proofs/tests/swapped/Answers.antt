use Rattle.std.proofs.Common.{length, ap, arith}
use Rattle.asc_base.proofs.ShapeFacts.{shape_layered}
use Rattle.rate_enforcer.proofs.StateLaws.{opens_less}
use Rattle.rate_enforcer.proofs.tests.swapped.Goals as goal

pub take-requires : goal.take-requires
take-requires g c =
    record { is_open = (c.in-Ok.ensures.opens 0 (c.requires.rests c.in-Ok.ensures.step.1.going)).is_open }

pub close-requires : goal.close-requires
close-requires g c =
    let o = opens_less 0 (omega arith) (c.in-Ok.ensures.opens 0 (c.requires.rests c.in-Ok.ensures.step.1.going)) in
    record { opens = c.take.ensures.opens 0 _ _ o }

pub returns-in-Ok-close : goal.returns-in-Ok-close
returns-in-Ok-close g c none =
    let o = opens_less 0 (omega arith) (c.in-Ok.ensures.opens 0 (c.requires.rests c.in-Ok.ensures.step.1.going)) in
    c.in-Ok-close.ensures.rests 0 (c.take.ensures.opens 0 _ _ o)

pub put-requires-clause-is_open : goal.put-requires-clause-is_open
put-requires-clause-is_open g c =
    let o = opens_less 0 (omega arith) (c.in-Ok.ensures.opens 0 (c.requires.rests c.in-Ok.ensures.step.1.going)) in
    (c.take.ensures.opens 0 _ _ o).is_open

pub put-requires-clause-few : goal.put-requires-clause-few
put-requires-clause-few g c =
    let r = c.requires.rests c.in-Ok.ensures.step.1.going in
    let config = r.stands.step.follows.is_of.is_config in
    let same = c.in-None.ensures.none in
    omega (
      arith,
      c.in-Ok.ensures.few,
      config.stash,
      (shape_layered c.args.port.now.clock.config.shape config.is_shape).levels_to,
      ap (λ p. length p.tree.hand) same,
    )

pub close-requires-2 : goal.close-requires-2
close-requires-2 g c =
    let o = opens_less 0 (omega arith) (c.in-Ok.ensures.opens 0 (c.requires.rests c.in-Ok.ensures.step.1.going)) in
    record { opens = c.put.ensures.opens 0 _ _ (c.take.ensures.opens 0 _ _ o) }

pub returns-in-Ok-close-2 : goal.returns-in-Ok-close-2
returns-in-Ok-close-2 g c none =
    let o = opens_less 0 (omega arith) (c.in-Ok.ensures.opens 0 (c.requires.rests c.in-Ok.ensures.step.1.going)) in
    c.in-Ok-close-2.ensures.rests 0 (c.put.ensures.opens 0 _ _ (c.take.ensures.opens 0 _ _ o))
