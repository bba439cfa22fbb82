use Rattle.rate_enforcer.proofs.tests.aborted.Goals as goal

pub abort-requires : goal.abort-requires
abort-requires g c =
    record { is_open = (c.in-Ok.ensures.opens 0 (c.requires.rests c.in-Ok.ensures.step.1.going)).is_open }
