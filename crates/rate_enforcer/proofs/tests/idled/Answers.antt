use Rattle.rate_enforcer.proofs.tests.idled.Goals as goal

pub returns-in-Ok : goal.returns-in-Ok
returns-in-Ok g c none = c.in-Ok.ensures.rests 0 (c.requires c.in-Ok.ensures.step.1.going)
