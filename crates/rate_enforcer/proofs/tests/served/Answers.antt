use Rattle.std.proofs.Common.{arith}
use Rattle.rate_enforcer.proofs.StateLaws.{opens_less}
use Rattle.rate_enforcer.proofs.tests.served.Goals as goal

pub close-requires : goal.close-requires
close-requires g c =
    let going = c.in-Ok.ensures.step.1.going in
    record { opens = opens_less 0 (omega arith) (c.in-Ok.ensures.opens 0 (c.requires going)) }

pub returns-in-Ok-close : goal.returns-in-Ok-close
returns-in-Ok-close g c none =
    let going = c.in-Ok.ensures.step.1.going in
    c.in-Ok-close.ensures.rests 0 (opens_less 0 (omega arith) (c.in-Ok.ensures.opens 0 (c.requires going)))
