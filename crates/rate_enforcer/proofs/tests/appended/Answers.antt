use Rattle.std.proofs.Common.{arith}
use Rattle.rate_enforcer.proofs.StateLaws.{opens_less}
use Rattle.rate_enforcer.proofs.tests.appended.Goals as goal

pub close-requires : goal.close-requires
close-requires g c =
    let going = c.in-Ok.ensures.step.1.going in
    record { opens = opens_less 0 (omega arith) (c.in-Ok.ensures.opens 0 (c.requires.rests going)) }

pub returns-in-Ok-append : goal.returns-in-Ok-append
returns-in-Ok-append g c none =
    let going = c.in-Ok.ensures.step.1.going in
    c.in-Ok-append.ensures.rests 0 (g.M.UntrustedMemory.state c.close.new.bus.memory.now)
    (g.W.Watch.state c.close.new.bus.tap.now)
    (c.in-Ok-close.ensures.rests 0
    (opens_less 0 (omega arith) (c.in-Ok.ensures.opens 0 (c.requires.rests going))))
