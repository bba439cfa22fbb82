use Rattle.std.proofs.Common.{Ok, Err}
use Rattle.ascend_top.specs.Command.{made_by}
use Rattle.ascend_top.proofs.finish.Goals as goal

pub returns-in-Ok : goal.returns-in-Ok
returns-in-Ok g c = (Ok (made_by c.in-Ok.product), c.status.ensures, c.in-Ok.ensures)

pub returns-in-Err : goal.returns-in-Err
returns-in-Err g c =
    let ends = c.refuse.ensures in
    (Err (ends.0), ends.1, (c.in-Err.refusal, g.H.Host.state c.take_steps.new.host, c.in-Err.ensures, ends.2))
