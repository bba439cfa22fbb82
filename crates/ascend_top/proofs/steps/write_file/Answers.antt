use Rattle.ascend_top.proofs.StepLaws.{write_done}
use Rattle.ascend_top.proofs.steps.write_file.Goals as goal

pub returns-in-Ok-clause-written : goal.returns-in-Ok-clause-written
returns-in-Ok-clause-written g c =
    write_done c.args.name.now c.args.bytes.now (g.H.Host.state c.args.host.now)
    (g.H.Host.state c.write_file.new.self) c.in-Ok.ensures.written c.in-Ok.ensures.others c.in-Ok.ensures.later
    c.in-Ok.ensures.printed c.in-Ok.ensures.asked
