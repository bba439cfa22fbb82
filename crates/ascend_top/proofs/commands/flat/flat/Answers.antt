use Rattle.ascend_top.specs.Parts.{program_report}
use Rattle.ascend_top.specs.Command.{run_end}
use Rattle.ascend_top.proofs.RunLaws.{flat_ends}
use Rattle.ascend_top.proofs.commands.flat.flat.Goals as goal

pub returns-in-Ok : goal.returns-in-Ok
returns-in-Ok g c =
    flat_ends c.args.words.now.given (program_report c.in-Ok.program) (run_end c.run_and_report.result)
    (g.H.Host.state c.args.host.now) (g.H.Host.state c.prepare.new.host) (g.H.Host.state c.run_and_report.new.host)
    c.in-Ok.ensures.done c.in-Ok.ensures.report c.run_and_report.ensures
