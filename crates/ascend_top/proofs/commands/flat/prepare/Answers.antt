use Rattle.std.proofs.Common.{subst}
use Rattle.ascend_top.specs.Parts.{IsConfigOf}
use Rattle.ascend_top.proofs.RunLaws.{program_reports}
use Rattle.ascend_top.proofs.commands.flat.prepare.Goals as goal

pub returns-clause-report : goal.returns-clause-report
returns-clause-report g c =
    program_reports c.args.words.now.given _ c.in-Ok.config c.read_program.result
    (subst (λ settings. IsConfigOf settings c.in-Ok.config) c.settings.ensures c.in-Ok.ensures.config)
    c.read_program.ensures.config c.read_program.ensures.told
