use Rattle.std.proofs.Common.{inr}
use Rattle.ascend_top.specs.FlatRun.{outcome_report}
use Rattle.ascend_top.proofs.commands.flat.run_and_report.Goals as goal

pub returns-in-Err-report : goal.returns-in-Err-report
returns-in-Err-report g c = inr (outcome_report c.in-Ok.outcome, c.in-Ok.ensures, c.in-Err-report.ensures.refused)
