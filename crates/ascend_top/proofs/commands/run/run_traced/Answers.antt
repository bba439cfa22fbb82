use Rattle.std.proofs.Common.{inr}
use Rattle.ascend_top.proofs.commands.run.run_traced.Goals as goal

pub returns-in-Err-trace-clause-wanting : goal.returns-in-Err-trace-clause-wanting
returns-in-Err-trace-clause-wanting g c = inr (c.in-Ok.report, c.in-Ok.ensures.ran)
