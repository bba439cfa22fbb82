use Rattle.std.proofs.Common.{inl, inr, refl}
use Rattle.ascend_top.proofs.commands.run.run_and_report.Goals as goal

pub returns-in-Err-report : goal.returns-in-Err-report
returns-in-Err-report g c = inr (c.in-Ok.run', c.in-Ok.ensures.ran, c.in-Err-report.ensures.refused)

pub returns-in-Err : goal.returns-in-Err
returns-in-Err g c = inl (refl, refl, c.in-Err.ensures.wanting)
