use Rattle.bus_schedule.specs.Scheduled.{log_code}
use Rattle.bus_trace.specs.OfLog.{trace_of}
use Rattle.trace_checker.proofs.OfLog.{scheduled_fits}
use Rattle.trace_checker.proofs.Verdicts.{fit_holds}
use Rattle.trace_checker.proofs.laws.scheduled_logs_hold.Goals as goal

pub returns-clause-fits : goal.returns-clause-fits
returns-clause-fits c = scheduled_fits

pub returns-clause-holds : goal.returns-clause-holds
returns-clause-holds c = λ p end log verdict scheduled says.
    fit_holds (trace_of p log end) (log_code p log) verdict (scheduled_fits p end log scheduled) says
