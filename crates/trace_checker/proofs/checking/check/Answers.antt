use Rattle.bus_trace.specs.Trace.{lists_of}
use Rattle.trace_checker.proofs.VerdictLaws.{first_known}
use Rattle.trace_checker.proofs.checking.check.Goals as goal

pub loop-index-init : goal.loop-index-init
loop-index-init c =
    first_known (lists_of c.args.trace.now) c.first-progress.result c.requires.ranges c.first-progress.ensures
