use Rattle.bus_trace.specs.Trace.{lists_of}
use Rattle.trace_checker.specs.Steps.{Knows}
use Rattle.trace_checker.proofs.checking.check.Given as goal

abbrev pub invariant-loop-index : goal.invariant-loop-index
invariant-loop-index l = Knows (lists_of l.trace) l.index l.progress
