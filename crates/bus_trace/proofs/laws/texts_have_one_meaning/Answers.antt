use Rattle.std.proofs.Common.{refl}
use Rattle.bus_trace.specs.OfLog.{trace_of}
use Rattle.bus_trace.specs.Trace.{trace_text}
use Rattle.bus_trace.proofs.OneTrace.{no_fault, one_trace}
use Rattle.bus_trace.proofs.OneFault.{one_fault}
use Rattle.bus_trace.proofs.PlaceLaws.{trace_is_form}
use Rattle.bus_trace.proofs.laws.texts_have_one_meaning.Goals as goal

pub returns-clause-one_trace : goal.returns-clause-one_trace
returns-clause-one_trace c = one_trace

pub returns-clause-printed : goal.returns-clause-printed
returns-clause-printed c = λ p log end t ranges is.
    one_trace (trace_text (trace_of p log end)) t (trace_of p log end) is (record { ranges = ranges; lines = refl })

pub returns-clause-form : goal.returns-clause-form
returns-clause-form c = trace_is_form

pub returns-clause-one_fault : goal.returns-clause-one_fault
returns-clause-one_fault c = one_fault

pub returns-clause-not_both : goal.returns-clause-not_both
returns-clause-not_both c = λ text t line kind is first. no_fault first.0 text kind t is first.1
