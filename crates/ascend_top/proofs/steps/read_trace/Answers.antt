use Rattle.ascend_top.proofs.StepLaws.{read_done, trace_fails}
use Rattle.ascend_top.specs.declared.refusal.Source.TheVariants.{Trace as TraceFile}
use Rattle.trace_checker.specs.declared.verdict.Verdict.TheVariants.{Holds, Fails}
use Rattle.bus_trace.specs.Trace.{lists_of}
use Rattle.std.proofs.Common.{subst}
use Rattle.ascend_top.specs.Steps.{ATrace, IsChecked}
use Rattle.ascend_top.proofs.steps.read_trace.Goals as goal

pub returns-in-Err-clause-refused : goal.returns-in-Err-clause-refused
returns-in-Err-clause-refused g c = c.in-Err.ensures.refused ATrace

pub returns-in-Holds-clause-read : goal.returns-in-Holds-clause-read
returns-in-Holds-clause-read g c =
    read_done TraceFile c.args.name.now c.in-Ok.file.items ATrace (g.H.Host.state c.args.host.now)
    (g.H.Host.state c.read_file.new.host) c.in-Ok.ensures.read (
      c.in-Holds.code,
      c.in-Holds.bits,
      subst (λ bytes. IsChecked bytes (Holds c.in-Holds.code c.in-Holds.bits)) c.as_slice.ensures.value (record {
        trace = lists_of c.in-Ok-read.trace;
        is = c.in-Ok-read.ensures.trace;
        says = c.in-Holds.ensures;
      }),
    )

pub returns-clause-refused : goal.returns-clause-refused
returns-clause-refused g c =
    trace_fails TraceFile c.args.name.now c.in-Ok.file.items ATrace (g.H.Host.state c.args.host.now)
    (g.H.Host.state c.read_file.new.host) c.in-Ok.ensures.read c.in-Fails.line c.in-Fails.found c.in-Fails.wanted
    (subst (λ bytes. IsChecked bytes (Fails c.in-Fails.line c.in-Fails.found c.in-Fails.wanted))
    c.as_slice.ensures.value (record {
      trace = lists_of c.in-Ok-read.trace;
      is = c.in-Ok-read.ensures.trace;
      says = c.in-Fails.ensures;
    }))
