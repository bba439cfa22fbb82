use Rattle.std.proofs.Common.{◌∙◌, ◌++◌, ap}
use Rattle.bus_trace.specs.OfLog.{trace_of}
use Rattle.bus_trace.specs.Trace.{trace_text}
use Rattle.bus_watch.specs.Recorder.{lists_of}
use Rattle.ascend_top.proofs.TraceLaws.{rates_few, ranges_are}
use Rattle.bus_schedule.specs.Timetable.{public_of}
use Rattle.ascend_top.proofs.traces.text_of.Goals as goal

pub print-requires-clause-count : goal.print-requires-clause-count
print-requires-clause-count c = rates_few c.args.config.now c.requires.config

pub print-requires-clause-ranges : goal.print-requires-clause-ranges
print-requires-clause-ranges c =
    ranges_are c.args.config.now (lists_of c.args.log.now) c.args.end c.requires.config c.requires.scheduled
    c.requires.in_time c.requires.leaves

pub returns-in-Ok : goal.returns-in-Ok
returns-in-Ok c = record {
  ranges = ranges_are c.args.config.now (lists_of c.args.log.now) c.args.end c.requires.config c.requires.scheduled
      c.requires.in_time c.requires.leaves;
  lines = c.in-Ok.ensures.ok ∙ ap (λ l. l ++ trace_text (trace_of (public_of c.args.config.now)
      (lists_of c.args.log.now) c.args.end)) c.new-text.ensures.items;
}
