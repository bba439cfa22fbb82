use Rattle.std.proofs.Common.{refl, ap, ◌∙◌, arith}
use Rattle.bus_schedule.specs.Timetable.{most_of}
use Rattle.bus_trace.specs.Trace.{public_of}
use Rattle.trace_checker.proofs.HeaderLaws.{some_count}
use Rattle.trace_checker.proofs.progress.timing_of.Goals as goal

pub most_choices-requires : goal.most_choices-requires
most_choices-requires c = omega (arith, some_count (public_of c.args.header.now) c.requires.header, c.requires.count)

pub returns : goal.returns
returns c = record {
  levels = refl;
  epoch = refl;
  most = c.most_choices.ensures ∙ ap (λ n. most_of n c.args.header.now.leak) c.requires.count;
}
