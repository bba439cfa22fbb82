use Rattle.std.proofs.Common.{ap, sym, ◌∙◌, ◌*◌, arith}
use Rattle.bus_schedule.specs.Timetable.{bits_of}
use Rattle.bus_trace.specs.Trace.{public_of}
use Rattle.bus_schedule.proofs.ChoiceLaws.{bits_of-is}
use Rattle.trace_checker.proofs.HeaderLaws.{bits_few}
use Rattle.trace_checker.proofs.checking.bits.Goals as goal

pub overflow_mul-result : goal.overflow_mul-result
overflow_mul-result c =
    let is = bits_of-is c.args.header.now.rates.count c.ilog2.result c.ilog2.ensures.power_le
    c.ilog2.ensures.next_power_gt in
    omega (
      arith,
      bits_few (public_of c.args.header.now) c.args.choices c.requires.header c.requires.choices,
      ap (λ b. c.args.choices * b) (sym is ∙ ap bits_of c.requires.count),
    )

pub returns : goal.returns
returns c =
    ap (λ b. c.args.choices * b)
    (sym (bits_of-is c.args.header.now.rates.count c.ilog2.result c.ilog2.ensures.power_le
    c.ilog2.ensures.next_power_gt) ∙ ap bits_of c.requires.count)
