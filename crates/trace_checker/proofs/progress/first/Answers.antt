use Rattle.std.proofs.Common.{ap, sym, arith}
use Rattle.bus_schedule.specs.declared.beat.Beat.{Beat}
use Rattle.bus_trace.specs.Trace.{public_of}
use Rattle.trace_checker.specs.declared.progress.Next.TheVariants.{Known}
use Rattle.trace_checker.proofs.HeaderLaws.{rate_is}
use Rattle.trace_checker.proofs.progress.first.Goals as goal

pub returns : goal.returns
returns c =
    ap (λ (b : Beat). record { code = 0; next = Known b }) (c.first_slot.ensures (public_of c.args.header.now)
    (sym (rate_is c.args.header.now c.args.header.now.first
    (omega (arith, c.requires.header.first, c.requires.count)))))
