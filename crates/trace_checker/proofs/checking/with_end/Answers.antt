use Rattle.std.proofs.Common.{arith, ap, refl, subst, length}
use Rattle.bus_schedule.specs.declared.beat.Beat.{Beat}
use Rattle.bus_schedule.proofs.ChoiceLaws.{choices-few}
use Rattle.bus_trace.specs.Trace.{lists_of}
use Rattle.trace_checker.specs.Steps.{KnowsNext, KnownAt, IsSoundNext}
use Rattle.trace_checker.proofs.EndLaws.{knows_sound}
use Rattle.trace_checker.proofs.VerdictLaws.{says_known, says_late}
use Rattle.trace_checker.proofs.checking.with_end.Goals as goal

pub returns-then-beat-trace : goal.returns-then-beat-trace
returns-then-beat-trace c =
    let t = lists_of c.args.trace.now in
    let n = length t.accesses in
    let known : KnownAt t n c.args.progress.code c.in-Known.beat =
    subst (KnowsNext t n c.args.progress.code) c.in-Known.is c.requires.knows in
    says_late t n c.args.progress.code c.in-Known.beat c.line_of.result c.in-Known.beat.next refl known refl
    c.if-beat-trace.true (omega (arith, c.line_of.ensures, c.len.ensures))

pub bits-requires-clause-choices : goal.bits-requires-clause-choices
bits-requires-clause-choices c =
    let t = lists_of c.args.trace.now in
    let n = length t.accesses in
    let known : KnownAt t n c.args.progress.code c.in-Known.beat =
    subst (KnowsNext t n c.args.progress.code) c.in-Known.is c.requires.knows in
    omega (arith, ap (λ (b : Beat). b.choices) known.beat_is, choices-few t.header c.args.progress.code n)

pub with_open_end-requires-clause-sound : goal.with_open_end-requires-clause-sound
with_open_end-requires-clause-sound c =
    let t = lists_of c.args.trace.now in
    subst (IsSoundNext t.header c.args.progress.code) c.in-Open.is
    (knows_sound t (length t.accesses) c.args.progress c.requires.ranges (omega arith) c.requires.knows)

pub returns-else-beat-trace : goal.returns-else-beat-trace
returns-else-beat-trace c =
    let t = lists_of c.args.trace.now in
    let n = length t.accesses in
    let known : KnownAt t n c.args.progress.code c.in-Known.beat =
    subst (KnowsNext t n c.args.progress.code) c.in-Known.is c.requires.knows in
    says_known t n c.args.progress.code c.in-Known.beat c.bits.result c.requires.ranges refl known
    c.if-beat-trace.false c.bits.ensures
