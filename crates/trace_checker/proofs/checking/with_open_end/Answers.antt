use Rattle.std.proofs.Common.{◌≡◌, ◌≤◌, ◌^◌, ◌+◌, ◌*◌, ◌-◌, length, arith, sym, ◌∙◌, ap, refl, subst}
use Rattle.bus_schedule.specs.Timetable.{count_of}
use Rattle.bus_trace.specs.Trace.{lists_of, public_of}
use Rattle.trace_checker.specs.Steps.{start_with}
use Rattle.trace_checker.proofs.HeaderLaws.{some_count, codes_fit, choices_small}
use Rattle.trace_checker.proofs.VerdictLaws.{says_open, says_open_late}
use Rattle.trace_checker.proofs.checking.with_open_end.Goals as goal

pub shared_ref_as_front-rates : goal.shared_ref_as_front-rates
shared_ref_as_front-rates c =
    omega (arith, some_count (public_of c.args.trace.now.header) c.requires.ranges.header, c.requires.count)

pub fallen_by-fell-requires : goal.fallen_by-fell-requires
fallen_by-fell-requires c =
    omega (arith, choices_small (public_of c.args.trace.now.header) c.requires.ranges.header, c.requires.sound.2)

pub bits-requires-clause-choices : goal.bits-requires-clause-choices
bits-requires-clause-choices c = omega (arith, c.fallen_by-fell.ensures.most, c.requires.sound.2)

pub with_digit-requires-clause-fits : goal.with_digit-requires-clause-fits
with_digit-requires-clause-fits c =
    subst (λ n. n ^ (c.args.before.choices + 1) ≤ 2 ^ 60) (sym c.requires.count)
    (codes_fit (public_of c.args.trace.now.header) (c.args.before.choices + 1) c.requires.ranges.header
    (omega (arith, c.requires.sound.2)))

pub returns-in_default : goal.returns-in_default
returns-in_default c =
    let t = lists_of c.args.trace.now in
    let some = some_count (public_of c.args.trace.now.header) c.requires.ranges.header in
    let end = c.args.before.next + c.olat.result in
    let wanted : end + c.from.result ≡ start_with t.header c.args.before (count_of t.header - 1) =
    omega (arith, c.from.ensures, c.olat.ensures) in
    says_open_late t (length t.accesses) c.args.code c.args.before c.line_of.result (end + c.from.result)
    c.requires.ranges refl c.requires.opened wanted
    (omega (arith, wanted, c.olat.ensures, c.in_default.ensures.none (count_of t.header - 1) (omega (arith, some))))
    (omega (arith, c.line_of.ensures, c.len.ensures))

pub returns : goal.returns
returns c =
    let t = lists_of c.args.trace.now in
    says_open t (length t.accesses) c.args.code c.args.before c.in-Some.index c.fallen_by-fell.result
    c.with_digit.result c.bits.result c.requires.ranges refl c.requires.opened c.in-Some.ensures.some.0
    (omega (arith, c.in-Some.ensures.some.1, c.olat.ensures))
    (λ lower below. omega (arith, c.in-Some.ensures.some.2 lower below, c.olat.ensures))
    (record {
      over = λ late. c.fallen_by-fell.ensures.over (omega (arith, late, c.olat.ensures));
      cut = λ early. c.fallen_by-fell.ensures.cut (omega (arith, early, c.olat.ensures));
    })
    (c.with_digit.ensures
    ∙ ap (λ n. c.args.code + c.in-Some.index * n ^ c.args.before.choices) c.requires.count)
    c.bits.ensures
