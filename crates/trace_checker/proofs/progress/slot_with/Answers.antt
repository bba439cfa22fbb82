use Rattle.std.proofs.Common.{refl, sym, ap, subst, ◌∙◌, ◌≤◌, ◌^◌, ◌+◌, ◌*◌, arith}
use Rattle.bus_trace.specs.Trace.{public_of}
use Rattle.trace_checker.proofs.HeaderLaws.{some_count, codes_fit}
use Rattle.trace_checker.proofs.progress.slot_with.Goals as goal

pub with_digit-requires-clause-fits : goal.with_digit-requires-clause-fits
with_digit-requires-clause-fits c =
    subst (λ n. n ^ (c.args.before.choices + 1) ≤ 2 ^ 60) (sym c.requires.count)
    (codes_fit (public_of c.args.header.now) (c.args.before.choices + 1) c.requires.header
    (omega (arith, c.requires.sound.2)))

pub shared_ref_as_front-rates : goal.shared_ref_as_front-rates
shared_ref_as_front-rates c =
    omega (arith, some_count (public_of c.args.header.now) c.requires.header, c.requires.count)

pub returns : goal.returns
returns c = record {
  index = c.in_ok-index.index;
  within = c.in_ok-index.ensures.some.0;
  starts = omega (arith, c.in_ok-index.ensures.some.1, c.olat.ensures);
  code_is = c.with_digit.ensures
      ∙ ap (λ n. c.args.code + c.in_ok-index.index * n ^ c.args.before.choices) c.requires.count;
  beat_is = c.next_slot.ensures (public_of c.args.header.now) c.in_ok-index.index c.requires.timing refl;
}
