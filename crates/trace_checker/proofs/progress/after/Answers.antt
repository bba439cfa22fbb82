use Rattle.std.proofs.Common.{refl, sym, ◌∙◌, arith}
use Rattle.bus_trace.specs.Trace.{public_of}
use Rattle.trace_checker.proofs.HeaderLaws.{rate_is, some_count, falls_is}
use Rattle.trace_checker.proofs.progress.after.Goals as goal

pub returns-then-choice_falls : goal.returns-then-choice_falls
returns-then-choice_falls c = record {
  code_is = refl;
  next = (
    falls_is (public_of c.args.header.now) c.args.timing.now c.args.slot.beat c.requires.timing
        ∙ sym c.choice_falls.ensures ∙ c.if-choice_falls.true,
    refl,
  );
}

pub returns : goal.returns
returns c =
    let some = some_count (public_of c.args.header.now) c.requires.header in
    record {
      code_is = refl;
      next = (
        falls_is (public_of c.args.header.now) c.args.timing.now c.args.slot.beat c.requires.timing
            ∙ sym c.choice_falls.ensures ∙ c.if-choice_falls.false,
        c.next_slot.ensures (public_of c.args.header.now) 0 c.requires.timing
            (sym (rate_is c.args.header.now 0 (omega (arith, some, c.requires.count)))),
      );
    }
