use Rattle.std.proofs.Common.{sym, ◌∙◌, get_or}
use Rattle.std.proofs.lemmas.Int.Digits.{digits_more}
use Rattle.bus_trace.proofs.NumberLaws.{digit_has_value, ends_here}
use Rattle.bus_trace.proofs.number.digits_first.Goals as goal

pub loop-place-preserved : goal.loop-place-preserved
loop-place-preserved c =
    digits_more 10 c.args.text.now c.loop-place.place c.loop-place-test.true c.loop-place.invariant
    (digit_has_value (get_or c.args.text.now c.loop-place.place 0)
    (sym c.is_ascii_digit.ensures.value ∙ c.if-not-is_ascii_digit.false))

pub returns-then-not-is_ascii_digit-clause-ends : goal.returns-then-not-is_ascii_digit-clause-ends
returns-then-not-is_ascii_digit-clause-ends c =
    ends_here c.args.text.now c.loop-place.place c.loop-place-test.true
    (sym c.is_ascii_digit.ensures.value ∙ c.if-not-is_ascii_digit.true)
