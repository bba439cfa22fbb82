use Rattle.std.proofs.Common.{arith}
use Rattle.std.proofs.lemmas.Str.Parse.{digit_at}
use Rattle.bus_trace.proofs.NumberLaws.{grows_to, one_more_digit}
use Rattle.bus_trace.proofs.number.value.Goals as goal

pub overflow_sub-digit : goal.overflow_sub-digit
overflow_sub-digit c =
    omega (arith, digit_at c.args.digits.now c.loop-digit.digit-index c.requires.digits c.loop-digit-test.true)

pub overflow_mul-value : goal.overflow_mul-value
overflow_mul-value c =
    omega (
      arith,
      c.loop-digit.invariant,
      grows_to c.args.digits.now c.loop-digit.digit-index c.requires.digits
          c.requires.few c.loop-digit-test.true,
    )

pub overflow_add-value : goal.overflow_add-value
overflow_add-value c =
    omega (
      arith,
      c.loop-digit.invariant,
      grows_to c.args.digits.now c.loop-digit.digit-index c.requires.digits
          c.requires.few c.loop-digit-test.true,
    )

pub loop-digit-preserved : goal.loop-digit-preserved
loop-digit-preserved c =
    omega (
      arith,
      c.loop-digit.invariant,
      c.from.ensures,
      one_more_digit c.args.digits.now c.loop-digit.digit-index c.requires.digits c.loop-digit-test.true,
    )
