use Rattle.std.proofs.Common.{arith, ◌≡◌, ◌<◌, length, get_or, ap, ◌∙◌, sym}
use Rattle.bus_trace.proofs.NumberLaws.{number_nonempty, number_few, number_first, is_number, ten_digits, nothing_left}
use Rattle.bus_trace.proofs.NumberLaws.{some_left}
use Rattle.bus_trace.proofs.number.number.Goals as goal
use Rattle.bus_trace.proofs.number.number.Goals.{else-digits-eq-ZERO-via-then-digits-eq-ZERO+else-digits-gt1}
use Rattle.bus_trace.proofs.number.number.Goals.{else-digits-eq-ZERO-via-else-digits-eq-ZERO}

pub returns-then-is_empty : goal.returns-then-is_empty
returns-then-is_empty c = λ n short same.
    let nil = nothing_left c.args.digits.now (sym c.is_empty.ensures ∙ c.if-is_empty.true) in
    omega (arith, number_nonempty n short, ap length same, ap length nil)

pub returns-then-digits-gt10 : goal.returns-then-digits-gt10
returns-then-digits-gt10 c = λ n short same. omega (arith, number_few n short, ap length same)

pub returns-then-digits-gt1 : goal.returns-then-digits-gt1
returns-then-digits-gt1 c = λ n short same.
    omega (arith, number_first n short (ap (λ ds. get_or ds 0 0) (sym same) ∙ c.if-digits-eq-ZERO.true), ap length same)

pub returns : goal.returns
returns c =
    let ds = c.args.digits.now in
    let some : 0 < length ds = some_left ds (sym c.is_empty.ensures ∙ c.if-is_empty.false) in
    let first : get_or ds 0 0 ≡ 48 → length ds ≡ 1 = λ zero. elim c.else-digits-eq-ZERO.branch [
      | else-digits-eq-ZERO-via-then-digits-eq-ZERO+else-digits-gt1 w ↦ omega (arith, w.if-digits-gt1.false)
      | else-digits-eq-ZERO-via-else-digits-eq-ZERO w ↦ absurd (w.if-digits-eq-ZERO.false zero)
    ] in
    rw c.value.ensures
    (ten_digits ds c.requires c.if-digits-gt10.false, is_number ds c.requires some c.if-digits-gt10.false first)
