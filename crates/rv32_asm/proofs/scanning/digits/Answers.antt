use Rattle.std.proofs.Common.{arith, ◌≡◌, ◌<◌, ◌∷◌, ◌∙◌, ap, suc, refl, drop, length, add-one}
use Rattle.std.specs.Prelude.{get_or}
use Rattle.std.specs.Char.{digit_value}
use Rattle.std.proofs.Math.Seq.{drop-cons}
use Rattle.std.proofs.lemmas.Grind.{common_steps}
use Rattle.rv32_asm.proofs.Digits.{times_small, room, read_more}
use Rattle.rv32_asm.proofs.scanning.digits.Goals as goal

pub overflow_mul-number : goal.overflow_mul-number
overflow_mul-number c =
    omega (
      arith,
      times_small c.loop-byte.number c.loop-byte.byte-index c.from-in-loop-byte.result
          c.loop-byte.invariant.small (omega arith) (omega arith),
    )

pub overflow_add-number : goal.overflow_add-number
overflow_add-number c =
    omega (
      arith,
      times_small c.loop-byte.number c.loop-byte.byte-index c.from-in-loop-byte.result
          c.loop-byte.invariant.small (omega arith) (omega arith),
    )

pub loop-byte-preserved : goal.loop-byte-preserved
loop-byte-preserved c =
    let text = c.args.text.now in
    let index = c.loop-byte.byte-index in
    let byte = c.from.result in
    let inside : index < length text = omega arith in
    let same : get_or text index 0 ≡ byte = grind (arith, common_steps) in
    let here : drop index text ≡ byte ∷ drop (suc index) text =
    drop-cons text index 0 inside ∙ ap (λ b. b ∷ drop (suc index) text) same in
    let value : (digit_value byte < c.args.radix) × (c.in_ok-digit.digit ≡ digit_value byte) =
    c.in_ok-digit.ensures.value in
    rw (add-one, c.from-in-loop-byte.ensures, c.from-in-loop-byte-2.ensures, value.1)
    (read_more c.args.radix text index c.loop-byte.number byte (drop (suc index) text) c.loop-byte.invariant
    c.requires.radix here refl value.0)

pub returns-clause-small : goal.returns-clause-small
returns-clause-small c = room c.loop-byte.number c.loop-byte.byte-index c.loop-byte.invariant.small (omega arith)
