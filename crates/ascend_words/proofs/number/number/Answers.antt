use Rattle.std.proofs.Common.{sym, ◌∙◌, ap, ◌≡◌, true, false}
use Rattle.ascend_words.specs.Numbers.{is_number}
use Rattle.ascend_words.proofs.NumberLaws.{parsed, not_number}
use Rattle.ascend_words.proofs.number.number.Goals as goal

-- whether the text is a number
pub returns : goal.returns
returns c =
    let is : is_number c.args.text.now ≡ true = ap is_number (sym c.as_bytes.ensures.value) ∙ sym c.is_number.ensures
    ∙ c.if-not-is_number.false in
    c.ok.ensures.value ∙ parsed c.args.text.now c.parse.result c.parse.ensures.value.0 is

pub returns-then-not-is_number : goal.returns-then-not-is_number
returns-then-not-is_number c =
    let is : is_number c.args.text.now ≡ false = ap is_number (sym c.as_bytes.ensures.value)
    ∙ sym c.is_number.ensures ∙ c.if-not-is_number.true in
    not_number c.args.text.now is
