use Rattle.std.proofs.Common.{sym, ◌∙◌, [], ◌∷◌}
use Rattle.bus_trace.specs.Trace.{spaced}
use Rattle.bus_trace.proofs.NumberLaws.{behind_is, spaced_none, spaced_tells, something_left, nothing_left, one_is}
use Rattle.bus_trace.proofs.number.one_number.Goals as goal

pub returns-in_err-behind : goal.returns-in_err-behind
returns-in_err-behind c =
    rw c.from_residual.ensures (λ n short same. c.in_err-behind.ensures (spaced (n ∷ [])) same)

pub returns-in_err-number : goal.returns-in_err-number
returns-in_err-number c =
    let after = c.in_ok-behind.field-0.now in
    rw c.from_residual-in_err-number.ensures (λ n short same.
    spaced_none after c.in_err-number.ensures n []
    short (behind_is c.args.text.now c.args.word.now after (n ∷ []) c.in_ok-behind.ensures same))

pub returns-then-not-is_empty : goal.returns-then-not-is_empty
returns-then-not-is_empty c = λ n short same.
    let after = c.in_ok-behind.field-0.now in
    something_left c.in_ok-number.rest.now (sym c.is_empty.ensures ∙ c.if-not-is_empty.true)
    (spaced_tells after c.in_ok-number.number n c.in_ok-number.rest.now [] c.in_ok-number.ensures short
    (behind_is c.args.text.now c.args.word.now after (n ∷ []) c.in_ok-behind.ensures same)).1

pub returns : goal.returns
returns c = (
  c.in_ok-number.ensures.short,
  one_is c.args.text.now c.args.word.now c.in_ok-behind.field-0.now
      c.in_ok-number.number c.in_ok-number.rest.now c.in_ok-behind.ensures c.in_ok-number.ensures
      (nothing_left c.in_ok-number.rest.now (sym c.is_empty.ensures ∙ c.if-not-is_empty.false)),
)
