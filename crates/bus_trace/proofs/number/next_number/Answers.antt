use Rattle.std.proofs.Common.{ap, ◌∙◌, ◌∷◌, ◌++◌}
use Rattle.bus_trace.proofs.NumberLaws.{no_number}
use Rattle.bus_trace.proofs.number.next_number.Goals as goal

pub returns-in_err-digits : goal.returns-in_err-digits
returns-in_err-digits c = rw c.from_residual.ensures (λ n rest begins. c.in_err-digits.ensures _ begins.parts)

pub returns-in_err-number : goal.returns-in_err-number
returns-in_err-number c =
    rw c.from_residual-in_err-number.ensures
    (no_number c.args.text.now c.split_at.result.0.now c.split_at.result.1.now
    (c.in_ok-digits.ensures ∙ ap (λ t. 32 ∷ t) c.split_at.ensures.by_index.0)
    (rw c.split_at.ensures.front c.digits_first.ensures.digits)
    (rw c.split_at.ensures.back c.digits_first.ensures.ends)
    c.in_err-number.ensures)

pub returns : goal.returns
returns c = record {
  short = c.in_ok-number.ensures.0;
  parts = c.in_ok-digits.ensures ∙ ap (λ t. 32 ∷ t) c.split_at.ensures.by_index.0
      ∙ ap (λ t. 32 ∷ (t ++ c.split_at.result.1.now)) c.in_ok-number.ensures.1;
  ends = rw c.split_at.ensures.back c.digits_first.ensures.ends;
}
