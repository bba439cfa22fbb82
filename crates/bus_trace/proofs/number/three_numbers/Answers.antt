use Rattle.std.proofs.Common.{sym, ◌∙◌, [], ◌∷◌}
use Rattle.bus_trace.specs.Trace.{spaced}
use Rattle.bus_trace.proofs.NumberLaws.{behind_is, spaced_none, spaced_tells, something_left, nothing_left, three_are}
use Rattle.bus_trace.proofs.number.three_numbers.Goals as goal

pub returns-in_err-behind : goal.returns-in_err-behind
returns-in_err-behind c =
    rw c.from_residual.ensures (λ x y z sx sy sz same. c.in_err-behind.ensures (spaced (x ∷ y ∷ z ∷ [])) same)

pub returns-in_err-first : goal.returns-in_err-first
returns-in_err-first c =
    let after = c.in_ok-behind.field-0.now in
    rw c.from_residual-in_err-first.ensures (λ x y z sx sy sz same.
    spaced_none after c.in_err-first.ensures x (y ∷ z ∷ [])
    sx (behind_is c.args.text.now c.args.word.now after (x ∷ y ∷ z ∷ []) c.in_ok-behind.ensures same))

pub returns-in_err-second : goal.returns-in_err-second
returns-in_err-second c =
    let after = c.in_ok-behind.field-0.now in
    let rest = c.in_ok-first.rest.now in
    rw c.from_residual-in_err-second.ensures (λ x y z sx sy sz same.
    let all = behind_is c.args.text.now c.args.word.now after (x ∷ y ∷ z ∷ []) c.in_ok-behind.ensures same in
    let one = spaced_tells after c.in_ok-first.first x rest (y ∷ z ∷ []) c.in_ok-first.ensures sx all in
    spaced_none rest c.in_err-second.ensures y (z ∷ []) sy one.1)

pub returns-in_err-third : goal.returns-in_err-third
returns-in_err-third c =
    let after = c.in_ok-behind.field-0.now in
    let rest = c.in_ok-first.rest.now in
    rw c.from_residual-in_err-third.ensures (λ x y z sx sy sz same.
    let all = behind_is c.args.text.now c.args.word.now after (x ∷ y ∷ z ∷ []) c.in_ok-behind.ensures same in
    let one = spaced_tells after c.in_ok-first.first x rest (y ∷ z ∷ []) c.in_ok-first.ensures sx all in
    let two = spaced_tells rest c.in_ok-second.second y c.in_ok-second.rest.now (z ∷ []) c.in_ok-second.ensures sy
    one.1 in
    spaced_none c.in_ok-second.rest.now c.in_err-third.ensures z [] sz two.1)

pub returns-then-not-is_empty : goal.returns-then-not-is_empty
returns-then-not-is_empty c = λ x y z sx sy sz same.
    let after = c.in_ok-behind.field-0.now in
    let rest = c.in_ok-first.rest.now in
    let all = behind_is c.args.text.now c.args.word.now after (x ∷ y ∷ z ∷ []) c.in_ok-behind.ensures same in
    let one = spaced_tells after c.in_ok-first.first x rest (y ∷ z ∷ []) c.in_ok-first.ensures sx all in
    let two = spaced_tells rest c.in_ok-second.second y c.in_ok-second.rest.now (z ∷ []) c.in_ok-second.ensures sy
    one.1 in
    let three = spaced_tells c.in_ok-second.rest.now c.in_ok-third.third z c.in_ok-third.rest.now []
    c.in_ok-third.ensures sz two.1 in
    something_left c.in_ok-third.rest.now (sym c.is_empty.ensures ∙ c.if-not-is_empty.true) three.1

pub returns : goal.returns
returns c = (
  c.in_ok-first.ensures.short,
  c.in_ok-second.ensures.short,
  c.in_ok-third.ensures.short,
  three_are c.args.text.now c.args.word.now c.in_ok-behind.field-0.now
      c.in_ok-first.first c.in_ok-second.second c.in_ok-third.third
      c.in_ok-first.rest.now c.in_ok-second.rest.now c.in_ok-third.rest.now c.in_ok-behind.ensures c.in_ok-first.ensures
      c.in_ok-second.ensures c.in_ok-third.ensures
      (nothing_left c.in_ok-third.rest.now (sym c.is_empty.ensures ∙ c.if-not-is_empty.false)),
)
