use Rattle.std.proofs.Common.{sym, ◌∙◌}
use Rattle.bus_trace.proofs.NumberLaws.{nothing_left, something_left}
use Rattle.bus_trace.proofs.RateLaws.{read_nothing, read_next, read_last, read_none, number_shrinks}
use Rattle.bus_trace.proofs.rates.numbers.Goals as goal

pub loop-number-init : goal.loop-number-init
loop-number-init c = read_nothing c.args.text.now c.nothing-found.result c.nothing-found.ensures

pub loop-number-preserved : goal.loop-number-preserved
loop-number-preserved c =
    read_next c.args.text.now c.loop-number.found c.with_number-found.result c.loop-number.rest.now
    c.in_ok-number.after.now
    c.in_ok-number.number c.loop-number.invariant c.in_ok-number.ensures
    (something_left c.in_ok-number.after.now (sym c.is_empty.ensures ∙ c.if-is_empty.false)) c.with_number-found.ensures

pub loop-number-smaller : goal.loop-number-smaller
loop-number-smaller c =
    number_shrinks c.loop-number.rest.now c.in_ok-number.after.now c.in_ok-number.number c.in_ok-number.ensures

pub returns-in_err-number : goal.returns-in_err-number
returns-in_err-number c =
    rw c.from_residual.ensures
    (read_none c.args.text.now c.loop-number.found c.loop-number.rest.now c.loop-number.invariant
    c.in_err-number.ensures)

pub returns-then-is_empty : goal.returns-then-is_empty
returns-then-is_empty c =
    read_last c.args.text.now c.loop-number.found c.with_number-found.result c.loop-number.rest.now
    c.in_ok-number.after.now
    c.in_ok-number.number c.loop-number.invariant c.in_ok-number.ensures
    (nothing_left c.in_ok-number.after.now (sym c.is_empty.ensures ∙ c.if-is_empty.true)) c.with_number-found.ensures
