use Rattle.std.proofs.Common.{false}
use Rattle.std.specs.Prelude.{codes, IsTrue}
use Rattle.bus_trace.proofs.RateLaws.{rates_outside, rates_may_be, list_of_rates}
use Rattle.bus_trace.proofs.rates.rates_of.Goals as goal

pub returns-then-not-found-clause-line : goal.returns-then-not-found-clause-line
returns-then-not-found-clause-line c =
    let found = c.in-Some-numbers.ensures in
    rates_outside c.args.text.now (codes "rates") c.in-Some.after.now found.numbers c.in-Some.ensures found.list
    (λ are. found.holds.others c.if-not-found.true (rates_may_be found.numbers are))

pub returns-then-not-are_rates-clause-line : goal.returns-then-not-are_rates-clause-line
returns-then-not-are_rates-clause-line c =
    let found = c.in-Some-numbers.ensures in
    let has = found.holds.all c.if-not-found.false in
    rates_outside c.args.text.now (codes "rates") c.in-Some.after.now found.numbers c.in-Some.ensures found.list
    (λ are. let no : IsTrue false =
    c.if-not-are_rates.ensures.1 (list_of_rates c.in-Some-numbers.found.rates found.numbers has.0 are) in cc)
