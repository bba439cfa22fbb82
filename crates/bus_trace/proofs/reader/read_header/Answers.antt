use Rattle.std.proofs.Common.{ap, sym, ◌≡◌, ◌∙◌, List, ℕ, length, take, ◌+◌, max, arith}
use Rattle.std.specs.Prelude.{fold}
use Rattle.std.proofs.lemmas.Result.{err_from_is_err_and}
use Rattle.std.proofs.lemmas.List.{take_all}
use Rattle.asc_base.specs.Settings.{greatest_rate}
use Rattle.asc_base.specs.TreeShape.{olat_of}
use Rattle.bus_trace.proofs.ReadLaws.{title_read, levels_read, rates_read, first_read, epoch_read, header_read}
use Rattle.bus_trace.proofs.ReadLaws.{title_fault, levels_fault, rates_fault, first_fault_at, epoch_fault, leak_fault}
use Rattle.bus_trace.proofs.reader.read_header.Goals as goal

-- the greatest of the numbers that stand first
same_greatest : (list : List ℕ) (count levels : ℕ)
    → olat_of levels + greatest_rate list count
    ≡ olat_of levels + greatest_rate (take count list) (length (take count list))
same_greatest list count levels =
    ap (λ rates. olat_of levels + fold max 0 rates)
    (sym (take_all (length (take count list)) (take count list) (omega arith)))

pub returns-in_err-rest-clause-header : goal.returns-in_err-rest-clause-header
returns-in_err-rest-clause-header c =
    let p = err_from_is_err_and c.from_residual.result c.from_residual.ensures.1 in
    rw (p.1, p.2) (title_fault c.args.text.now c.in_err-rest.field-0.0 c.in_err-rest.ensures)

pub returns-in_err-levels-clause-header : goal.returns-in_err-levels-clause-header
returns-in_err-levels-clause-header c =
    let text = c.args.text.now in
    let p = err_from_is_err_and c.from_residual-in_err-levels.result c.from_residual-in_err-levels.ensures.1 in
    let one = title_read text c.in_ok-rest.rest.now c.in_ok-rest.ensures in
    rw (p.1, p.2) (levels_fault text c.in_ok-rest.rest.now c.in_err-levels.field-0.0 one c.in_err-levels.ensures)

pub returns-in_err-rates-clause-header : goal.returns-in_err-rates-clause-header
returns-in_err-rates-clause-header c =
    let text = c.args.text.now in
    let p = err_from_is_err_and c.from_residual-in_err-rates.result c.from_residual-in_err-rates.ensures.1 in
    let one = title_read text c.in_ok-rest.rest.now c.in_ok-rest.ensures in
    let two = levels_read text c.in_ok-rest.rest.now c.in_ok-levels.rest.now c.in_ok-levels.levels one
    c.in_ok-levels.ensures in
    rw (p.1, p.2) (rates_fault text c.in_ok-levels.rest.now c.in_ok-levels.levels c.in_err-rates.field-0.0 two
    c.in_err-rates.ensures.line)

pub returns-in_err-first-clause-header : goal.returns-in_err-first-clause-header
returns-in_err-first-clause-header c =
    let text = c.args.text.now in
    let rates = take c.in_ok-rates.rates.count c.in_ok-rates.rates.list in
    let p = err_from_is_err_and c.from_residual-in_err-first.result c.from_residual-in_err-first.ensures.1 in
    let one = title_read text c.in_ok-rest.rest.now c.in_ok-rest.ensures in
    let two = levels_read text c.in_ok-rest.rest.now c.in_ok-levels.rest.now c.in_ok-levels.levels one
    c.in_ok-levels.ensures in
    let three = rates_read text c.in_ok-levels.rest.now c.in_ok-rates.rest.now c.in_ok-levels.levels rates two
    c.in_ok-rates.ensures.line in
    rw (p.1, p.2) (first_fault_at text c.in_ok-rates.rest.now c.in_ok-levels.levels rates c.from.result
    c.in_err-first.field-0.0 three (c.from.ensures ∙ c.in_ok-rates.ensures.rates.count)
    c.in_err-first.ensures)

pub returns-in_err-epoch-clause-header : goal.returns-in_err-epoch-clause-header
returns-in_err-epoch-clause-header c =
    let text = c.args.text.now in
    let rates = take c.in_ok-rates.rates.count c.in_ok-rates.rates.list in
    let p = err_from_is_err_and c.from_residual-in_err-epoch.result c.from_residual-in_err-epoch.ensures.1 in
    let one = title_read text c.in_ok-rest.rest.now c.in_ok-rest.ensures in
    let two = levels_read text c.in_ok-rest.rest.now c.in_ok-levels.rest.now c.in_ok-levels.levels one
    c.in_ok-levels.ensures in
    let three = rates_read text c.in_ok-levels.rest.now c.in_ok-rates.rest.now c.in_ok-levels.levels rates two
    c.in_ok-rates.ensures.line in
    let four = first_read text c.in_ok-rates.rest.now c.in_ok-first.rest.now c.in_ok-levels.levels rates
    c.from.result c.in_ok-first.first three (c.from.ensures
    ∙ c.in_ok-rates.ensures.rates.count) c.in_ok-first.ensures in
    rw (p.1, p.2) (epoch_fault text c.in_ok-first.rest.now c.in_ok-levels.levels rates c.in_ok-first.first
    c.least_epoch.result c.in_err-epoch.field-0.0 four
    (c.least_epoch.ensures ∙ same_greatest c.in_ok-rates.rates.list c.in_ok-rates.rates.count c.in_ok-levels.levels)
    c.in_err-epoch.ensures)

pub returns-in_err-leak-clause-header : goal.returns-in_err-leak-clause-header
returns-in_err-leak-clause-header c =
    let text = c.args.text.now in
    let rates = take c.in_ok-rates.rates.count c.in_ok-rates.rates.list in
    let p = err_from_is_err_and c.from_residual-in_err-leak.result c.from_residual-in_err-leak.ensures.1 in
    let one = title_read text c.in_ok-rest.rest.now c.in_ok-rest.ensures in
    let two = levels_read text c.in_ok-rest.rest.now c.in_ok-levels.rest.now c.in_ok-levels.levels one
    c.in_ok-levels.ensures in
    let three = rates_read text c.in_ok-levels.rest.now c.in_ok-rates.rest.now c.in_ok-levels.levels rates two
    c.in_ok-rates.ensures.line in
    let four = first_read text c.in_ok-rates.rest.now c.in_ok-first.rest.now c.in_ok-levels.levels rates
    c.from.result c.in_ok-first.first three (c.from.ensures
    ∙ c.in_ok-rates.ensures.rates.count) c.in_ok-first.ensures in
    let five = epoch_read text c.in_ok-first.rest.now c.in_ok-epoch.rest.now c.in_ok-levels.levels rates
    c.in_ok-first.first c.least_epoch.result c.in_ok-epoch.epoch four
    (c.least_epoch.ensures ∙ same_greatest c.in_ok-rates.rates.list c.in_ok-rates.rates.count c.in_ok-levels.levels)
    c.in_ok-epoch.ensures in
    rw (p.1, p.2) (leak_fault text c.in_ok-epoch.rest.now c.in_ok-levels.levels rates c.in_ok-first.first
    c.in_ok-epoch.epoch c.in_err-leak.field-0.0 five c.in_err-leak.ensures)

pub returns-clause-header : goal.returns-clause-header
returns-clause-header c =
    let text = c.args.text.now in
    let rates = take c.in_ok-rates.rates.count c.in_ok-rates.rates.list in
    let one = title_read text c.in_ok-rest.rest.now c.in_ok-rest.ensures in
    let two = levels_read text c.in_ok-rest.rest.now c.in_ok-levels.rest.now c.in_ok-levels.levels one
    c.in_ok-levels.ensures in
    let three = rates_read text c.in_ok-levels.rest.now c.in_ok-rates.rest.now c.in_ok-levels.levels rates two
    c.in_ok-rates.ensures.line in
    let four = first_read text c.in_ok-rates.rest.now c.in_ok-first.rest.now c.in_ok-levels.levels rates
    c.from.result c.in_ok-first.first three (c.from.ensures
    ∙ c.in_ok-rates.ensures.rates.count) c.in_ok-first.ensures in
    let five = epoch_read text c.in_ok-first.rest.now c.in_ok-epoch.rest.now c.in_ok-levels.levels rates
    c.in_ok-first.first c.least_epoch.result c.in_ok-epoch.epoch four
    (c.least_epoch.ensures ∙ same_greatest c.in_ok-rates.rates.list c.in_ok-rates.rates.count c.in_ok-levels.levels)
    c.in_ok-epoch.ensures in
    header_read text c.in_ok-epoch.rest.now c.in_ok-leak.rest.now c.in_ok-levels.levels rates c.in_ok-first.first
    c.in_ok-epoch.epoch c.in_ok-leak.leak five c.in_ok-leak.ensures
