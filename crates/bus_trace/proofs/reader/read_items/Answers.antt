use Rattle.std.proofs.Common.{sym, ◌∙◌}
use Rattle.std.proofs.lemmas.Result.{err_from_is_err_and}
use Rattle.bus_trace.specs.Trace.{public_of}
use Rattle.bus_trace.specs.declared.lines.Item.TheVariants.{Access, End}
use Rattle.bus_trace.proofs.NumberLaws.{nothing_left, something_left}
use Rattle.bus_trace.proofs.ReadLaws.{access_read, item_fault, end_read, end_fault}
use Rattle.bus_trace.proofs.ReadLaws.{as_item}
use Rattle.bus_trace.proofs.reader.read_items.Goals as goal

pub returns-in_err-item-clause-text : goal.returns-in_err-item-clause-text
returns-in_err-item-clause-text c =
    let p = err_from_is_err_and c.from_residual.result c.from_residual.ensures.1 in
    rw (p.1, p.2) (item_fault (public_of c.args.header) c.args.text.now c.loop-accesses.rest.now
    c.loop-accesses.accesses.items c.loop-accesses.number c.in_err-item.field-0.0 c.requires c.loop-accesses.invariant
    c.in_err-item.ensures)

pub returns-then-not-is_empty-clause-text : goal.returns-then-not-is_empty-clause-text
returns-then-not-is_empty-clause-text c =
    end_fault (public_of c.args.header) c.args.text.now c.loop-accesses.rest.now c.in_ok-item.after.now
    c.loop-accesses.accesses.items c.loop-accesses.number c.in-End.end c.requires c.loop-accesses.invariant
    (as_item (public_of c.args.header) c.loop-accesses.rest.now c.in_ok-item.after.now c.in_ok-item.item
    (End c.in-End.end) c.in-End.is c.in_ok-item.ensures)
    (something_left c.in_ok-item.after.now (sym c.is_empty.ensures ∙ c.if-not-is_empty.true))

pub returns-in-End-clause-text : goal.returns-in-End-clause-text
returns-in-End-clause-text c =
    end_read (public_of c.args.header) c.args.text.now c.loop-accesses.rest.now c.in_ok-item.after.now
    c.loop-accesses.accesses.items c.loop-accesses.number c.in-End.end c.requires c.loop-accesses.invariant
    (as_item (public_of c.args.header) c.loop-accesses.rest.now c.in_ok-item.after.now c.in_ok-item.item
    (End c.in-End.end) c.in-End.is c.in_ok-item.ensures)
    (nothing_left c.in_ok-item.after.now (sym c.is_empty.ensures ∙ c.if-not-is_empty.false))

pub loop-accesses-preserved : goal.loop-accesses-preserved
loop-accesses-preserved c =
    access_read (public_of c.args.header) c.args.text.now c.loop-accesses.rest.now c.in_ok-item.after.now
    c.loop-accesses.accesses.items c.push.new.self.items c.loop-accesses.number c.in-Access.seen
    c.loop-accesses.invariant
    (as_item (public_of c.args.header) c.loop-accesses.rest.now c.in_ok-item.after.now c.in_ok-item.item
    (Access c.in-Access.seen) c.in-Access.is c.in_ok-item.ensures)
    c.in-Ok.ensures.items
