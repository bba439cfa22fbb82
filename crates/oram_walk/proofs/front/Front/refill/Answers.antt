use Rattle.std.proofs.Common.{subst, refl}
use Rattle.std.proofs.lemmas.Result.{err_from_is_err_and}
use Rattle.posmap_lookaside.specs.declared.held.Held.{Held}
use Rattle.request_plan.specs.Plan.{Done, Ends, Stops}
use Rattle.oram_walk.specs.Plans.{visit_plan, hold_plan, on, refilled}
use Rattle.oram_walk.specs.Request.{Steps}
use Rattle.oram_walk.specs.declared.slots.Purpose.TheVariants.{Refill}
use Rattle.oram_walk.proofs.Sequence.{ends_on, stops_on, stops_on_next}
use Rattle.oram_walk.proofs.Fresh.{visit_none}
use Rattle.oram_walk.proofs.Parts.{same_held}
use Rattle.oram_walk.proofs.front.Front.refill.Goals as goal

pub returns-in_err-seen-clause-err : goal.returns-in_err-seen-clause-err
returns-in_err-seen-clause-err g c =
    let p = err_from_is_err_and c.from_residual.result c.from_residual.ensures.1 in
    rw (p.1, p.2) (stops_on (Steps g.S.Slots.step) (visit_plan c.args.self.now c.args.asked c.args.address Refill) _
    c.args.slots.now c.visit.new.slots _ c.visit.new.self c.in_err-seen.ensures.err)

pub hold-requires-clause-fresh : goal.hold-requires-clause-fresh
hold-requires-clause-fresh g c =
    visit_none (Steps g.S.Slots.step) c.args.self.now c.visit.new.self c.args.asked c.args.address c.args.address Refill
    c.in_ok-seen.seen c.args.slots.now c.visit.new.slots c.in_ok-seen.ensures.ok c.requires.fresh

pub returns-in_err-hold-clause-err : goal.returns-in_err-hold-clause-err
returns-in_err-hold-clause-err g c =
    let p = err_from_is_err_and c.from_residual-in_err-hold.result c.from_residual-in_err-hold.ensures.1 in
    let held = same_held c.visit.new.self c.args.address c.in_ok-seen.seen.line c.counter.result c.read.result
    c.counter.ensures c.read.ensures.group in
    rw (p.1, p.2) (stops_on_next (Steps g.S.Slots.step)
    (visit_plan c.args.self.now c.args.asked c.args.address Refill)
    (λ now seen. on (hold_plan now (refilled now c.args.address seen.line)) (λ last _. Done (last, seen.end)))
    c.args.slots.now c.visit.new.slots c.hold.new.slots c.visit.new.self c.in_ok-seen.seen _ c.hold.new.self
    c.in_ok-seen.ensures.ok
    (stops_on (Steps g.S.Slots.step)
    (hold_plan c.visit.new.self (refilled c.visit.new.self c.args.address c.in_ok-seen.seen.line)) _
    c.visit.new.slots c.hold.new.slots c.in_err-hold.field-0.0 c.hold.new.self
    (subst (λ (h : Held). Stops (Steps g.S.Slots.step) (hold_plan c.visit.new.self h) c.visit.new.slots
    c.hold.new.slots c.in_err-hold.field-0.0 c.hold.new.self) held c.in_err-hold.ensures.err)))

pub returns-clause-ok : goal.returns-clause-ok
returns-clause-ok g c =
    let held = same_held c.visit.new.self c.args.address c.in_ok-seen.seen.line c.counter.result c.read.result
    c.counter.ensures c.read.ensures.group in
    ends_on (Steps g.S.Slots.step) (visit_plan c.args.self.now c.args.asked c.args.address Refill)
    (λ now seen. on (hold_plan now (refilled now c.args.address seen.line)) (λ last _. Done (last, seen.end)))
    c.args.slots.now c.visit.new.slots c.hold.new.slots c.visit.new.self c.in_ok-seen.seen
    (c.hold.new.self, c.in_ok-seen.seen.end) c.in_ok-seen.ensures.ok
    (ends_on (Steps g.S.Slots.step)
    (hold_plan c.visit.new.self (refilled c.visit.new.self c.args.address c.in_ok-seen.seen.line)) _
    c.visit.new.slots c.hold.new.slots c.hold.new.slots c.hold.new.self tt (c.hold.new.self, c.in_ok-seen.seen.end)
    (subst (λ (h : Held). Ends (Steps g.S.Slots.step) (hold_plan c.visit.new.self h) c.visit.new.slots
    c.hold.new.slots (c.hold.new.self, tt)) held c.in_ok-hold.ensures.ok) (refl, refl))
