use Rattle.std.proofs.Common.{ap, subst, arith}
use Rattle.std.proofs.lemmas.Result.{err_from_is_err_and, IfOk-weaker, IfErr-weaker}
use Rattle.request_plan.specs.Plan.{Ends, Stops}
use Rattle.asc_base.specs.declared.shape.Shape.{Shape}
use Rattle.asc_base.proofs.ShapeFacts.{IsLayered, shape_layered}
use Rattle.oram_walk.specs.Plans.{walk_plan, visit_plan}
use Rattle.oram_walk.specs.Request.{Steps}
use Rattle.oram_walk.proofs.HeldAfter.{request_held}
use Rattle.oram_walk.proofs.Sequence.{ends_on, stops_on, stops_on_next}
use Rattle.oram_walk.proofs.front.Front.request.Goals as goal

pub walk-requires-clause-address : goal.walk-requires-clause-address
walk-requires-clause-address g c =
    let facts : IsLayered c.args.self.now.shape =
    shape_layered c.args.self.now.shape c.layers-layers.ensures.whole.shape in
    omega (arith, facts.total_from)

pub visit-requires-clause-address : goal.visit-requires-clause-address
visit-requires-clause-address g c =
    let facts : IsLayered c.args.self.now.shape =
    shape_layered c.args.self.now.shape c.layers-layers.ensures.whole.shape in
    omega (arith, facts.total_from, ap (λ (s : Shape). s.total) c.in_ok-end.ensures.shape)

pub returns-in_err-end-clause-err : goal.returns-in_err-end-clause-err
returns-in_err-end-clause-err g c =
    let p = err_from_is_err_and c.from_residual.result c.from_residual.ensures.1 in
    rw (p.1, p.2) (stops_on (Steps g.S.Slots.step)
    (walk_plan c.args.self.now.shape.layers c.args.self.now c.args.asked (record { 0 = c.args.line }))
    (λ now end. visit_plan now end (record { 0 = c.args.line }) c.args.purpose) c.args.slots.now c.walk.new.slots
    c.in_err-end.field-0.0 c.walk.new.self
    (subst (λ n. Stops (Steps g.S.Slots.step) (walk_plan n c.args.self.now c.args.asked (record { 0 = c.args.line }))
    c.args.slots.now c.walk.new.slots c.in_err-end.field-0.0 c.walk.new.self) c.layers-layers.ensures.layers
    c.in_err-end.ensures.err))

pub returns-clause-ok : goal.returns-clause-ok
returns-clause-ok g c =
    let walked = subst (λ n. Ends (Steps g.S.Slots.step)
    (walk_plan n c.args.self.now c.args.asked (record { 0 = c.args.line })) c.args.slots.now c.walk.new.slots
    (c.walk.new.self, c.in_ok-end.end)) c.layers-layers.ensures.layers c.in_ok-end.ensures.ok in
    IfOk-weaker _ _ _ (λ seen ends. ends_on (Steps g.S.Slots.step)
    (walk_plan c.args.self.now.shape.layers c.args.self.now c.args.asked (record { 0 = c.args.line }))
    (λ now end. visit_plan now end (record { 0 = c.args.line }) c.args.purpose)
    c.args.slots.now c.walk.new.slots
    c.visit.new.slots c.walk.new.self c.in_ok-end.end (c.visit.new.self, seen) walked ends) c.visit.ensures.ok

pub returns-clause-err : goal.returns-clause-err
returns-clause-err g c =
    let walked = subst (λ n. Ends (Steps g.S.Slots.step)
    (walk_plan n c.args.self.now c.args.asked (record { 0 = c.args.line })) c.args.slots.now c.walk.new.slots
    (c.walk.new.self, c.in_ok-end.end)) c.layers-layers.ensures.layers c.in_ok-end.ensures.ok in
    IfErr-weaker _ _ _ (λ stop stops. stops_on_next (Steps g.S.Slots.step)
    (walk_plan c.args.self.now.shape.layers c.args.self.now c.args.asked (record { 0 = c.args.line }))
    (λ now end. visit_plan now end (record { 0 = c.args.line }) c.args.purpose)
    c.args.slots.now c.walk.new.slots
    c.visit.new.slots c.walk.new.self c.in_ok-end.end stop c.visit.new.self walked stops) c.visit.ensures.err

pub returns-clause-held : goal.returns-clause-held
returns-clause-held g c =
    IfOk-weaker _ _ _ (λ seen ends.
    (request_held (Steps g.S.Slots.step) c.args.self.now c.visit.new.self c.args.asked c.args.line c.args.purpose seen
    c.args.slots.now c.visit.new.slots ends).held) (returns-clause-ok g c)
