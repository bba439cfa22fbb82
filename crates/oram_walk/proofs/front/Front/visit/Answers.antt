use Rattle.std.proofs.lemmas.Result.{err_from_is_err_and, IfOk-weaker, IfErr-weaker}
use Rattle.oram_walk.specs.Plans.{group_plan, step_plan}
use Rattle.oram_walk.specs.Request.{Steps}
use Rattle.oram_walk.proofs.Sequence.{ends_on, stops_on, stops_on_next}
use Rattle.oram_walk.proofs.front.Front.visit.Goals as goal

pub returns-in_err-end-clause-err : goal.returns-in_err-end-clause-err
returns-in_err-end-clause-err g c =
    let p = err_from_is_err_and c.from_residual.result c.from_residual.ensures.1 in
    rw (p.1, p.2) (stops_on (Steps g.S.Slots.step) (group_plan c.args.self.now c.args.asked c.args.address)
    (λ now end. step_plan now end c.args.address c.args.purpose) c.args.slots.now _ _ _ c.in_err-end.ensures.err)

pub returns-clause-ok : goal.returns-clause-ok
returns-clause-ok g c =
    IfOk-weaker _ _ _ (λ seen ends.
    ends_on (Steps g.S.Slots.step) (group_plan c.args.self.now c.args.asked c.args.address)
    (λ now end. step_plan now end c.args.address c.args.purpose) c.args.slots.now c.make_room.new.slots
    c.access.new.slots c.make_room.new.self c.in_ok-end.end (c.access.new.self, seen) c.in_ok-end.ensures.ok ends)
    c.access.ensures.ok

pub returns-clause-err : goal.returns-clause-err
returns-clause-err g c =
    IfErr-weaker _ _ _ (λ stop stops.
    stops_on_next (Steps g.S.Slots.step) (group_plan c.args.self.now c.args.asked c.args.address)
    (λ now end. step_plan now end c.args.address c.args.purpose) c.args.slots.now c.make_room.new.slots
    c.access.new.slots c.make_room.new.self c.in_ok-end.end stop c.access.new.self c.in_ok-end.ensures.ok stops)
    c.access.ensures.err
