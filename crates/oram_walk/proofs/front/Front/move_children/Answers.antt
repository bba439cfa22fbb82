use Rattle.std.proofs.Common.{ap, ◌∙◌, arith}
use Rattle.std.proofs.lemmas.Result.{err_from_is_err_and}
use Rattle.asc_base.proofs.ShapeFacts.{IsLayered, shape_layered}
use Rattle.posmap_counters.specs.Group.{GroupState, child_counter}
use Rattle.oram_walk.specs.Request.{Steps}
use Rattle.oram_walk.proofs.Parts.{child_ends, child_stops, child_stops_later}
use Rattle.oram_walk.proofs.front.Front.move_children.Goals as goal

pub overflow_add-address : goal.overflow_add-address
overflow_add-address g c =
    let facts : IsLayered c.args.self.now.shape = shape_layered c.args.self.now.shape c.family.ensures.whole.shape in
    omega (arith, facts.total_to, c.in-Some.ensures.inside)

pub returns-in_err-end-clause-err : goal.returns-in_err-end-clause-err
returns-in_err-end-clause-err g c =
    let p = err_from_is_err_and c.from_residual.result c.from_residual.ensures.1 in
    let next = c.counter-next.ensures ∙ ap (λ (group : GroupState). child_counter group 0) c.moved.ensures in
    rw (p.1, p.2) (c.loop-child.invariant.stops _ _ _
    (child_stops (Steps g.S.Slots.step) c.args.group.now c.in-Some.first.0 c.loop-child.child c.in-Some.number
    c.loop-child-test.true c.loop-child.end c.loop-child.self c.counter.result c.counter-next.result c.counter.ensures
    next c.loop-child.slots c.move_child.new.slots _ c.move_child.new.self c.in_err-end.ensures.err))

pub loop-child-preserved : goal.loop-child-preserved
loop-child-preserved g c =
    let next = c.counter-next.ensures ∙ ap (λ (group : GroupState). child_counter group 0) c.moved.ensures in
    record {
      shape = c.in_ok-end.ensures.shape ∙ c.loop-child.invariant.shape;
      whole = c.in_ok-end.ensures.whole;
      total = c.in_ok-end.ensures.total ∙ c.loop-child.invariant.total;
      rests = c.in_ok-end.ensures.rests;
      last = c.in_ok-end.ensures.last;
      ends = λ new end later. c.loop-child.invariant.ends new end
          (child_ends (Steps g.S.Slots.step) c.args.group.now c.in-Some.first.0 c.loop-child.child c.in-Some.number
          c.loop-child-test.true c.loop-child.end c.loop-child.self c.counter.result c.counter-next.result
          c.counter.ensures next c.move_child.new.self c.in_ok-end.end c.loop-child.slots c.move_child.new.slots new
          end c.in_ok-end.ensures.ok later);
      stops = λ new stop left later. c.loop-child.invariant.stops new stop left
          (child_stops_later (Steps g.S.Slots.step) c.args.group.now c.in-Some.first.0 c.loop-child.child
          c.in-Some.number c.loop-child-test.true c.loop-child.end c.loop-child.self c.counter.result
          c.counter-next.result c.counter.ensures next c.move_child.new.self c.in_ok-end.end c.loop-child.slots
          c.move_child.new.slots new stop left c.in_ok-end.ensures.ok later);
    }
