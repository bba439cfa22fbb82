use Rattle.std.proofs.Common.{◌∙◌, refl, ap}
use Rattle.std.proofs.lemmas.Result.{err_from_is_err_and}
use Rattle.asc_base.specs.Shape.{children_in}
use Rattle.posmap_counters.specs.Group.{moved_group}
use Rattle.posmap_lookaside.specs.Held.{changed, with_group}
use Rattle.request_plan.specs.Plan.{Done}
use Rattle.oram_walk.specs.Front.{FrontState, with_held}
use Rattle.oram_walk.specs.Plans.{family_plan}
use Rattle.oram_walk.specs.Request.{Steps}
use Rattle.oram_walk.proofs.Sequence.{ends_on, stops_on}
use Rattle.oram_walk.proofs.front.Front.move_group.Goals as goal

pub returns-in_err-end-clause-err : goal.returns-in_err-end-clause-err
returns-in_err-end-clause-err g c =
    let p = err_from_is_err_and c.from_residual.result c.from_residual.ensures.1 in
    rw (p.1, p.2) (stops_on (Steps g.S.Slots.step)
    (family_plan c.args.group.now (children_in c.args.self.now.shape c.args.parent) c.args.self.now c.args.asked)
    (λ now end. Done (with_held now (changed (with_group (moved_group c.args.group.now)) now.held c.args.parent), end))
    c.args.slots.now c.move_children.new.slots _ c.move_children.new.self c.in_err-end.ensures.err)

pub returns-clause-ok : goal.returns-clause-ok
returns-clause-ok g c =
    let now : FrontState = c.move_children.new.self in
    ends_on (Steps g.S.Slots.step)
    (family_plan c.args.group.now (children_in c.args.self.now.shape c.args.parent) c.args.self.now c.args.asked)
    (λ now end. Done (with_held now (changed (with_group (moved_group c.args.group.now)) now.held c.args.parent), end))
    c.args.slots.now c.move_children.new.slots c.move_children.new.slots now c.in_ok-end.end
    (c.regroup.new.self, c.in_ok-end.end) c.in_ok-end.ensures.ok (
      ap (λ (n : FrontState). (n, c.in_ok-end.end)) (c.regroup.ensures.front
          ∙ ap (λ group. with_held now (changed (with_group group) now.held c.args.parent)) c.moved.ensures),
      refl,
    )
