use Rattle.std.proofs.Common.{◌≡◌, ◌<◌, ◌-◌, is_some, false, sym, subst, ◌∙◌, arith, Some}
use Rattle.std.proofs.lemmas.Result.{err_from_is_err_and, IfOk-weaker, IfErr-weaker}
use Rattle.request_plan.specs.Plan.{Ends}
use Rattle.asc_base.specs.Shape.{parent_in}
use Rattle.posmap_lookaside.specs.Held.{held_at}
use Rattle.oram_walk.specs.Front.{FrontState}
use Rattle.oram_walk.specs.Plans.{walk_plan}
use Rattle.oram_walk.specs.Request.{Steps}
use Rattle.oram_walk.proofs.Fresh.{walk_none}
use Rattle.oram_walk.proofs.Parts.{walk_ends, walk_stops, walk_stops_later}
use Rattle.oram_walk.proofs.front.Front.+walk.Goals as goal

pub returns-in_err-end-clause-err : goal.returns-in_err-end-clause-err
returns-in_err-end-clause-err g t c =
    let some : 0 < c.args.above = omega arith in
    let at : parent_in c.args.self.now.shape c.args.address ≡ Some c.in-Some.parent =
    sym c.parent.ensures.parent ∙ c.in-Some.is in
    let none : is_some (held_at c.args.self.now.held c.in-Some.parent) ≡ false =
    sym c.find.ensures.held ∙ c.if-find.false in
    let p = err_from_is_err_and c.from_residual.result c.from_residual.ensures.1 in
    rw (p.1, p.2) (walk_stops (Steps g.S.Slots.step) c.args.above c.args.asked c.args.self.now c.find.new.self
    c.args.address c.in-Some.parent some at none c.find.ensures.front c.args.slots.now c.walk.new.slots
    _ c.walk.new.self
    c.in_err-end.ensures.err)

pub refill-requires-clause-fresh : goal.refill-requires-clause-fresh
refill-requires-clause-fresh g t c =
    let none : is_some (held_at c.args.self.now.held c.in-Some.parent) ≡ false =
    sym c.find.ensures.held ∙ c.if-find.false in
    walk_none (Steps g.S.Slots.step) c.args.self.now c.walk.new.self (c.args.above - 1) c.args.asked c.in_ok-end.end
    c.in-Some.parent c.args.slots.now c.walk.new.slots c.parent.ensures.whole.shape c.in-Some.ensures.inside none
    (subst (λ (f : FrontState). Ends (Steps g.S.Slots.step)
    (walk_plan (c.args.above - 1) f c.args.asked c.in-Some.parent)
    c.args.slots.now c.walk.new.slots (c.walk.new.self, c.in_ok-end.end)) c.find.ensures.front c.in_ok-end.ensures.ok)

pub returns-clause-ok : goal.returns-clause-ok
returns-clause-ok g t c =
    let some : 0 < c.args.above = omega arith in
    let at : parent_in c.args.self.now.shape c.args.address ≡ Some c.in-Some.parent =
    sym c.parent.ensures.parent ∙ c.in-Some.is in
    let none : is_some (held_at c.args.self.now.held c.in-Some.parent) ≡ false =
    sym c.find.ensures.held ∙ c.if-find.false in
    IfOk-weaker _ _ _ (λ end ends. walk_ends (Steps g.S.Slots.step) c.args.above c.args.asked c.args.self.now
    c.find.new.self c.args.address c.in-Some.parent some at none c.find.ensures.front c.walk.new.self c.in_ok-end.end
    c.args.slots.now c.walk.new.slots c.refill.new.slots (c.refill.new.self, end) c.in_ok-end.ensures.ok ends)
    c.refill.ensures.ok

pub returns-clause-err : goal.returns-clause-err
returns-clause-err g t c =
    let some : 0 < c.args.above = omega arith in
    let at : parent_in c.args.self.now.shape c.args.address ≡ Some c.in-Some.parent =
    sym c.parent.ensures.parent ∙ c.in-Some.is in
    let none : is_some (held_at c.args.self.now.held c.in-Some.parent) ≡ false =
    sym c.find.ensures.held ∙ c.if-find.false in
    IfErr-weaker _ _ _ (λ stop stops. walk_stops_later (Steps g.S.Slots.step) c.args.above c.args.asked c.args.self.now
    c.find.new.self c.args.address c.in-Some.parent some at none c.find.ensures.front c.walk.new.self c.in_ok-end.end
    c.args.slots.now c.walk.new.slots c.refill.new.slots stop c.refill.new.self c.in_ok-end.ensures.ok stops)
    c.refill.ensures.err
