use Rattle.std.proofs.Common.{refl}
use Rattle.std.proofs.lemmas.Result.{err_from_is_err_and}
use Rattle.request_plan.specs.Plan.{Done}
use Rattle.oram_walk.specs.Plans.{request_plan}
use Rattle.oram_walk.specs.Request.{Steps}
use Rattle.oram_walk.specs.declared.slots.Purpose.TheVariants.{Replace}
use Rattle.oram_walk.proofs.Sequence.{ends_on, stops_on}
use Rattle.oram_walk.proofs.front.Front.store.Goals as goal

pub returns-in_err-seen-clause-err : goal.returns-in_err-seen-clause-err
returns-in_err-seen-clause-err g c =
    let p = err_from_is_err_and c.from_residual.result c.from_residual.ensures.1 in
    rw (p.1, p.2) (stops_on (Steps g.S.Slots.step)
    (request_plan c.args.self.now c.args.asked (record { 0 = c.args.line }) (Replace c.args.value.now)) _
    c.args.slots.now c.request.new.slots _ c.request.new.self c.in_err-seen.ensures.err)

pub returns-clause-ok : goal.returns-clause-ok
returns-clause-ok g c =
    ends_on (Steps g.S.Slots.step)
    (request_plan c.args.self.now c.args.asked (record { 0 = c.args.line }) (Replace c.args.value.now))
    (λ now seen. Done (now, seen.end)) c.args.slots.now c.request.new.slots c.request.new.slots c.request.new.self
    c.in_ok-seen.seen (c.request.new.self, c.in_ok-seen.seen.end) c.in_ok-seen.ensures.ok (refl, refl)
