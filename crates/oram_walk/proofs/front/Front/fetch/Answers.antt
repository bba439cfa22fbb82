use Rattle.std.proofs.Common.{refl}
use Rattle.std.proofs.lemmas.Result.{err_from_is_err_and}
use Rattle.request_plan.specs.Plan.{Done, Ask}
use Rattle.oram_walk.specs.Plans.{request_plan}
use Rattle.oram_walk.specs.Request.{Steps, Answer, nothing}
use Rattle.oram_walk.specs.declared.slots.Purpose.TheVariants.{Keep}
use Rattle.oram_walk.proofs.Sequence.{ends_on, stops_on}
use Rattle.oram_walk.proofs.front.Front.fetch.Goals as goal

pub returns-in_err-seen-clause-err : goal.returns-in_err-seen-clause-err
returns-in_err-seen-clause-err g c =
    let p = err_from_is_err_and c.from_residual.result c.from_residual.ensures.1 in
    rw (p.1, p.2) (stops_on (Steps g.S.Slots.step)
    (request_plan c.args.self.now c.args.asked (record { 0 = c.args.line }) Keep) _ c.args.slots.now
    c.request.new.slots _ c.request.new.self c.in_err-seen.ensures.err)

pub returns-clause-ok : goal.returns-clause-ok
returns-clause-ok g c =
    ends_on (Steps g.S.Slots.step) (request_plan c.args.self.now c.args.asked (record { 0 = c.args.line }) Keep)
    (λ now seen. Ask (Answer c.args.line seen.line) now (λ _. Done (now, seen))) c.args.slots.now c.request.new.slots
    c.answered.new.self c.request.new.self c.in_ok-seen.seen (c.request.new.self, c.in_ok-seen.seen)
    c.in_ok-seen.ensures.ok (nothing, c.answered.new.self, c.answered.ensures.step, (refl, refl))
