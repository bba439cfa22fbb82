use Rattle.std.proofs.Common.{◌∙◌, ◌+◌, suc, ap, sym, subst}
use Rattle.epoch_learner.specs.Learner.{after_end}
use Rattle.epoch_learner.specs.Stands.{Stands}
use Rattle.epoch_learner.specs.declared.Learner.{Learner}
use Rattle.rate_enforcer.proofs.StateLaws.{stands_ended}
use Rattle.rate_enforcer.proofs.clock.Clock.end_slot.Goals as goal

pub returns-clause-stands : goal.returns-clause-stands
returns-clause-stands g c n leaf s =
    let t = g.W.Watch.state in
    let clock = c.args.self.now in
    let log = (t c.note_choice.new.bus.tap.now).log in
    let after = c.ended-choice.ensures.after in
    let at = c.slot_after-self.ensures ∙ ap (λ r. c.args.end + r) (c.rate.ensures.value
    ∙ ap (λ (x : Learner). x.rate) after) in
    let done = stands_ended c.args.end c.ended-choice.result log s c.requires.at_end.end_is
    (sym c.ended-choice.ensures.sums) c.note_choice.ensures.log in
    subst (λ x. Stands clock.config (suc n) c.args.end x c.ended-choice.new.self log) (sym at)
    (subst (λ (x : Learner). Stands clock.config (suc n) c.args.end
    (c.args.end + (after_end clock.learner c.args.end).rate) x log) (sym after) done)
