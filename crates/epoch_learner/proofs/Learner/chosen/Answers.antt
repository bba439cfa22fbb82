use Rattle.std.proofs.Common.{◌≡◌, ◌-◌, ◌*◌, ◌<◌, sym, ap, ◌/◌, ◌∙◌, arith}
use Rattle.epoch_learner.specs.LearnerRule.{nearest}
use Rattle.epoch_learner.specs.Learner.{rates_of}
use Rattle.epoch_learner.proofs.Facts.{has_ranges, chosen_at_none, chosen_at_some}
use Rattle.epoch_learner.proofs.Learner.chosen.Goals as goal

pub returns-then-self-eq0 : goal.returns-then-self-eq0
returns-then-self-eq0 c =
    sym (chosen_at_none c.args.self.now c.args.end
    (has_ranges c.requires.learner.config c.args.self.now c.requires.learner.is_of)
    c.if-self-eq0.true)

pub returns : goal.returns
returns c =
    let l = c.args.self.now in
    let some : 0 < l.real = omega arith in
    let idle : c.saturating_sub-idle.result ≡ c.args.end - l.since - l.waste - l.real * l.olat =
    omega (arith, c.saturating_sub-idle.ensures) in
    c.nearest_rate.ensures
    ∙ ap (λ raw. nearest (rates_of l) (raw / l.real)) idle
    ∙ sym (chosen_at_some l c.args.end some)
