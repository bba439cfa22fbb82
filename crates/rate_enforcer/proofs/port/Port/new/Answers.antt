use Rattle.std.proofs.Common.{◌∙◌, ◌<◌, ◌^◌, ℕ, None, ap, subst}
use Rattle.std.specs.Prelude.{All}
use Rattle.std.proofs.lemmas.List.Elements.{All-nil}
use Rattle.bus_schedule.specs.Shown.{indices_of, leaves_of}
use Rattle.bus_schedule.specs.Timetable.{public_of}
use Rattle.epoch_learner.proofs.RuleLaws.{start_code}
use Rattle.epoch_learner.specs.Learner.{learner_at_start, HasCode}
use Rattle.epoch_learner.specs.declared.Learner.{Learner}
use Rattle.rate_enforcer.specs.declared.clock.Clock.{Clock}
use Rattle.rate_enforcer.proofs.StateLaws.{fresh}
use Rattle.std.proofs.Common.{sym}
use Rattle.std.specs.List.{count_by}
use Rattle.rate_enforcer.specs.Counts.{is_dummy, is_real}
use Rattle.rate_enforcer.proofs.port.Port.new.Goals as goal

pub returns-clause-rests : goal.returns-clause-rests
returns-clause-rests g c notes left memory tap events moves enough room =
    let config = c.args.config.now in
    let r = c.requires in
    let next = c.from.ensures ∙ c.rate.ensures.value ∙ ap (λ (x : Learner). x.rate) c.new-learner.ensures.start in
    let make = λ (x : Learner) (n : ℕ). let k : Clock = record {
      config = config;
      learner = x;
      next = n;
      last = 0;
      dummies = 0;
      real = 0;
      stop = None;
    } in k in
    fresh notes left _ config _ c.args.tree memory tap r.config
    (ap (λ x. make x c.from.result) c.new-learner.ensures.start ∙ ap (λ n. make (learner_at_start config) n) next)
    events moves enough room r.shape r.stash r.hand r.seed r.path r.levels

pub returns-clause-counts : goal.returns-clause-counts
returns-clause-counts g c log none = record {
  dummies = ap (count_by is_dummy) (sym none);
  real = ap (count_by is_real) (sym none);
  code = subst (λ (x : Learner). HasCode (public_of c.args.config.now) (indices_of log.events) x)
      (sym c.new-learner.ensures.start)
      (subst (λ events. HasCode (public_of c.args.config.now) (indices_of events) (learner_at_start c.args.config.now))
      (sym none) (start_code c.args.config.now));
  leaves = subst (All (λ leaf. leaf < 2 ^ c.args.config.now.shape.levels)) (sym (ap leaves_of none))
      (All-nil (λ leaf. leaf < 2 ^ c.args.config.now.shape.levels));
}
