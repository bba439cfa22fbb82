use Rattle.std.proofs.Common.{rules, arith}
use Rattle.epoch_learner.proofs.Facts.{has_ranges, chosen_at_below}
use Rattle.epoch_learner.proofs.Steps.{after_end_is_kept, code_room}
use Rattle.epoch_learner.proofs.Learner.ended.Goals as goal

pub bounds-self-index : goal.bounds-self-index
bounds-self-index c =
    let ranges = has_ranges c.requires.learner.config c.args.self.now c.requires.learner.is_of in
    omega (arith, chosen_at_below c.args.self.now c.args.end ranges, ranges.few)

pub with_digit-self-requires-clause-index : goal.with_digit-self-requires-clause-index
with_digit-self-requires-clause-index c =
    omega (
      arith,
      c.chosen-index.ensures,
      chosen_at_below c.args.self.now c.args.end
          (has_ranges c.requires.learner.config c.args.self.now c.requires.learner.is_of),
    )

pub with_digit-self-requires-clause-fits : goal.with_digit-self-requires-clause-fits
with_digit-self-requires-clause-fits c =
    code_room c.requires.learner.config c.args.self.now c.requires.learner.is_of (omega arith)

pub returns-clause-config : goal.returns-clause-config
returns-clause-config c = λ config h. after_end_is_kept config c.args.self.now _ c.args.end h (search rules)

pub returns-clause-learner : goal.returns-clause-learner
returns-clause-learner c = record {
  config = c.requires.learner.config;
  is_of = after_end_is_kept c.requires.learner.config c.args.self.now _ c.args.end c.requires.learner.is_of
      (search rules);
}
