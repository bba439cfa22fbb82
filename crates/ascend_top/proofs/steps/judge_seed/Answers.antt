use Rattle.ascend_top.proofs.StepLaws.{number_judged, number_misjudged}
use Rattle.ascend_words.specs.declared.table.Name.TheVariants.{Seed}
use Rattle.std.proofs.Common.{arith}
use Rattle.ascend_top.proofs.steps.judge_seed.Goals as goal

pub returns-then-seed-ge4294967296-clause-refused : goal.returns-then-seed-ge4294967296-clause-refused
returns-then-seed-ge4294967296-clause-refused c = λ state. number_misjudged Seed c.args.seed state
    (λ within. omega (arith, c.if-seed-ge4294967296.true, within))

pub returns-clause-judged : goal.returns-clause-judged
returns-clause-judged c = λ state. number_judged Seed c.args.seed state (omega (arith, c.if-seed-ge4294967296.false))
