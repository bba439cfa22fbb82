use Rattle.ascend_top.proofs.StepLaws.{number_judged, number_misjudged}
use Rattle.ascend_words.specs.declared.table.Name.TheVariants.{Words}
use Rattle.std.proofs.Common.{arith}
use Rattle.ascend_top.proofs.steps.judge_count.Goals as goal

pub returns-then-count-lt1-clause-refused : goal.returns-then-count-lt1-clause-refused
returns-then-count-lt1-clause-refused c = λ state. number_misjudged Words c.args.count state
    (λ within. grind (arith, c.then-count-lt1.either, within.0, within.1))

pub returns-clause-judged : goal.returns-clause-judged
returns-clause-judged c = λ state. number_judged Words c.args.count state
    (omega (arith, c.if-count-lt1.false), omega (arith, c.if-count-gt65536.false))
