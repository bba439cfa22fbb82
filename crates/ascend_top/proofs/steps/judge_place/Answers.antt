use Rattle.ascend_top.proofs.StepLaws.{number_judged, number_misjudged}
use Rattle.ascend_words.specs.declared.table.Name.TheVariants.{At}
use Rattle.std.proofs.Common.{arith}
use Rattle.ascend_top.proofs.steps.judge_place.Goals as goal

pub returns-then-at-ne0-clause-refused : goal.returns-then-at-ne0-clause-refused
returns-then-at-ne0-clause-refused c = λ state. number_misjudged At c.args.at state
    (λ within. grind (arith, c.then-at-ne0.either, within.0, within.1))

pub returns-clause-judged : goal.returns-clause-judged
returns-clause-judged c = λ state. number_judged At c.args.at state
    (omega (arith, c.if-at-ne0.false), omega (arith, c.if-at-ge4294901760.false))
