use Rattle.std.proofs.Common.{ap, ◌∙◌, ◌≡◌, ◌++◌, ◌∷◌, [], append_assoc}
use Rattle.std.specs.Prelude.{codes, string_bytes}
use Rattle.std.specs.Fmt.{decimal}
use Rattle.std.proofs.lemmas.Result.{IfOk-weaker}
use Rattle.ascend_top.specs.FlatRun.{outcome_report}
use Rattle.ascend_top.specs.Texts.{report_text}
use Rattle.ascend_top.proofs.text.report.report_text.Goals as goal

pub returns : goal.returns
returns c =
    let count = decimal c.args.outcome.now.instructions in
    IfOk-weaker c.format.result (λ text. string_bytes text ≡ string_bytes c.in_ok-ending.ending ++
    (10 ∷ codes "instructions " ++ (count ++ 10 ∷ []))) (λ text. string_bytes text ≡ report_text
    (outcome_report c.args.outcome.now))
    (λ text is. is ∙ ap (λ bytes. bytes ++ (10 ∷ codes "instructions " ++ (count ++ 10 ∷ []))) c.in_ok-ending.ensures
    ∙ simp append_assoc)
    c.format.ensures.ok
