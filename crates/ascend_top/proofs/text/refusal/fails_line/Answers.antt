use Rattle.std.proofs.Common.{◌≡◌, ◌++◌, ◌∷◌, [], ◌∙◌, append_assoc}
use Rattle.std.specs.Prelude.{codes, string_bytes}
use Rattle.std.specs.Fmt.{decimal}
use Rattle.std.proofs.lemmas.Result.{IfOk-weaker}
use Rattle.ascend_top.specs.Texts.{fails_text}
use Rattle.ascend_top.proofs.text.refusal.fails_line.Goals as goal

pub returns : goal.returns
returns c =
    let line = decimal c.args.line in
    let found = decimal c.args.found in
    let wanted = decimal c.args.wanted in
    IfOk-weaker c.format.result (λ text. string_bytes text ≡ codes "fails line " ++ (line ++ (codes " found "
    ++ (found ++ (codes " wanted " ++ (wanted ++ 10 ∷ []))))))
    (λ text. string_bytes text ≡ fails_text c.args.line c.args.found c.args.wanted)
    (λ text is. is ∙ simp append_assoc) c.format.ensures.ok
