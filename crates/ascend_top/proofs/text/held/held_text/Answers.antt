use Rattle.std.proofs.Common.{◌≡◌, ◌++◌, ◌∷◌, [], ◌∙◌, append_assoc}
use Rattle.std.specs.Prelude.{codes, string_bytes}
use Rattle.std.specs.Fmt.{decimal}
use Rattle.std.proofs.lemmas.Result.{IfOk-weaker}
use Rattle.ascend_top.specs.Texts.{held_text}
use Rattle.ascend_top.proofs.text.held.held_text.Goals as goal

pub returns : goal.returns
returns c =
    let code = decimal c.args.held.code in
    let bits = decimal c.args.held.bits in
    IfOk-weaker c.format.result (λ text. string_bytes text ≡ codes "holds code " ++ (code ++ (codes " bits "
    ++ (bits ++ 10 ∷ []))))
    (λ text. string_bytes text ≡ held_text c.args.held.code c.args.held.bits)
    (λ text is. is ∙ simp append_assoc) c.format.ensures.ok
