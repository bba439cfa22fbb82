use Rattle.std.proofs.Common.{◌≡◌, ◌++◌, ◌∷◌, [], ◌∙◌, append_assoc, ap}
use Rattle.std.specs.Prelude.{codes, string_bytes}
use Rattle.std.specs.Fmt.{decimal}
use Rattle.std.proofs.lemmas.Result.{IfOk-weaker}
use Rattle.ascend_top.specs.Texts.{trace_text}
use Rattle.ascend_top.proofs.text.refusal.trace_line.Goals as goal

pub returns : goal.returns
returns c =
    let line = decimal c.args.line in
    IfOk-weaker c.format.result (λ text. string_bytes text ≡ codes "trace line " ++ (line ++ (32 ∷
    (c.trace_kind_name-name.result.now ++ 10 ∷ []))))
    (λ text. string_bytes text ≡ trace_text c.args.line c.args.kind)
    (λ text is. is ∙ ap (λ name. codes "trace line " ++ (line ++ (32 ∷ (name ++ 10 ∷ []))))
    c.trace_kind_name-name.ensures
    ∙ simp append_assoc) c.format.ensures.ok
