use Rattle.std.proofs.Common.{ap, ◌∙◌, ◌++◌, append_assoc, sym}
use Rattle.std.specs.Prelude.{codes}
use Rattle.std.proofs.lemmas.Result.{IfOk-weaker}
use Rattle.ascend_top.specs.Texts.{evidence_text}
use Rattle.ascend_top.proofs.text.run.evidence_line.Goals as goal

pub returns-in-BadSlot : goal.returns-in-BadSlot
returns-in-BadSlot c =
    IfOk-weaker c.format.result _ _ (λ text is. is ∙ (simp append_assoc)
    ∙ ap (λ e. codes "end integrity " ++ evidence_text e) (sym c.in-BadSlot.is)) c.format.ensures.ok

pub returns-in-OffPath : goal.returns-in-OffPath
returns-in-OffPath c =
    IfOk-weaker c.format-in-OffPath.result _ _ (λ text is. is ∙ (simp append_assoc)
    ∙ ap (λ e. codes "end integrity " ++ evidence_text e) (sym c.in-OffPath.is)) c.format-in-OffPath.ensures.ok
