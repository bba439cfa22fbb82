use Rattle.std.specs.Prelude.{string_bytes}
use Rattle.std.proofs.lemmas.Result.{IfOk-weaker}
use Rattle.ascend_top.proofs.ReportLaws.{ten_lines}
use Rattle.ascend_top.proofs.text.run.run_text.Goals as goal

pub returns : goal.returns
returns c =
    IfOk-weaker c.format-3.result _ _ (λ text is. ten_lines c.args.run.now.report c.args.run.now.altered
    (string_bytes c.in_ok-ending.ending) (string_bytes c.in_ok-first.first) (string_bytes c.in_ok-second.second)
    (string_bytes text) c.in_ok-ending.ensures c.in_ok-first.ensures.ok c.in_ok-second.ensures.ok is)
    c.format-3.ensures.ok
