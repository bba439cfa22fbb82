use Rattle.std.proofs.Common.{[], subst, ◌∙◌}
use Rattle.std.proofs.lemmas.Result.{IfErr-weaker}
use Rattle.ascend_words.specs.Settings.{text_in}
use Rattle.ascend_words.specs.declared.table.Name.TheVariants.{Trace as TraceName}
use Rattle.ascend_top.specs.Steps.{AllDone, Does, Prints, Refuses, Writes, where_named}
use Rattle.ascend_top.specs.Texts.{run_text}
use Rattle.ascend_top.proofs.RunLaws.{print_refuses}
use Rattle.ascend_top.proofs.StepLaws.{print_lost}
use Rattle.ascend_top.proofs.commands.run.report.Goals as goal

pub returns-in-Ok-run_text-clause-refused : goal.returns-in-Ok-run_text-clause-refused
returns-in-Ok-run_text-clause-refused g c =
    let given = c.args.words.now.given in
    let run = c.args.run.now in
    let old = g.H.Host.state c.args.host.now in
    let mid = g.H.Host.state c.write_file.new.host in
    let after = g.H.Host.state c.write_where_named.new.host in
    let new = g.H.Host.state c.print.new.host in
    let does = subst (λ name. Does (Writes name run.report.output.items) old mid) c.file_of-output.ensures
    (subst (λ bytes. Does (Writes c.file_of-output.result.now bytes) old mid) c.as_slice.ensures.value
    c.in-Ok.ensures.written) in
    let done = subst (λ bytes. AllDone (where_named (text_in given TraceName) bytes []) mid after)
    c.as_slice-2.ensures.value c.in-Ok-write_where_named.ensures.done in
    IfErr-weaker c.print.result (λ refusal. Refuses (Prints c.as_bytes.result.now) refusal after new) _
    (λ refusal refuses. print_refuses given run refusal old mid after new does done
    (subst (λ text. Refuses (Prints text) refusal after new) (c.as_bytes.ensures.value ∙ c.in-Ok-run_text.ensures)
    refuses)) c.print.ensures.refused

pub returns-in-Err-run_text-clause-refused : goal.returns-in-Err-run_text-clause-refused
returns-in-Err-run_text-clause-refused g c =
    let given = c.args.words.now.given in
    let run = c.args.run.now in
    let old = g.H.Host.state c.args.host.now in
    let mid = g.H.Host.state c.write_file.new.host in
    let after = g.H.Host.state c.write_where_named.new.host in
    let does = subst (λ name. Does (Writes name run.report.output.items) old mid) c.file_of-output.ensures
    (subst (λ bytes. Does (Writes c.file_of-output.result.now bytes) old mid) c.as_slice.ensures.value
    c.in-Ok.ensures.written) in
    let done = subst (λ bytes. AllDone (where_named (text_in given TraceName) bytes []) mid after)
    c.as_slice-2.ensures.value c.in-Ok-write_where_named.ensures.done in
    print_refuses given run _ old mid after after does done (print_lost (run_text run.report run.altered) after)
