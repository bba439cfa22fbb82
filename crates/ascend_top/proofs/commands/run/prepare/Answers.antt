use Rattle.std.proofs.Common.{◌≡◌, inl, inr, subst, ◌∙◌}
use Rattle.ascend_words.specs.Settings.{settings_of}
use Rattle.ascend_words.specs.declared.table.Command.TheVariants.{Run}
use Rattle.ascend_top.specs.FlatRun.{bytes_in}
use Rattle.ascend_top.specs.Steps.{AKey, Does, Judges, Reads, Refuses, Shows}
use Rattle.ascend_top.specs.Parts.{IsProgramOf}
use Rattle.ascend_top.specs.declared.refusal.Source.TheVariants.{Key as KeyFile}
use Rattle.ascend_top.proofs.EndLaws.{program_files}
use Rattle.ascend_top.proofs.RunLaws.{begins}
use Rattle.ascend_top.proofs.commands.run.prepare.Goals as goal

pub returns-in-Err-read_key-clause-refused : goal.returns-in-Err-read_key-clause-refused
returns-in-Err-read_key-clause-refused g c =
    let old = g.H.Host.state c.args.host.now in
    inr (
      old,
      subst (λ settings. Does (Judges settings) old old) c.settings.ensures (c.in-Ok.ensures.judged old),
      inl (subst (λ name. Refuses (Reads KeyFile name AKey) c.in-Err-read_key.refusal old
          (g.H.Host.state c.read_key.new.host)) c.file_of-key.ensures c.in-Err-read_key.ensures.refused),
    )

pub returns-in-Ok-read_program-clause-done : goal.returns-in-Ok-read_program-clause-done
returns-in-Ok-read_program-clause-done g c =
    let old = g.H.Host.state c.args.host.now in
    let mid = g.H.Host.state c.read_key.new.host in (
      old,
      subst (λ settings. Does (Judges settings) old old) c.settings.ensures (c.in-Ok.ensures.judged old),
      (
        mid,
        subst (λ name. Does (Reads KeyFile name AKey) old mid) c.file_of-key.ensures c.in-Ok-read_key.ensures.read,
        c.in-Ok-read_program.ensures.done,
      ),
    )

pub returns-in-Err-read_program-clause-refused : goal.returns-in-Err-read_program-clause-refused
returns-in-Err-read_program-clause-refused g c =
    let old = g.H.Host.state c.args.host.now in
    let mid = g.H.Host.state c.read_key.new.host in
    inr (
      old,
      subst (λ settings. Does (Judges settings) old old) c.settings.ensures (c.in-Ok.ensures.judged old),
      inr (
        mid,
        subst (λ name. Does (Reads KeyFile name AKey) old mid) c.file_of-key.ensures c.in-Ok-read_key.ensures.read,
        c.in-Err-read_program.ensures.refused,
      ),
    )

pub returns-in-Ok-read_program-clause-begin : goal.returns-in-Ok-read_program-clause-begin
returns-in-Ok-read_program-clause-begin g c =
    let given = c.args.words.now.given in
    let old = g.H.Host.state c.args.host.now in
    let mid = g.H.Host.state c.read_key.new.host in
    let new = g.H.Host.state c.read_program.new.host in
    let later = program_files (settings_of given) given mid new c.in-Ok-read_program.ensures.done in
    begins Run given old.files c.settings.result.now c.in-Ok.config c.in-Ok-read_key.key c.in-Ok-read_program.program
    c.settings.ensures c.in-Ok.ensures.config c.in-Ok-read_program.ensures.config c.in-Ok-read_program.ensures.can
    c.in-Ok-read_key.ensures.length
    (λ files told. subst (λ name. c.in-Ok-read_key.key ≡ bytes_in files name) c.file_of-key.ensures
    (c.in-Ok-read_key.ensures.key files (c.in-Ok-read_key.ensures.read.files ∙ told)))
    (subst (λ told. Shows told (λ files. Shows told (λ after.
    IsProgramOf given files after c.in-Ok-read_program.program)))
    (later ∙ c.in-Ok-read_key.ensures.read.files) c.in-Ok-read_program.ensures.told)
