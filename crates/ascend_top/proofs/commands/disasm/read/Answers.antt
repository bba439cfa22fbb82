use Rattle.std.proofs.Common.{◌∙◌, ap, inl, inr, subst}
use Rattle.asc_base.specs.declared.settings.Settings.{Settings}
use Rattle.ascend_words.specs.Settings.{settings_of}
use Rattle.ascend_top.specs.Steps.{AnElf, Does, Judges, Reads, Refuses}
use Rattle.ascend_top.specs.declared.refusal.Source.TheVariants.{Elf as ElfFile}
use Rattle.ascend_top.proofs.commands.disasm.read.Goals as goal

pub returns-in-Err-read_segments-clause-refused : goal.returns-in-Err-read_segments-clause-refused
returns-in-Err-read_segments-clause-refused g c =
    let old = g.H.Host.state c.args.host.now in
    let new = g.H.Host.state c.read_segments.new.host in
    let refusal = c.in-Err-read_segments.refusal in
    let settings : Settings = settings_of c.args.words.now.given in
    let base = c.in-Ok.ensures.config.base ∙ ap (λ (s : Settings). s.base) c.settings.ensures in
    let size = c.in-Ok.ensures.config.size ∙ ap (λ (s : Settings). s.size) c.settings.ensures in
    inr (
      old,
      subst (λ s. Does (Judges s) old old) c.settings.ensures (c.in-Ok.ensures.judged old),
      inl (subst (λ name. Refuses (Reads ElfFile name (AnElf settings.base settings.size)) refusal old new)
          c.file_of-elf.ensures
          (subst (λ b. Refuses (Reads ElfFile c.file_of-elf.result.now (AnElf b settings.size)) refusal old new) base
          (subst (λ z. Refuses (Reads ElfFile c.file_of-elf.result.now (AnElf c.in-Ok.config.base z)) refusal old new)
          size c.in-Err-read_segments.ensures.refused))),
    )
