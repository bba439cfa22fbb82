use Rattle.ascend_top.proofs.StepLaws.{read_done}
use Rattle.ascend_top.specs.declared.refusal.Source.TheVariants.{Text as TextFile}
use Rattle.rv32_asm.specs.File.{assembled}
use Rattle.std.proofs.Common.{IsOk, refl, subst, sym}
use Rattle.ascend_top.specs.Steps.{AText}
use Rattle.ascend_top.proofs.steps.read_text.Goals as goal

pub returns-in-Err-clause-refused : goal.returns-in-Err-clause-refused
returns-in-Err-clause-refused g c = c.in-Err.ensures.refused (AText c.args.at)

pub returns-in-Ok-assemble-clause-read : goal.returns-in-Ok-assemble-clause-read
returns-in-Ok-assemble-clause-read g c =
    read_done TextFile c.args.name.now c.in-Ok.text.items (AText c.args.at) (g.H.Host.state c.args.host.now)
    (g.H.Host.state c.read_file.new.host) c.in-Ok.ensures.read
    (subst (λ bytes. IsOk (assembled c.args.at bytes)) c.as_slice.ensures.value
    (subst IsOk (sym c.in-Ok-assemble.ensures) refl))
