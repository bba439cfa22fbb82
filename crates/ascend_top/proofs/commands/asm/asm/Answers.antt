use Rattle.std.proofs.Common.{inl, inr, subst}
use Rattle.ascend_top.specs.Steps.{Refuses, Writes}
use Rattle.ascend_top.proofs.commands.asm.asm.Goals as goal

pub returns-in-Err-write_file : goal.returns-in-Err-write_file
returns-in-Err-write_file g c =
    let at = g.H.Host.state c.assembled.new.host in
    let new = g.H.Host.state c.write_file.new.host in
    inr (
      at,
      c.in-Ok.ensures.done,
      inr (
        c.in-Ok.file.items,
        c.in-Ok.ensures.file,
        inl (subst (λ name. Refuses (Writes name c.in-Ok.file.items) c.in-Err-write_file.refusal at new)
            c.file_of-elf.ensures
            (subst (λ bytes. Refuses (Writes c.file_of-elf.result.now bytes) c.in-Err-write_file.refusal at new)
            c.as_slice.ensures.value c.in-Err-write_file.ensures.refused)),
      ),
    )
