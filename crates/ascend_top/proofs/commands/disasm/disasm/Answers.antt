use Rattle.std.proofs.Common.{◌≡◌, ◌∙◌, ap, inl, inr, refl, subst}
use Rattle.ascend_words.specs.declared.table.Name.TheVariants.{Elf}
use Rattle.ascend_top.specs.Disasm.{disasm_listing, listing_of}
use Rattle.ascend_top.specs.FlatRun.{bytes_in, file_in}
use Rattle.ascend_top.proofs.Shown.{shows_more}
use Rattle.ascend_top.specs.Steps.{Does, Refuses, Prints}
use Rattle.ascend_top.proofs.commands.disasm.disasm.Goals as goal

pub returns : goal.returns
returns g c =
    let at = g.H.Host.state c.read.new.host in
    let new = g.H.Host.state c.print.new.host in
    let given = c.args.words.now.given in
    let listed = shows_more at.files (λ files. c.in-Ok.file.items ≡ bytes_in files (file_in given Elf))
    (λ files. c.in-Ok-listing_of.text.items ≡ disasm_listing given files)
    (λ files is. c.in-Ok-listing_of.ensures ∙ ap listing_of c.as_slice.ensures.value ∙ ap listing_of is)
    c.in-Ok.ensures.told in
    inr (
      at,
      c.in-Ok.ensures.done,
      inr (
        c.in-Ok-listing_of.text.items,
        listed,
        inl (subst (λ text. Refuses (Prints text) c.in-Err-print.refusal at new) c.as_slice-2.ensures.value
            c.in-Err-print.ensures.refused),
      ),
    )

pub returns-in-Err-listing_of : goal.returns-in-Err-listing_of
returns-in-Err-listing_of g c = inr (g.H.Host.state c.read.new.host, c.in-Ok.ensures.done, inl (refl, refl))

pub returns-in-Ok-print : goal.returns-in-Ok-print
returns-in-Ok-print g c =
    let at = g.H.Host.state c.read.new.host in
    let new = g.H.Host.state c.print.new.host in
    let given = c.args.words.now.given in (
      at,
      c.in-Ok.ensures.done,
      shows_more at.files (λ files. c.in-Ok.file.items ≡ bytes_in files (file_in given Elf))
          (λ files. c.in-Ok-listing_of.text.items ≡ disasm_listing given files)
          (λ files is. c.in-Ok-listing_of.ensures ∙ ap listing_of c.as_slice.ensures.value ∙ ap listing_of is)
          c.in-Ok.ensures.told,
      (
        new,
        subst (λ text. Does (Prints text) at new) c.as_slice-2.ensures.value c.in-Ok-print.ensures.printed,
        refl,
      ),
    )
