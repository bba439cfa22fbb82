use Rattle.std.proofs.Common.{◌≡◌, ◌∙◌, ◌++◌, ◌≤◌, ap, sym, arith, inl, inr}
use Rattle.std.proofs.lemmas.Bool.{cases_lt}
use Rattle.elf_loader.specs.Elf.{header_count}
use Rattle.elf_loader.specs.declared.fault.ElfFault.TheVariants.{Table}
use Rattle.ascend_top.proofs.ListingLaws.{listed, lines_at, listed_more, listed_all}
use Rattle.ascend_top.proofs.listing.listing_of.Goals as goal

pub loop-index-preserved : goal.loop-index-preserved
loop-index-preserved c =
    c.in_ok-push_segment.ensures
    ∙ ap (λ t. t ++ lines_at c.args.file.now c.loop-index.index) c.loop-index.invariant
    ∙ sym (listed_more c.args.file.now c.loop-index.index)

pub returns : goal.returns
returns c =
    let few : header_count c.args.file.now ≤ 256 =
    elim (cases_lt 256 (header_count c.args.file.now)) [
      | inl many ↦ absurd (c.requires 0 0 Table (omega arith) (inl many))
      | inr few ↦ few
    ] in
    let last : c.loop-index.index ≡ 256 = omega arith in
    c.loop-index.invariant ∙ ap (listed c.args.file.now) last ∙ listed_all c.args.file.now few
