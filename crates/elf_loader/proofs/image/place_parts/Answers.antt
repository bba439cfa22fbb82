-- One part more is in its place.
use Rattle.std.proofs.Common.{◌≡◌, subst, arith}
use Rattle.elf_loader.specs.Elf.{header_count}
use Rattle.elf_loader.specs.Layout.{IsPlaced}
use Rattle.elf_loader.proofs.Laid.{inside_at, laid_bytes, laid_more, sound_at, IsLaidOutTo}
use Rattle.elf_loader.proofs.image.place_parts.Goals as goal

pub place_part-requires-clause-sound : goal.place_part-requires-clause-sound
place_part-requires-clause-sound c =
    sound_at c.args.base c.args.size c.args.file.now c.loop-index.index c.nth.result c.requires.faultless
    (omega arith) c.nth.ensures

pub place_part-requires-clause-inside : goal.place_part-requires-clause-inside
place_part-requires-clause-inside c =
    inside_at c.args.base c.args.size _ c.args.file.now c.loop-index.index c.nth.result c.requires.faultless
    (omega arith) c.nth.ensures
    c.loop-index.invariant.len

pub loop-index-preserved : goal.loop-index-preserved
loop-index-preserved c =
    laid_more c.args.base c.args.size c.args.file.now c.loop-index.index c.loop-index.bytes c.place_part.new.bytes
    c.requires.faultless (omega arith)
    c.loop-index.invariant
    (subst (λ h. IsPlaced c.args.base c.args.file.now h c.loop-index.bytes c.place_part.new.bytes) c.nth.ensures
    c.place_part.ensures)

pub returns : goal.returns
returns c =
    let all : c.loop-index.index ≡ header_count c.args.file.now = omega arith in
    laid_bytes c.args.base c.args.size c.args.file.now c.loop-index.bytes
    (subst (λ n. IsLaidOutTo c.args.base c.args.size c.args.file.now n c.loop-index.bytes) all c.loop-index.invariant)
