-- The greatest end with one header more.
use Rattle.std.proofs.Common.{◌≤◌, ◌+◌, ◌∙◌, arith}
use Rattle.elf_loader.specs.Layout.{end_of}
use Rattle.elf_loader.proofs.Laid.{end_step, ends_inside}
use Rattle.elf_loader.proofs.image.greatest_end.Goals as goal

pub end_from-requires : goal.end_from-requires
end_from-requires c = λ takes.
    let to : end_of c.nth.result ≤ c.args.base + c.args.size =
    ends_inside c.args.base c.args.size c.args.file.now c.loop-index.index c.nth.result c.requires.faultless
    (omega arith) c.nth.ensures takes in
    omega arith

pub loop-index-preserved : goal.loop-index-preserved
loop-index-preserved c =
    let more =
    end_step c.args.base c.args.size c.args.file.now c.loop-index.index c.loop-index.end c.end_from.result c.nth.result
    c.requires.faultless
    (omega arith) c.nth.ensures c.end_from.ensures c.loop-index.invariant.0 c.loop-index.invariant.1 in
    (c.max-end.ensures ∙ more.0, omega (arith, more.1, c.max-end.ensures))
