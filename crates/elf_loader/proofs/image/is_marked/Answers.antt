-- A line is marked where one header touches it.
use Rattle.std.proofs.Common.{◌+◌, ◌*◌, ◌∙◌, sym, ap, arith}
use Rattle.elf_loader.specs.Elf.{header_count}
use Rattle.elf_loader.specs.Layout.{touches}
use Rattle.elf_loader.proofs.Laid.{any_header, no_header}
use Rattle.elf_loader.proofs.image.is_marked.Goals as goal

pub returns-then-touches : goal.returns-then-touches
returns-then-touches c =
    sym (any_header (λ h. touches h (c.args.base + 64 * c.args.line)) c.args.file.now
    (header_count c.args.file.now) c.loop-index.index (omega arith)
    (sym (ap (λ h. touches h (c.args.base + 64 * c.args.line)) c.nth.ensures) ∙ sym c.touches.ensures
    ∙ c.if-touches.true))

pub returns : goal.returns
returns c =
    sym (no_header (λ h. touches h (c.args.base + 64 * c.args.line)) c.args.file.now (header_count c.args.file.now)
    (λ k below. c.loop-index.invariant k (omega arith)))
