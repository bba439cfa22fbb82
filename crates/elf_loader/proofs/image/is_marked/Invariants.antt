-- The line has no byte of a file part so far.
use Rattle.std.proofs.Common.{ℕ, ◌+◌, ◌*◌, ◌<◌, ◌≡◌, false}
use Rattle.elf_loader.specs.Elf.{header_at}
use Rattle.elf_loader.specs.Layout.{touches}
use Rattle.elf_loader.proofs.image.is_marked.Given as goal

abbrev pub invariant-loop-index : goal.invariant-loop-index
invariant-loop-index l = (k : ℕ) → k < l.index → touches (header_at l.file k) (l.base + 64 * l.line) ≡ false
