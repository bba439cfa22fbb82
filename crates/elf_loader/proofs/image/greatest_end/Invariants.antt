-- The greatest end so far.
use Rattle.std.proofs.Common.{◌+◌, ◌≤◌, ◌≡◌}
use Rattle.elf_loader.specs.Elf.{first_headers}
use Rattle.elf_loader.specs.Layout.{greatest_end}
use Rattle.elf_loader.proofs.image.greatest_end.Given as goal

abbrev pub invariant-loop-index : goal.invariant-loop-index
invariant-loop-index l = (l.end ≡ greatest_end l.base (first_headers l.file l.index)) × (l.end ≤ l.base + l.size)
