-- None so far shares memory with the segment.
use Rattle.std.proofs.Common.{ℕ, ◌<◌}
use Rattle.elf_loader.specs.Elf.{header_at}
use Rattle.elf_loader.specs.Faults.{ShareMemory}
use Rattle.elf_loader.proofs.judge.overlaps_lower.Given as goal

abbrev pub invariant-loop-lower : goal.invariant-loop-lower
invariant-loop-lower l = (k : ℕ) → k < l.lower → ¬ ShareMemory (header_at l.file l.fn.index) (header_at l.file k)
