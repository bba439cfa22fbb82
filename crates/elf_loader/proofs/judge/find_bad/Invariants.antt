-- No segment so far has this fault.
use Rattle.std.proofs.Common.{ℕ, ◌<◌}
use Rattle.elf_loader.specs.Elf.{header_at}
use Rattle.elf_loader.specs.Faults.{IsBadSegment}
use Rattle.elf_loader.proofs.judge.find_bad.Given as goal

abbrev pub invariant-loop-index : goal.invariant-loop-index
invariant-loop-index l = (k : ℕ) → k < l.index → ¬ IsBadSegment l.file (header_at l.file k)
