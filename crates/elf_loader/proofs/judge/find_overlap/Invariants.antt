-- No segment so far has this fault.
use Rattle.std.proofs.Common.{ℕ, ◌<◌}
use Rattle.elf_loader.specs.Faults.{OverlapsLower}
use Rattle.elf_loader.proofs.judge.find_overlap.Given as goal

abbrev pub invariant-loop-index : goal.invariant-loop-index
invariant-loop-index l = (k : ℕ) → k < l.index → ¬ OverlapsLower l.file k
