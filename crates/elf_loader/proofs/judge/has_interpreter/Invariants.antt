-- No header so far names an interpreter.
use Rattle.std.proofs.Common.{ℕ, ◌<◌}
use Rattle.elf_loader.specs.Elf.{header_at}
use Rattle.elf_loader.specs.Faults.{IsInterpreter}
use Rattle.elf_loader.proofs.judge.has_interpreter.Given as goal

abbrev pub invariant-loop-index : goal.invariant-loop-index
invariant-loop-index l = (k : ℕ) → k < l.index → ¬ IsInterpreter (header_at l.file k)
