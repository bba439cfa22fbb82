use Rattle.std.proofs.Common.{◌≡◌, ◌++◌, drop}
use Rattle.rv32_asm.specs.File.{halves}
use Rattle.rv32_asm.proofs.file.push_halves.Given as goal

abbrev pub invariant-loop-half : goal.invariant-loop-half
invariant-loop-half l = l.into.items ++ halves (drop l.half-index l.numbers) ≡ l.fn.into.items ++ halves l.fn.numbers
