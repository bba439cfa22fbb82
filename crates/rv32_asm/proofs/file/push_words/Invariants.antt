use Rattle.std.proofs.Common.{◌≡◌, ◌++◌, drop}
use Rattle.rv32_asm.specs.File.{words}
use Rattle.rv32_asm.proofs.file.push_words.Given as goal

abbrev pub invariant-loop-word : goal.invariant-loop-word
invariant-loop-word l = l.into.items ++ words (drop l.word-index l.numbers) ≡ l.fn.into.items ++ words l.fn.numbers
