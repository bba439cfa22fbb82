use Rattle.rv32_asm.proofs.Digits.{IsReading}
use Rattle.rv32_asm.proofs.scanning.digits.Given as goal

abbrev pub invariant-loop-byte : goal.invariant-loop-byte
invariant-loop-byte l = IsReading l.radix l.text l.byte-index l.number
