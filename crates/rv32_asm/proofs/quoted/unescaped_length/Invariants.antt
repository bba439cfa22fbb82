use Rattle.std.proofs.Common.{◌≡◌, ◌+◌, ◌≤◌, drop, length}
use Rattle.std.specs.Prelude.{false}
use Rattle.rv32_asm.specs.Operands.{unescaped}
use Rattle.rv32_asm.proofs.quoted.unescaped_length.Given as goal

abbrev pub invariant-loop-byte : goal.invariant-loop-byte
invariant-loop-byte l = record {
  count : l.count + length (unescaped l.is_escaped (drop l.byte-index l.text)) ≡ length (unescaped false l.text);
  within : l.count ≤ l.byte-index;
}
