use Rattle.std.proofs.Common.{◌≡◌, ◌++◌, drop}
use Rattle.std.specs.Prelude.{false}
use Rattle.rv32_asm.specs.Operands.{unescaped}
use Rattle.rv32_asm.proofs.quoted.push_unescaped.Given as goal

abbrev pub invariant-loop-byte : goal.invariant-loop-byte
invariant-loop-byte l =
    l.into.items ++ unescaped l.is_escaped (drop l.byte-index l.text) ≡ l.fn.into.items ++ unescaped false l.text
