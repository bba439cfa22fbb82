use Rattle.std.proofs.Common.{◌≡◌, ◌+◌, drop}
use Rattle.std.specs.Prelude.{option_map, false}
use Rattle.rv32_asm.specs.Operands.{quoted_length}
use Rattle.rv32_asm.proofs.quoted.quoted_length.Given as goal

abbrev pub invariant-loop-place : goal.invariant-loop-place
invariant-loop-place l =
    option_map (λ count. l.place + count) (quoted_length l.is_escaped (drop l.place l.text))
    ≡ quoted_length false l.text
