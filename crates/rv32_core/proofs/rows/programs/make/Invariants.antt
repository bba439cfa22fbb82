use Rattle.std.proofs.Common.{◌≡◌, length}
use Rattle.rv32_core.proofs.rows.programs.make.Given as goal

-- the bytes lie where the core's memory does
abbrev pub invariant-loop-call : goal.invariant-loop-call
invariant-loop-call g l = record { base : l.bytes.base ≡ l.core.base; size : length l.bytes.bytes ≡ l.core.size }
