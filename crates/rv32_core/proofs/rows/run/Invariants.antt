use Rattle.std.proofs.Common.{◌≡◌, length}
use Rattle.rv32_core.proofs.rows.run.Given as goal

-- the core and its bytes stay where they are
abbrev pub invariant-loop-i : goal.invariant-loop-i
invariant-loop-i l = record {
  core_base : l.core.base ≡ l.fn.core.base;
  core_size : l.core.size ≡ l.fn.core.size;
  bytes_base : l.bytes.base ≡ l.fn.bytes.base;
  bytes_size : length l.bytes.bytes ≡ length l.fn.bytes.bytes;
}
