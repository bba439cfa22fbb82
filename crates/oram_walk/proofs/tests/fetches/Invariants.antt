use Rattle.std.proofs.Common.{◌≡◌, ◌≤◌, vec_len}
use Rattle.oram_walk.proofs.tests.fetches.Given as goal

abbrev pub invariant-loop-line : goal.invariant-loop-line
invariant-loop-line g l = record {
  shape : l.front.shape ≡ l.fn.config.shape;
  total : vec_len l.memory.blocks ≡ l.fn.config.shape.total;
  last : l.memory.last ≤ l.asked;
}
