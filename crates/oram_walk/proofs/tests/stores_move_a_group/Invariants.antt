use Rattle.std.proofs.Common.{◌≡◌, ◌≤◌, ◌<◌, vec_len}
use Rattle.oram_walk.proofs.tests.stores_move_a_group.Given as goal

abbrev pub invariant-loop-value : goal.invariant-loop-value
invariant-loop-value g l = record {
  lines : 0 < l.front.shape.lines;
  total : vec_len l.memory.blocks ≡ l.front.shape.total;
  last : l.memory.last ≤ l.asked;
}
