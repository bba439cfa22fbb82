use Rattle.std.proofs.Common.{◌≡◌, ◌≤◌, ◌+◌, ◌*◌, None}
use Rattle.unified_tree.proofs.tests.filled.Given as goal

abbrev pub invariant-loop-entry : goal.invariant-loop-entry
invariant-loop-entry l = record {
  shape : l.tree.shape ≡ l.shape;
  path : l.tree.path ≡ None;
  seed : l.tree.seed ≡ 1;
  spare : 4 * (l.shape.levels + 1) + 2 ≤ l.tree.spare;
}
