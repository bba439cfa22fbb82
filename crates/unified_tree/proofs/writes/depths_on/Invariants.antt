use Rattle.std.proofs.Common.{◌≡◌, ◌≤◌, ◌++◌, length, vec_capacity}
use Rattle.oram_contents.specs.PathWritten.{depths_of}
use Rattle.unified_tree.proofs.writes.depths_on.Given as goal

abbrev pub invariant-loop-entry : goal.invariant-loop-entry
invariant-loop-entry l = record {
  listed : l.into.items ++ depths_of l.levels l.leaf.0 l.entry-iterator ≡ depths_of l.levels l.leaf.0 l.hand.entries;
  room : length l.hand.entries ≤ vec_capacity l.into;
  capacity : vec_capacity l.fn.into ≤ vec_capacity l.into;
}
