use Rattle.std.proofs.Common.{◌≡◌, ◌≤◌, ◌+◌, length, drop}
use Rattle.oram_contents.specs.Shapes.{AreOfShape}
use Rattle.oram_contents.specs.PathRead.{join_slots}
use Rattle.unified_tree.specs.Joined.{slots_joined}
use Rattle.unified_tree.proofs.join.join_slots.Given as goal

abbrev pub invariant-loop-slot : goal.invariant-loop-slot
invariant-loop-slot l = record {
  room : 4 ≤ l.hand.spare + l.slot;
  spare : l.fn.hand.spare ≤ l.hand.spare + l.slot;
  more : length l.hand.entries ≤ length l.fn.hand.entries + l.slot;
  of_shape : AreOfShape l.shape l.fn.hand.entries → AreOfShape l.shape l.hand.entries;
  rest : join_slots l.shape.levels l.leaf.0 l.level 0 l.slots l.fn.hand.entries
      ≡ join_slots l.shape.levels l.leaf.0 l.level l.slot (drop l.slot l.slots) l.hand.entries;
  joined : slots_joined l.shape.levels l.leaf.0 l.level 0 l.slots l.fn.hand.entries
      ≡ slots_joined l.shape.levels l.leaf.0 l.level l.slot (drop l.slot l.slots) l.hand.entries;
}
