use Rattle.std.proofs.Common.{◌≡◌, ℕ, ◌+◌, ◌-◌, ◌<◌, ◌≤◌}
use Rattle.asc_base.specs.Shape.{places_of}
use Rattle.asc_base.specs.TreeShape.{layer_count, layer_first}
use Rattle.asc_base.proofs.shape.Layers.over.Given as goal

abbrev pub invariant-loop-counts : goal.invariant-loop-counts
invariant-loop-counts l = record {
  one_of_five : l.top ≤ 4;
  firsts : l.firsts ≡ places_of (layer_first l.lines) (l.top + 1);
  counts : l.counts ≡ places_of (layer_count l.lines) (l.top + 1);
  more : (low : ℕ) → low < l.top → l.roots < layer_count l.lines low;
}

abbrev pub decreases-loop-counts : goal.decreases-loop-counts
decreases-loop-counts l = 5 - l.top
