use Rattle.std.proofs.Common.{◌≤◌, ◌-◌}
use Rattle.asc_base.specs.TreeShape.{layer_first}
use Rattle.asc_base.proofs.shape.Shape.layer.Given as goal

abbrev pub invariant-loop-layer : goal.invariant-loop-layer
invariant-loop-layer l = layer_first l.self.lines (l.layer - 1) ≤ l.address.0
