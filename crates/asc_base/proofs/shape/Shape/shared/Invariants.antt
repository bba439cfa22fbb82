use Rattle.std.proofs.Common.{ℕ, ◌<◌, ◌≤◌, ◌≢◌}
use Rattle.asc_base.specs.TreeShape.{bucket_of}
use Rattle.asc_base.proofs.shape.Shape.shared.Given as goal

abbrev pub invariant-loop-level : goal.invariant-loop-level
invariant-loop-level l = record {
  within : l.level ≤ l.self.levels;
  differ : (above : ℕ) → l.level < above → above ≤ l.self.levels
      → bucket_of l.self.levels l.x.0 above ≢ bucket_of l.self.levels l.y.0 above;
}

abbrev pub decreases-loop-level : goal.decreases-loop-level
decreases-loop-level l = l.level
