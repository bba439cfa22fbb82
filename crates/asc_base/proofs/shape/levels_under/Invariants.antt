use Rattle.std.proofs.Common.{◌≡◌, ◌+◌, ◌-◌, ◌^◌, ◌≤◌, ◌⊎◌}
use Rattle.asc_base.proofs.shape.levels_under.Given as goal

abbrev pub invariant-loop-levels : goal.invariant-loop-levels
invariant-loop-levels l = record {
  some : 1 ≤ l.levels;
  few : l.levels ≤ 17;
  room : (l.levels ≡ 1) ⊎ (2 ^ (l.levels + 1) ≤ l.total);
}

abbrev pub decreases-loop-levels : goal.decreases-loop-levels
decreases-loop-levels l = 18 - l.levels
