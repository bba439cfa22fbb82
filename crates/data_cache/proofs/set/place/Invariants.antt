use Rattle.std.proofs.Common.{◌≡◌, ◌++◌, take, drop}
use Rattle.data_cache.specs.Contents.{find_line, without}
use Rattle.data_cache.proofs.set.place.Given as goal

abbrev pub invariant-loop-i : goal.invariant-loop-i
invariant-loop-i l = record {
  found : find_line l.line l.set ≡ find_line l.line (drop l.i l.set);
  rest : without l.line l.set ≡ take l.i l.set ++ without l.line (drop l.i l.set);
}
