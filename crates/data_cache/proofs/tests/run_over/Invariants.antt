use Rattle.std.proofs.Common.{◌≡◌, ◌*◌, length}
use Rattle.data_cache.specs.Contents.{CacheBelow}
use Rattle.data_cache.proofs.tests.run_over.Given as goal

abbrev pub invariant-loop-step : goal.invariant-loop-step
invariant-loop-step l = record {
  base : l.core.base ≡ 0;
  size : l.core.size ≡ 64 * length l.lines.flat;
  below : CacheBelow (length l.lines.flat) l.cache;
  lines : length l.lines.flat ≡ 64;
}
