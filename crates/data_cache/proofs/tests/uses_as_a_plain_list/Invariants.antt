use Rattle.std.proofs.Common.{◌≡◌, length}
use Rattle.data_cache.specs.Contents.{CacheBelow}
use Rattle.data_cache.proofs.tests.uses_as_a_plain_list.Given as goal

abbrev pub invariant-loop-step : goal.invariant-loop-step
invariant-loop-step g l = record {
  lines : length l.flat ≡ 16;
  below : CacheBelow 16 l.cache;
}
