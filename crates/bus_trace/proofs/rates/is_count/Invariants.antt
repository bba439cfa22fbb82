use Rattle.std.proofs.Common.{◌≢◌, ℕ, ◌^◌, ◌<◌}
use Rattle.bus_trace.proofs.rates.is_count.Given as goal

abbrev pub invariant-loop-power : goal.invariant-loop-power
invariant-loop-power l = (low : ℕ) → low < l.power → l.count ≢ 2 ^ low
