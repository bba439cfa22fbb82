use Rattle.std.proofs.Common.{◌≢◌, ℕ, ◌^◌, ◌<◌}
use Rattle.asc_base.proofs.settings.is_power_to.Given as goal

abbrev pub invariant-loop-power : goal.invariant-loop-power
invariant-loop-power l = (low : ℕ) → low < l.power → l.number ≢ 2 ^ low
