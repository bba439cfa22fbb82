use Rattle.std.proofs.Common.{◌≡◌, ◌+◌, ◌-◌, ◌*◌, ◌^◌, ◌≤◌}
use Rattle.bus_schedule.proofs.arithmetic.epoch_of.Given as goal

abbrev pub invariant-loop-end : goal.invariant-loop-end
invariant-loop-end l = record {
  from : l.b0 * (2 ^ l.epoch - 1) ≤ l.time;
  end : l.end ≡ l.b0 * (2 ^ (l.epoch + 1) - 1);
}

abbrev pub decreases-loop-end : goal.decreases-loop-end
decreases-loop-end l = l.time + 1 - l.end
