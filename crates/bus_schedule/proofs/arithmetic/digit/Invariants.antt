use Rattle.std.proofs.Common.{◌≡◌, ◌/◌, ◌^◌}
use Rattle.bus_schedule.proofs.arithmetic.digit.Given as goal

abbrev pub invariant-loop : goal.invariant-loop
invariant-loop l = l.rest ≡ l.code / l.base ^ l.counter
