use Rattle.std.proofs.Common.{length}
use Rattle.bus_trace.proofs.RateLaws.{HasRead}
use Rattle.bus_trace.proofs.rates.numbers.Given as goal

abbrev pub invariant-loop-number : goal.invariant-loop-number
invariant-loop-number l = HasRead l.text l.found l.rest

abbrev pub decreases-loop-number : goal.decreases-loop-number
decreases-loop-number l = length l.rest
