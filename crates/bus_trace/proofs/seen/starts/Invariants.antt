use Rattle.std.proofs.Common.{◌≡◌, take}
use Rattle.bus_schedule.specs.Shown.{starts_of}
use Rattle.bus_trace.proofs.seen.starts.Given as goal

abbrev pub invariant-loop-event : goal.invariant-loop-event
invariant-loop-event l = l.starts.items ≡ starts_of (take l.event-index l.events)
