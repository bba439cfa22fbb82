use Rattle.std.proofs.Common.{◌≡◌, take}
use Rattle.bus_watch.specs.Recorder.{lists_of}
use Rattle.bus_trace.specs.OfLog.{seen_in}
use Rattle.bus_trace.proofs.seen.seen.Given as goal

abbrev pub invariant-loop-place : goal.invariant-loop-place
invariant-loop-place l = l.seen.items ≡ take l.place (seen_in l.levels (lists_of l.log))
