use Rattle.std.proofs.Common.{take}
use Rattle.std.specs.List.Sorted.{IsNonDecreasingBy}
use Rattle.bus_watch.specs.declared.log.Move.{Move}
use Rattle.bus_trace.proofs.seen.are_ordered.Given as goal

abbrev pub invariant-loop-place : goal.invariant-loop-place
invariant-loop-place l = IsNonDecreasingBy (λ (m : Move). m.time) (take l.place l.moves)
