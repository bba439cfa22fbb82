use Rattle.std.proofs.Common.{◌≡◌, take, map}
use Rattle.asc_base.specs.declared.block.Leaf.{Leaf}
use Rattle.bus_schedule.specs.Shown.{leaves_of}
use Rattle.bus_trace.proofs.seen.leaves.Given as goal

abbrev pub invariant-loop-event : goal.invariant-loop-event
invariant-loop-event l =
    map (λ (leaf : Leaf). leaf.0) l.leaves.items ≡ leaves_of (take l.event-index l.events)
