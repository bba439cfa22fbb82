use Rattle.std.proofs.Common.{length}
use Rattle.bus_trace.specs.Trace.{public_of}
use Rattle.bus_trace.proofs.ReadLaws.{HasItems}
use Rattle.bus_trace.proofs.reader.read_items.Given as goal

abbrev pub invariant-loop-accesses : goal.invariant-loop-accesses
invariant-loop-accesses l = HasItems (public_of l.header) l.text l.accesses.items l.number l.rest

abbrev pub decreases-loop-accesses : goal.decreases-loop-accesses
decreases-loop-accesses l = length l.rest
