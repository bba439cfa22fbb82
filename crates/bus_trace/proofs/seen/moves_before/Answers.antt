use Rattle.std.proofs.Common.{arith, rules, sym}
use Rattle.std.specs.Prelude.{nat_lt}
use Rattle.std.proofs.lemmas.List.Sorted.{IsPartitionPoint-from_clause, IsPartitionedBy-ltb}
use Rattle.bus_watch.specs.declared.log.Move.{Move}
use Rattle.bus_trace.proofs.Counts.{all_pass}
use Rattle.bus_trace.proofs.seen.moves_before.Goals as goal

pub returns-then-ordered : goal.returns-then-ordered
returns-then-ordered c =
    let p = λ (m : Move). nat_lt m.time c.args.time in
    let sorted = IsPartitionedBy-ltb (λ (m : Move). m.time) c.args.moves.now c.args.time
    (c.requires c.if-ordered.true) in
    let point = IsPartitionPoint-from_clause p c.args.moves.now c.partition_point.result
    c.partition_point.ensures.partitioned sorted (λ a r f' k. search rules) in
    sym (all_pass p c.args.moves.now c.partition_point.result c.partition_point.ensures.bound
    (λ i d lt. point.0 i d (omega arith) lt) (λ i d from lt. point.1 i d from lt))
