use Rattle.std.proofs.Common.{arith}
use Rattle.bus_watch.proofs.MadeLaws.{ready_after, ready_less}
use Rattle.bus_watch.proofs.laws.buses_stay_ready.Goals as goal

pub returns-clause-after : goal.returns-clause-after
returns-clause-after c = λ end moves events m m2 t t2 buckets moves_left events_left ready made.
    ready_after buckets _ _ moves_left events_left ready made (omega arith) (omega arith)

pub returns-clause-less : goal.returns-clause-less
returns-clause-less c = λ buckets all_moves all_events moves events m t ready fewer fewer_events.
    ready_less buckets all_moves all_events moves events ready fewer fewer_events
