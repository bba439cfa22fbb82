use Rattle.bus_schedule.proofs.SlotMoves.{length-slot, slot-reads, slot-writes}
use Rattle.bus_schedule.proofs.ScheduleLaws.{moves_of-last}
use Rattle.bus_schedule.proofs.schedule_laws.slots_join.Goals as goal

pub returns-clause-joined : goal.returns-clause-joined
returns-clause-joined c = moves_of-last

pub returns-clause-number : goal.returns-clause-number
returns-clause-number c = length-slot

pub returns-clause-reads : goal.returns-clause-reads
returns-clause-reads c = slot-reads

pub returns-clause-writes : goal.returns-clause-writes
returns-clause-writes c = slot-writes
