use Rattle.bus_schedule.proofs.ScheduleLaws.{slot-within, reads-within, writes-within, slot-rise, moves-rise}
use Rattle.bus_schedule.proofs.schedule_laws.moves_rise.Goals as goal

pub returns-clause-within : goal.returns-clause-within
returns-clause-within c = slot-within

pub returns-clause-reads : goal.returns-clause-reads
returns-clause-reads c = reads-within

pub returns-clause-writes : goal.returns-clause-writes
returns-clause-writes c = writes-within

pub returns-clause-slot : goal.returns-clause-slot
returns-clause-slot c = slot-rise

pub returns-clause-slots : goal.returns-clause-slots
returns-clause-slots c = moves-rise
