use Rattle.bus_schedule.proofs.Windows.{scheduled-between, scheduled-inside, scheduled-reads, scheduled-writes}
use Rattle.bus_schedule.proofs.scheduled_laws.log_is_scheduled.Goals as goal

pub returns-clause-between : goal.returns-clause-between
returns-clause-between c = scheduled-between

pub returns-clause-inside : goal.returns-clause-inside
returns-clause-inside c = scheduled-inside

pub returns-clause-reads : goal.returns-clause-reads
returns-clause-reads c = scheduled-reads

pub returns-clause-writes : goal.returns-clause-writes
returns-clause-writes c = scheduled-writes
