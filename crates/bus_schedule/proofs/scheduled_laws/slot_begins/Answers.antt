use Rattle.bus_schedule.proofs.ScheduledLaws.{inside-begin, begin-code}
use Rattle.bus_schedule.proofs.scheduled_laws.slot_begins.Goals as goal

pub returns-clause-inside : goal.returns-clause-inside
returns-clause-inside c = inside-begin

pub returns-clause-code : goal.returns-clause-code
returns-clause-code c = begin-code
