use Rattle.bus_schedule.proofs.TimetableParts.{first-from, first-others, first-is, first-after}
use Rattle.bus_schedule.proofs.starts_laws.first_starts.Goals as goal

pub returns-clause-from : goal.returns-clause-from
returns-clause-from c = first-from

pub returns-clause-others : goal.returns-clause-others
returns-clause-others c = first-others

pub returns-clause-is : goal.returns-clause-is
returns-clause-is c = first-is

pub returns-clause-next : goal.returns-clause-next
returns-clause-next c = first-after
