use Rattle.bus_schedule.proofs.ChoiceLaws.{rate-among}
use Rattle.bus_schedule.proofs.TimetableLaws.{start-first, start-next, start-rises, timetable-rises}
use Rattle.bus_schedule.proofs.timetable_laws.slots_apart.Goals as goal

pub returns-clause-first : goal.returns-clause-first
returns-clause-first c = start-first

pub returns-clause-next : goal.returns-clause-next
returns-clause-next c = start-next

pub returns-clause-rate : goal.returns-clause-rate
returns-clause-rate c = rate-among

pub returns-clause-apart : goal.returns-clause-apart
returns-clause-apart c = start-rises

pub returns-clause-timetable : goal.returns-clause-timetable
returns-clause-timetable c = timetable-rises
