use Rattle.bus_schedule.proofs.TimetableLaws.{starts-agree, timetable-agrees}
use Rattle.bus_schedule.proofs.timetable_laws.choices_decide.Goals as goal

pub returns-clause-starts : goal.returns-clause-starts
returns-clause-starts c = starts-agree

pub returns-clause-timetable : goal.returns-clause-timetable
returns-clause-timetable c = timetable-agrees
