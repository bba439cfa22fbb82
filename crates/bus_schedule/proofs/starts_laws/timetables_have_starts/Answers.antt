use Rattle.bus_schedule.proofs.TimetableParts.{timetable-has, timetable-is, timetable-at, timetable-first}
use Rattle.bus_schedule.proofs.TimetableParts.{timetable-few}
use Rattle.bus_schedule.proofs.starts_laws.timetables_have_starts.Goals as goal

pub returns-clause-has : goal.returns-clause-has
returns-clause-has c = timetable-has

pub returns-clause-is : goal.returns-clause-is
returns-clause-is c = timetable-is

pub returns-clause-at : goal.returns-clause-at
returns-clause-at c = timetable-at

pub returns-clause-first : goal.returns-clause-first
returns-clause-first c = timetable-first

pub returns-clause-few : goal.returns-clause-few
returns-clause-few c = timetable-few
