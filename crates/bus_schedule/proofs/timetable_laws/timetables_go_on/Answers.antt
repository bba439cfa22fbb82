use Rattle.bus_schedule.proofs.TimetableLaws.{timetable-between, timetable-inside, timetable-goes-on}
use Rattle.bus_schedule.proofs.timetable_laws.timetables_go_on.Goals as goal

pub returns-clause-between : goal.returns-clause-between
returns-clause-between c = timetable-between

pub returns-clause-inside : goal.returns-clause-inside
returns-clause-inside c = timetable-inside

pub returns-clause-later : goal.returns-clause-later
returns-clause-later c = timetable-goes-on
