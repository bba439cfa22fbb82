use Rattle.bus_schedule.proofs.ChoiceLaws.{codes-few, few-upto, few-timetables, few-in-budget}
use Rattle.bus_schedule.proofs.timetable_laws.timetables_are_few.Goals as goal

pub returns-clause-all : goal.returns-clause-all
returns-clause-all c = few-timetables

pub returns-clause-up_to : goal.returns-clause-up_to
returns-clause-up_to c = few-upto

pub returns-clause-codes : goal.returns-clause-codes
returns-clause-codes c = codes-few

pub returns-clause-budget : goal.returns-clause-budget
returns-clause-budget c = few-in-budget
