use Rattle.bus_schedule.proofs.ScheduledLaws.{chosen-few, chosen-below, scheduled-few, scheduled-below}
use Rattle.bus_schedule.proofs.ScheduledLaws.{scheduled-codes, scheduled-budget, scheduled-config}
use Rattle.bus_schedule.proofs.scheduled_laws.code_is_bounded.Goals as goal

pub returns-clause-choices : goal.returns-clause-choices
returns-clause-choices c = chosen-few

pub returns-clause-code : goal.returns-clause-code
returns-clause-code c = chosen-below

pub returns-clause-scheduled_choices : goal.returns-clause-scheduled_choices
returns-clause-scheduled_choices c = scheduled-few

pub returns-clause-scheduled_code : goal.returns-clause-scheduled_code
returns-clause-scheduled_code c = scheduled-below

pub returns-clause-codes : goal.returns-clause-codes
returns-clause-codes c = scheduled-codes

pub returns-clause-budget : goal.returns-clause-budget
returns-clause-budget c = scheduled-budget

pub returns-clause-config : goal.returns-clause-config
returns-clause-config c = scheduled-config
