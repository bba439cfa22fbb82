use Rattle.bus_schedule.proofs.ScheduleLaws.{moves-go-on, schedule-goes-on}
use Rattle.bus_schedule.proofs.schedule_laws.moves_go_on.Goals as goal

pub returns-clause-moves : goal.returns-clause-moves
returns-clause-moves c = moves-go-on

pub returns-clause-schedule : goal.returns-clause-schedule
returns-clause-schedule c = schedule-goes-on
