use Rattle.bus_schedule.proofs.Windows.{same-starts, same-moves}
use Rattle.bus_schedule.proofs.scheduled_laws.schedule_decides.Goals as goal

pub returns-clause-starts : goal.returns-clause-starts
returns-clause-starts c = same-starts

pub returns-clause-moves : goal.returns-clause-moves
returns-clause-moves c = same-moves
