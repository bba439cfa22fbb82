use Rattle.bus_schedule.proofs.ScheduledLaws.{between-none}
use Rattle.bus_schedule.proofs.scheduled_laws.log_starts.Goals as goal

pub returns : goal.returns
returns c = between-none
