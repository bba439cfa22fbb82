use Rattle.bus_schedule.proofs.ScheduledLaws.{between-without, beat-without}
use Rattle.bus_schedule.proofs.scheduled_laws.slot_ends.Goals as goal

pub returns-clause-between : goal.returns-clause-between
returns-clause-between c = between-without

pub returns-clause-beat : goal.returns-clause-beat
returns-clause-beat c = beat-without
