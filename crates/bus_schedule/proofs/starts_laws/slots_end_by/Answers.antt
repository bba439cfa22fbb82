use Rattle.std.proofs.Common.{ap}
use Rattle.bus_schedule.specs.Timetable.{beat_at}
use Rattle.bus_schedule.proofs.TimetableParts.{ended-between, ended-inside}
use Rattle.bus_schedule.proofs.starts_laws.slots_end_by.Goals as goal

pub returns-clause-between : goal.returns-clause-between
returns-clause-between c = ended-between

pub returns-clause-inside : goal.returns-clause-inside
returns-clause-inside c = ended-inside

pub returns-clause-fallen : goal.returns-clause-fallen
returns-clause-fallen c = λ p code n end is. ap (λ m. (beat_at p code m).choices) is
