use Rattle.std.proofs.Common.{sym}
use Rattle.bus_schedule.proofs.ScheduledLaws.{between-same, inside-more, same-code, shown-indices, shows-same}
use Rattle.bus_schedule.proofs.ScheduledLaws.{shows-more, shows-joined}
use Rattle.bus_schedule.proofs.scheduled_laws.slot_goes_on.Goals as goal

pub returns-clause-between : goal.returns-clause-between
returns-clause-between c = between-same

pub returns-clause-inside : goal.returns-clause-inside
returns-clause-inside c = inside-more

pub returns-clause-code : goal.returns-clause-code
returns-clause-code c = λ p old new same. sym (same-code p old new (shown-indices old new same))

pub returns-clause-same : goal.returns-clause-same
returns-clause-same c = shows-same

pub returns-clause-more : goal.returns-clause-more
returns-clause-more c = shows-more

pub returns-clause-joined : goal.returns-clause-joined
returns-clause-joined c = shows-joined
