use Rattle.std.proofs.Common.{refl}
use Rattle.bus_watch.specs.declared.log.Event.TheVariants.{Tagged, Accepted, Answered}
use Rattle.bus_schedule.proofs.ScheduledLaws.{silent-none, silent-append, silent-one}
use Rattle.bus_schedule.proofs.scheduled_laws.events_are_silent.Goals as goal

pub returns-clause-none : goal.returns-clause-none
returns-clause-none c = silent-none

pub returns-clause-both : goal.returns-clause-both
returns-clause-both c = silent-append

pub returns-clause-tagged : goal.returns-clause-tagged
returns-clause-tagged c = λ message. silent-one (Tagged message) refl refl refl

pub returns-clause-accepted : goal.returns-clause-accepted
returns-clause-accepted c = λ message tag. silent-one (Accepted message tag) refl refl refl

pub returns-clause-answered : goal.returns-clause-answered
returns-clause-answered c = λ line value. silent-one (Answered line value) refl refl refl
