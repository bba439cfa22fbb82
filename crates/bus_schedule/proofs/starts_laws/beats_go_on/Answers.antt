use Rattle.std.proofs.Common.{refl}
use Rattle.bus_schedule.specs.Timetable.{beat_at}
use Rattle.bus_schedule.proofs.TimetableLaws.{length-starts, end-far, end-before}
use Rattle.bus_schedule.proofs.TimetableParts.{starts-at, start-order}
use Rattle.bus_schedule.proofs.starts_laws.beats_go_on.Goals as goal

pub returns-clause-first : goal.returns-clause-first
unfolding beat_at
returns-clause-first c = λ p code. refl

pub returns-clause-next : goal.returns-clause-next
unfolding beat_at
returns-clause-next c = λ p code n. refl

pub returns-clause-starts : goal.returns-clause-starts
returns-clause-starts c = length-starts

pub returns-clause-at : goal.returns-clause-at
returns-clause-at c = starts-at

pub returns-clause-order : goal.returns-clause-order
returns-clause-order c = start-order

pub returns-clause-length : goal.returns-clause-length
returns-clause-length c = end-far

pub returns-clause-ended : goal.returns-clause-ended
returns-clause-ended c = end-before
