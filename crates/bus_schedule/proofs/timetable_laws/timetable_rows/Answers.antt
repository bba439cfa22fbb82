use Rattle.std.proofs.Common.{refl}
use Rattle.asc_base.specs.Greatest.{greatest}
use Rattle.bus_schedule.specs.Timetable.{bits_of, most_of, epoch_at, beat_at, starts_from, starts, timetable, ended_by}
use Rattle.bus_schedule.proofs.timetable_laws.timetable_rows.Goals as goal

pub returns-clause-starts : goal.returns-clause-starts
unfolding greatest bits_of most_of epoch_at starts_from starts timetable
returns-clause-starts c = refl

pub returns-clause-count : goal.returns-clause-count
unfolding greatest bits_of most_of epoch_at starts_from starts timetable
returns-clause-count c = refl

pub returns-clause-end : goal.returns-clause-end
unfolding greatest bits_of most_of epoch_at beat_at
returns-clause-end c = refl

pub returns-clause-next : goal.returns-clause-next
unfolding greatest bits_of most_of epoch_at beat_at
returns-clause-next c = refl

pub returns-clause-first : goal.returns-clause-first
unfolding greatest bits_of most_of epoch_at beat_at starts_from starts timetable
returns-clause-first c = refl

pub returns-clause-before : goal.returns-clause-before
unfolding greatest bits_of most_of epoch_at beat_at starts_from starts timetable ended_by
returns-clause-before c = refl

pub returns-clause-fallen : goal.returns-clause-fallen
unfolding greatest bits_of most_of epoch_at beat_at starts_from starts timetable ended_by
returns-clause-fallen c = refl
