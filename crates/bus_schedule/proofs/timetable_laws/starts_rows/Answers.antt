use Rattle.std.proofs.Common.{refl}
use Rattle.asc_base.specs.Greatest.{greatest}
use Rattle.bus_schedule.specs.Timetable.{bits_of, most_of, epoch_at, starts_from, starts}
use Rattle.bus_schedule.proofs.timetable_laws.starts_rows.Goals as goal

pub returns-clause-two : goal.returns-clause-two
unfolding greatest bits_of most_of epoch_at starts_from starts
returns-clause-two c = refl

pub returns-clause-one : goal.returns-clause-one
unfolding greatest bits_of most_of epoch_at starts_from starts
returns-clause-one c = refl

pub returns-clause-four : goal.returns-clause-four
unfolding greatest bits_of most_of epoch_at starts_from starts
returns-clause-four c = refl

pub returns-clause-alone : goal.returns-clause-alone
unfolding greatest bits_of most_of epoch_at starts_from starts
returns-clause-alone c = refl
