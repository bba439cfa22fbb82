use Rattle.bus_schedule.proofs.PublicParts.{count-is, count-power, first-among, epoch-some}
use Rattle.bus_schedule.proofs.timetable_laws.public_parts.Goals as goal

pub returns-clause-count : goal.returns-clause-count
returns-clause-count c = count-is

pub returns-clause-power : goal.returns-clause-power
returns-clause-power c = count-power

pub returns-clause-first : goal.returns-clause-first
returns-clause-first c = first-among

pub returns-clause-epoch : goal.returns-clause-epoch
returns-clause-epoch c = epoch-some

pub returns-clause-rise : goal.returns-clause-rise
returns-clause-rise c = λ config h. h.rates.rise
