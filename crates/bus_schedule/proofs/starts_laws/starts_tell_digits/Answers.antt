use Rattle.bus_schedule.proofs.Digits.{rate-tells, next-tells, starts-tell, fallen-same}
use Rattle.bus_schedule.proofs.starts_laws.starts_tell_digits.Goals as goal

pub returns-clause-rates : goal.returns-clause-rates
returns-clause-rates c = rate-tells

pub returns-clause-next : goal.returns-clause-next
returns-clause-next c = next-tells

pub returns-clause-starts : goal.returns-clause-starts
returns-clause-starts c = starts-tell

pub returns-clause-fallen : goal.returns-clause-fallen
returns-clause-fallen c = fallen-same
