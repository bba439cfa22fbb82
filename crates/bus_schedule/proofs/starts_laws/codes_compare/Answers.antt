use Rattle.bus_schedule.specs.Timetable.{count_of}
use Rattle.bus_schedule.proofs.Digits.{code-least, code-next-le, code-next-lt}
use Rattle.bus_schedule.proofs.starts_laws.codes_compare.Goals as goal

pub returns-clause-least : goal.returns-clause-least
returns-clause-least c = λ p code other places. code-least (count_of p) code other places

pub returns-clause-next : goal.returns-clause-next
returns-clause-next c = λ p code other places. code-next-le (count_of p) code other places

pub returns-clause-less : goal.returns-clause-less
returns-clause-less c = λ p code other places. code-next-lt (count_of p) code other places
