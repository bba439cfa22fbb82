use Rattle.std.proofs.Common.{ap, ◌∙◌}
use Rattle.bus_schedule.specs.Timetable.{count_of, most_of}
use Rattle.bus_schedule.proofs.ChoiceLaws.{choices-few, most-one, most-none, most-bits, bits_of-pow, most-pow}
use Rattle.bus_schedule.proofs.timetable_laws.choices_are_few.Goals as goal

pub returns-clause-most : goal.returns-clause-most
returns-clause-most c = choices-few

pub returns-clause-allowed : goal.returns-clause-allowed
returns-clause-allowed c = λ p bits some e. ap (λ count. most_of count p.leak) e ∙ most-pow bits p.leak some

pub returns-clause-one_rate : goal.returns-clause-one_rate
returns-clause-one_rate c = λ p h. most-one (count_of p) p.leak h

pub returns-clause-small_budget : goal.returns-clause-small_budget
returns-clause-small_budget c = λ p h. most-none (count_of p) p.leak h

pub returns-clause-budget : goal.returns-clause-budget
returns-clause-budget c = λ p. most-bits (count_of p) p.leak

pub returns-clause-bits : goal.returns-clause-bits
returns-clause-bits c = bits_of-pow
