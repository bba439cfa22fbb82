use Rattle.bus_schedule.proofs.CodeLaws.{code-append, code-below, digit-of-code, digit-lower, digit-highest}
use Rattle.bus_schedule.proofs.timetable_laws.codes_have_digits.Goals as goal

pub returns-clause-appended : goal.returns-clause-appended
returns-clause-appended c = λ base index digits. code-append base digits index

pub returns-clause-below : goal.returns-clause-below
returns-clause-below c = code-below

pub returns-clause-digits : goal.returns-clause-digits
returns-clause-digits c = λ base place digits. digit-of-code base digits place

pub returns-clause-highest : goal.returns-clause-highest
returns-clause-highest c = digit-highest

pub returns-clause-lower : goal.returns-clause-lower
returns-clause-lower c = digit-lower
