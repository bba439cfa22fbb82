use Rattle.bus_schedule.proofs.DigitRows.{first-digit, least-code}
use Rattle.bus_schedule.proofs.starts_laws.digit_rows.Goals as goal

pub returns-clause-digit : goal.returns-clause-digit
returns-clause-digit c = first-digit

pub returns-clause-least : goal.returns-clause-least
returns-clause-least c = least-code
