use Rattle.bus_schedule.proofs.AskedLaws.{serves-none, serves-kept, serves-dummy, serves-real, serves-each}
use Rattle.bus_schedule.proofs.AskedLaws.{scheduled-first}
use Rattle.bus_schedule.proofs.asked_laws.slots_serve_promptly.Goals as goal

pub returns-clause-empty : goal.returns-clause-empty
returns-clause-empty c = serves-none

pub returns-clause-kept : goal.returns-clause-kept
returns-clause-kept c = serves-kept

pub returns-clause-dummy : goal.returns-clause-dummy
returns-clause-dummy c = serves-dummy

pub returns-clause-real : goal.returns-clause-real
returns-clause-real c = serves-real

pub returns-clause-each : goal.returns-clause-each
returns-clause-each c = serves-each

pub returns-clause-scheduled : goal.returns-clause-scheduled
returns-clause-scheduled c = scheduled-first
