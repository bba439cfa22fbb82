use Rattle.bus_schedule.proofs.AskedLaws.{between-first}
use Rattle.bus_schedule.proofs.asked_laws.next_slot_is_first.Goals as goal

pub returns : goal.returns
returns c = between-first
