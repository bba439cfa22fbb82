use Rattle.posmap_counters.proofs.AskedLaws.{family-full, family-room, counters-asked}
use Rattle.posmap_counters.proofs.laws.asked_changes_are_steps.Goals as goal

pub returns-clause-must_move : goal.returns-clause-must_move
returns-clause-must_move c = family-full

pub returns-clause-stepped : goal.returns-clause-stepped
returns-clause-stepped c = family-room

pub returns-clause-counters : goal.returns-clause-counters
returns-clause-counters c = counters-asked
