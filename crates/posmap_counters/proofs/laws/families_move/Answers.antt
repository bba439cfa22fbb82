use Rattle.posmap_counters.proofs.MoveLaws.{move_begins, child_moves, move_ends, prefix_moves, move_counters}
use Rattle.posmap_counters.proofs.laws.families_move.Goals as goal

pub returns-clause-begins : goal.returns-clause-begins
returns-clause-begins c = move_begins

pub returns-clause-child : goal.returns-clause-child
returns-clause-child c = child_moves

pub returns-clause-ends : goal.returns-clause-ends
returns-clause-ends c = move_ends

pub returns-clause-prefix : goal.returns-clause-prefix
returns-clause-prefix c = prefix_moves

pub returns-clause-whole : goal.returns-clause-whole
returns-clause-whole c = move_counters
