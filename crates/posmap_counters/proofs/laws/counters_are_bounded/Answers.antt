use Rattle.posmap_counters.proofs.BoundLaws.{start_bounded, access_bounded, move_opens, child_bounded}
use Rattle.posmap_counters.proofs.BoundLaws.{renumber_bounded, move_closes, asked_bounded, asked_wraps_none}
use Rattle.posmap_counters.proofs.laws.counters_are_bounded.Goals as goal

pub returns-clause-start : goal.returns-clause-start
returns-clause-start c = start_bounded

pub returns-clause-access : goal.returns-clause-access
returns-clause-access c = access_bounded

pub returns-clause-begins : goal.returns-clause-begins
returns-clause-begins c = move_opens

pub returns-clause-child : goal.returns-clause-child
returns-clause-child c = child_bounded

pub returns-clause-renumbered : goal.returns-clause-renumbered
returns-clause-renumbered c = renumber_bounded

pub returns-clause-ends : goal.returns-clause-ends
returns-clause-ends c = move_closes

pub returns-clause-asked : goal.returns-clause-asked
returns-clause-asked c = asked_bounded

pub returns-clause-room : goal.returns-clause-room
returns-clause-room c = asked_wraps_none
