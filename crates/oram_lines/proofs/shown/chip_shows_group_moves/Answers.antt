use Rattle.oram_lines.proofs.ShownMoves.{full_shown, move_begins, child_shown, held_child_shown, move_ends}
use Rattle.oram_lines.proofs.shown.chip_shows_group_moves.Goals as goal

pub returns-clause-full : goal.returns-clause-full
returns-clause-full c = full_shown

pub returns-clause-begins : goal.returns-clause-begins
returns-clause-begins c = move_begins

pub returns-clause-child : goal.returns-clause-child
returns-clause-child c = child_shown

pub returns-clause-held_child : goal.returns-clause-held_child
returns-clause-held_child c = held_child_shown

pub returns-clause-ends : goal.returns-clause-ends
returns-clause-ends c = move_ends
