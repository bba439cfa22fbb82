use Rattle.oram_contents.proofs.ChipLaws.{groups_begin, groups_moved, groups_renumbered, groups_end, groups_inserted}
use Rattle.oram_contents.proofs.ChipLaws.{groups_used}
use Rattle.oram_contents.proofs.laws.chip_shows_moves.Goals as goal

pub returns-clause-begins : goal.returns-clause-begins
returns-clause-begins c = groups_begin

pub returns-clause-child : goal.returns-clause-child
returns-clause-child c = groups_moved

pub returns-clause-ends : goal.returns-clause-ends
returns-clause-ends c = groups_end

pub returns-clause-inserted : goal.returns-clause-inserted
returns-clause-inserted c = groups_inserted

pub returns-clause-used : goal.returns-clause-used
returns-clause-used c = groups_used

pub returns-clause-renumbered : goal.returns-clause-renumbered
returns-clause-renumbered c = groups_renumbered
