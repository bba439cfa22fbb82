use Rattle.posmap_lookaside.proofs.HeldLaws.{promoted_keeps, changed_at, changed_other, inserted_at, inserted_room}
use Rattle.posmap_lookaside.proofs.HeldLaws.{inserted_other, inserted_last, inserted_gone}
use Rattle.posmap_lookaside.proofs.laws.held_blocks_keep_values.Goals as goal

pub returns-clause-promoted : goal.returns-clause-promoted
returns-clause-promoted c = promoted_keeps

pub returns-clause-changed : goal.returns-clause-changed
returns-clause-changed c = changed_at

pub returns-clause-unchanged : goal.returns-clause-unchanged
returns-clause-unchanged c = changed_other

pub returns-clause-inserted : goal.returns-clause-inserted
returns-clause-inserted c = inserted_at

pub returns-clause-kept : goal.returns-clause-kept
returns-clause-kept c = inserted_room

pub returns-clause-left : goal.returns-clause-left
returns-clause-left c = inserted_other

pub returns-clause-displaced : goal.returns-clause-displaced
returns-clause-displaced c = inserted_last

pub returns-clause-gone : goal.returns-clause-gone
returns-clause-gone c = inserted_gone
