use Rattle.oram_contents.proofs.CopyLaws.{copies_add_up}
use Rattle.oram_contents.proofs.EntryLaws.{placed_from, placed_all, stays_from}
use Rattle.oram_contents.proofs.laws.entries_are_placed.Goals as goal

pub returns-clause-on_path : goal.returns-clause-on_path
returns-clause-on_path c = placed_from

pub returns-clause-number : goal.returns-clause-number
returns-clause-number c = placed_all

pub returns-clause-stay : goal.returns-clause-stay
returns-clause-stay c = stays_from

pub returns-clause-copies : goal.returns-clause-copies
returns-clause-copies c = copies_add_up
