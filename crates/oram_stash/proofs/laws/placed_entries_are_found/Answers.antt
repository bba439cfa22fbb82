use Rattle.oram_stash.proofs.Apart.{held-where_none, held-where_placed, AreApart-where_placed}
use Rattle.oram_stash.proofs.laws.placed_entries_are_found.Goals as goal

pub returns-clause-none : goal.returns-clause-none
returns-clause-none c = held-where_none

pub returns-clause-found : goal.returns-clause-found
returns-clause-found c = held-where_placed

pub returns-clause-apart : goal.returns-clause-apart
returns-clause-apart c = AreApart-where_placed
