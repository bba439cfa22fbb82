use Rattle.oram_stash.proofs.Apart.{AreApart-append}
use Rattle.oram_stash.proofs.Held.{held-append, count_by-append}
use Rattle.oram_stash.proofs.laws.last_entry_is_found.Goals as goal

pub returns-clause-held : goal.returns-clause-held
returns-clause-held c = held-append

pub returns-clause-counts : goal.returns-clause-counts
returns-clause-counts c = count_by-append

pub returns-clause-apart : goal.returns-clause-apart
returns-clause-apart c = AreApart-append
