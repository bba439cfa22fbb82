use Rattle.oram_stash.proofs.Apart.{AreApart-two, held-two, without-two}
use Rattle.oram_stash.proofs.laws.two_entries_are_apart.Goals as goal

pub returns-clause-apart : goal.returns-clause-apart
returns-clause-apart c = AreApart-two

pub returns-clause-held : goal.returns-clause-held
returns-clause-held c = held-two

pub returns-clause-left : goal.returns-clause-left
returns-clause-left c = without-two
