use Rattle.oram_contents.proofs.EntryLaws.{joined_is, joined_copies, joined_unaltered, joined_apart}
use Rattle.oram_contents.proofs.laws.entries_are_joined.Goals as goal

pub returns-clause-joined : goal.returns-clause-joined
returns-clause-joined c = joined_is

pub returns-clause-copies : goal.returns-clause-copies
returns-clause-copies c = joined_copies

pub returns-clause-unaltered : goal.returns-clause-unaltered
returns-clause-unaltered c = joined_unaltered

pub returns-clause-apart : goal.returns-clause-apart
returns-clause-apart c = joined_apart
