use Rattle.oram_stash.proofs.Apart.{held-gone, without-left, AreApart-without}
use Rattle.oram_stash.proofs.Held.{without-none, length-without, count_by-without, held-without_other}
use Rattle.oram_stash.proofs.laws.others_are_left.Goals as goal

pub returns-clause-none : goal.returns-clause-none
returns-clause-none c = without-none

pub returns-clause-length : goal.returns-clause-length
returns-clause-length c = length-without

pub returns-clause-counts : goal.returns-clause-counts
returns-clause-counts c = count_by-without

pub returns-clause-others : goal.returns-clause-others
returns-clause-others c = held-without_other

pub returns-clause-gone : goal.returns-clause-gone
returns-clause-gone c = held-gone

pub returns-clause-left : goal.returns-clause-left
returns-clause-left c = without-left

pub returns-clause-apart : goal.returns-clause-apart
returns-clause-apart c = AreApart-without
