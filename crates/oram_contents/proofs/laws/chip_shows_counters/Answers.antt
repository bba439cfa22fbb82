use Rattle.oram_contents.proofs.ChipLaws.{groups_start, groups_wait, groups_root, groups_stepped, groups_taken}
use Rattle.oram_contents.proofs.ChipLaws.{groups_root_taken}
use Rattle.oram_contents.proofs.laws.chip_shows_counters.Goals as goal

pub returns-clause-start : goal.returns-clause-start
returns-clause-start c = groups_start

pub returns-clause-waits : goal.returns-clause-waits
returns-clause-waits c = groups_wait

pub returns-clause-root : goal.returns-clause-root
returns-clause-root c = groups_root

pub returns-clause-stepped : goal.returns-clause-stepped
returns-clause-stepped c = groups_stepped

pub returns-clause-taken : goal.returns-clause-taken
returns-clause-taken c = groups_taken

pub returns-clause-root_taken : goal.returns-clause-root_taken
returns-clause-root_taken c = groups_root_taken
