use Rattle.posmap_counters.proofs.FamilyLines.{read_is, step_is, moved_is}
use Rattle.posmap_counters.proofs.laws.groups_are_groups.Goals as goal

pub returns-clause-read : goal.returns-clause-read
returns-clause-read c = read_is

pub returns-clause-stepped : goal.returns-clause-stepped
returns-clause-stepped c = step_is

pub returns-clause-moved : goal.returns-clause-moved
returns-clause-moved c = moved_is
