use Rattle.std.proofs.Common.{refl}
use Rattle.posmap_counters.specs.Digits.{digits}
use Rattle.posmap_counters.specs.Group.{line_of}
use Rattle.posmap_counters.proofs.LineLaws.{line-counters}
use Rattle.posmap_counters.proofs.FamilyLines.{read_line}
use Rattle.posmap_counters.proofs.laws.lines_and_groups.Goals as goal

pub returns-clause-group : goal.returns-clause-group
returns-clause-group c = read_line

pub returns-clause-line : goal.returns-clause-line
returns-clause-line c = line-counters

pub returns-clause-zeros : goal.returns-clause-zeros
unfolding line_of digits
returns-clause-zeros c = refl
