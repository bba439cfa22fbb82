use Rattle.posmap_counters.proofs.FamilyLines.{family_has, family_only, family_is, family_blank}
use Rattle.posmap_counters.proofs.laws.families_have_lines.Goals as goal

pub returns-clause-family : goal.returns-clause-family
returns-clause-family c = family_has

pub returns-clause-only : goal.returns-clause-only
returns-clause-only c = family_only

pub returns-clause-group : goal.returns-clause-group
returns-clause-group c = family_is

pub returns-clause-blank : goal.returns-clause-blank
returns-clause-blank c = family_blank
