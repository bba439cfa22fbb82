use Rattle.asc_base.proofs.Lookups.{promoted_first-some, promoted_first-none, count_by-promoted, find-promoted}
use Rattle.asc_base.proofs.Lookups.{find-promoted_other}
use Rattle.asc_base.proofs.lookup_laws.first_is_promoted.Goals as goal

pub returns-clause-front : goal.returns-clause-front
returns-clause-front g c = promoted_first-some

pub returns-clause-none : goal.returns-clause-none
returns-clause-none g c = promoted_first-none

pub returns-clause-counts : goal.returns-clause-counts
returns-clause-counts g c = count_by-promoted

pub returns-clause-found : goal.returns-clause-found
returns-clause-found g c = find-promoted

pub returns-clause-others : goal.returns-clause-others
returns-clause-others g c = find-promoted_other
