use Rattle.asc_base.proofs.Lookups.{changed_first-place, find-changed, find-changed_other}
use Rattle.asc_base.proofs.lookup_laws.first_is_changed.Goals as goal

pub returns-clause-place : goal.returns-clause-place
returns-clause-place g c = changed_first-place

pub returns-clause-found : goal.returns-clause-found
returns-clause-found g c = find-changed

pub returns-clause-others : goal.returns-clause-others
returns-clause-others g c = find-changed_other
