use Rattle.oram_stash.proofs.Apart.{held-alone, count_by-apart}
use Rattle.oram_stash.proofs.Held.{held-found, held-none}
use Rattle.oram_stash.proofs.laws.addresses_find_entries.Goals as goal

pub returns-clause-found : goal.returns-clause-found
returns-clause-found c = held-found

pub returns-clause-absent : goal.returns-clause-absent
returns-clause-absent c = held-none

pub returns-clause-alone : goal.returns-clause-alone
returns-clause-alone c = held-alone

pub returns-clause-one : goal.returns-clause-one
returns-clause-one c = count_by-apart
