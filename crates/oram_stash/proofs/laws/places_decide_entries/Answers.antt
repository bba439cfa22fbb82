use Rattle.std.proofs.Common.{refl}
use Rattle.path_evict.proofs.Placed.{length-where_all}
use Rattle.oram_stash.proofs.Placed.{placed-among, placed-found, placed-absent}
use Rattle.oram_stash.proofs.laws.places_decide_entries.Goals as goal

pub returns-clause-counts : goal.returns-clause-counts
returns-clause-counts c = length-where_all

pub returns-clause-placed : goal.returns-clause-placed
returns-clause-placed c = placed-among

pub returns-clause-found : goal.returns-clause-found
returns-clause-found c = placed-found

pub returns-clause-absent : goal.returns-clause-absent
returns-clause-absent c = placed-absent

pub returns-clause-two : goal.returns-clause-two
returns-clause-two c = λ first second level. (refl, refl)
