use Rattle.asc_base.proofs.Levels.{levels_of_level, levels_of-ge}
use Rattle.asc_base.proofs.laws.levels_greatest.Goals as goal

pub returns-clause-some : goal.returns-clause-some
returns-clause-some c total = (levels_of_level total).some

pub returns-clause-fits : goal.returns-clause-fits
returns-clause-fits c total = (levels_of_level total).room

pub returns-clause-greatest : goal.returns-clause-greatest
returns-clause-greatest c = levels_of-ge
