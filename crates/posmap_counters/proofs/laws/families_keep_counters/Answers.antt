use Rattle.posmap_counters.proofs.FamilyLaws.{start_counters, one_group, step_counters, counters_stay}
use Rattle.posmap_counters.proofs.laws.families_keep_counters.Goals as goal

pub returns-clause-start : goal.returns-clause-start
returns-clause-start c = start_counters

pub returns-clause-one_group : goal.returns-clause-one_group
returns-clause-one_group c = one_group

pub returns-clause-step : goal.returns-clause-step
returns-clause-step c = step_counters

pub returns-clause-other : goal.returns-clause-other
returns-clause-other c = counters_stay
