use Rattle.posmap_counters.proofs.RootLaws.{top_place, start_roots, step_roots, roots_stay, asked-root}
use Rattle.posmap_counters.proofs.laws.roots_keep_counters.Goals as goal

pub returns-clause-place : goal.returns-clause-place
returns-clause-place c = top_place

pub returns-clause-start : goal.returns-clause-start
returns-clause-start c = start_roots

pub returns-clause-step : goal.returns-clause-step
returns-clause-step c = step_roots

pub returns-clause-other : goal.returns-clause-other
returns-clause-other c = roots_stay

pub returns-clause-asked : goal.returns-clause-asked
returns-clause-asked c = asked-root
