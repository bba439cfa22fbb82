use Rattle.posmap_counters.proofs.ChangeLaws.{block_rises, rises, all_rise}
use Rattle.posmap_counters.proofs.laws.counters_rise.Goals as goal

pub returns-clause-block : goal.returns-clause-block
returns-clause-block c = block_rises

pub returns-clause-others : goal.returns-clause-others
returns-clause-others c = rises

pub returns-clause-all : goal.returns-clause-all
returns-clause-all c = all_rise
