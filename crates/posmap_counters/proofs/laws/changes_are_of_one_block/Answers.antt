use Rattle.posmap_counters.proofs.ChangeLaws.{after_put, after_at, after_other, after_others}
use Rattle.posmap_counters.proofs.laws.changes_are_of_one_block.Goals as goal

pub returns-clause-put : goal.returns-clause-put
returns-clause-put c = after_put

pub returns-clause-block : goal.returns-clause-block
returns-clause-block c = after_at

pub returns-clause-other : goal.returns-clause-other
returns-clause-other c = after_other

pub returns-clause-others : goal.returns-clause-others
returns-clause-others c = after_others
