use Rattle.posmap_counters.proofs.PieceLaws.{zeros_below}
use Rattle.posmap_counters.proofs.group.fresh_own.Goals as goal

pub returns-clause-in_range : goal.returns-clause-in_range
returns-clause-in_range c = zeros_below 32
