use Rattle.std.proofs.Common.{[], arith}
use Rattle.posmap_counters.proofs.ChangeLaws.{groups_bounded, few_wrap_none}
use Rattle.posmap_counters.specs.Counters.{counter_at}
use Rattle.posmap_counters.proofs.laws.few_changes_wrap_none.Goals as goal

pub returns-clause-bound : goal.returns-clause-bound
returns-clause-bound c = groups_bounded

pub returns-clause-room : goal.returns-clause-room
returns-clause-room c = few_wrap_none

pub returns-clause-start : goal.returns-clause-start
unfolding counter_at
returns-clause-start c lines layers changes few =
    few_wrap_none lines layers [] changes 0 (λ a. omega arith) (omega arith)
