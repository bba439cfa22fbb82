use Rattle.std.proofs.Common.{inr}
use Rattle.posmap_counters.proofs.Order.{before_trans, not_after_trans, not_after_before, before_irreflexive}
use Rattle.posmap_counters.proofs.Order.{before_total, first_not_after}
use Rattle.posmap_counters.proofs.laws.counters_are_ordered.Goals as goal

pub returns-clause-irreflexive : goal.returns-clause-irreflexive
returns-clause-irreflexive c = before_irreflexive

pub returns-clause-transitive : goal.returns-clause-transitive
returns-clause-transitive c x y z p q = before_trans x y z p (inr q)

pub returns-clause-before_then : goal.returns-clause-before_then
returns-clause-before_then c = before_trans

pub returns-clause-then_before : goal.returns-clause-then_before
returns-clause-then_before c = not_after_before

pub returns-clause-not_after : goal.returns-clause-not_after
returns-clause-not_after c = not_after_trans

pub returns-clause-total : goal.returns-clause-total
returns-clause-total c = before_total

pub returns-clause-first : goal.returns-clause-first
returns-clause-first c = first_not_after
