use Rattle.unified_tree.proofs.Slots.{pass_is, access_is, refill_is}
use Rattle.unified_tree.proofs.laws.parts_make_slots.Goals as goal

pub returns-clause-pass : goal.returns-clause-pass
returns-clause-pass c = pass_is

pub returns-clause-access : goal.returns-clause-access
returns-clause-access c = access_is

pub returns-clause-refill : goal.returns-clause-refill
returns-clause-refill c = refill_is
