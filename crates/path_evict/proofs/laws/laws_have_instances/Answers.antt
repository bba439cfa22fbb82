use Rattle.std.proofs.Common.{refl, [], ◌∷◌}
use Rattle.path_evict.specs.Eviction.{fill, fill_up, eviction}
use Rattle.path_evict.specs.Rest.{rest}
use Rattle.path_evict.proofs.Room.{IsPlacement-eviction}
use Rattle.path_evict.proofs.laws.laws_have_instances.Goals as goal

pub returns-clause-rule : goal.returns-clause-rule
unfolding eviction fill_up fill
returns-clause-rule c = refl

pub returns-clause-rest : goal.returns-clause-rest
unfolding rest
returns-clause-rest c = refl

pub returns-clause-fits : goal.returns-clause-fits
returns-clause-fits c = IsPlacement-eviction (1 ∷ 0 ∷ []) 1
