-- Counters on which the definitions are computed: two siblings of 64 lines in three layers, one of them at the greatest
-- own count of two bits; and a group.
use Rattle.std.specs.Prelude.{[], ◌∷◌, replicate}
use Rattle.posmap_counters.specs.Counters.{Counters}
use Rattle.posmap_counters.specs.Group.{GroupState}

abbrev pub two_siblings : Counters
two_siblings = (64, record { group = 0; own = 3 }) ∷ (65, record { group = 0; own = 2 }) ∷ []

abbrev pub their_group : GroupState
their_group = record { group = 0; own = 3 ∷ 2 ∷ replicate 30 0 }
