use Rattle.std.proofs.Common.{[], ◌∷◌, refl, arith}
use Rattle.asc_base.specs.Lookup.{without_first, promoted_first}
use Rattle.posmap_lookaside.proofs.AddressLaws.{front_distinct}
use Rattle.posmap_lookaside.proofs.laws.laws_have_instances.Goals as goal

pub returns-clause-promoted : goal.returns-clause-promoted
unfolding promoted_first without_first
returns-clause-promoted c = refl

pub returns-clause-absent : goal.returns-clause-absent
unfolding promoted_first without_first
returns-clause-absent c = refl

pub returns-clause-inserted : goal.returns-clause-inserted
unfolding promoted_first without_first
returns-clause-inserted c = refl

pub returns-clause-displaced : goal.returns-clause-displaced
unfolding promoted_first without_first
returns-clause-displaced c = refl

pub returns-clause-gone : goal.returns-clause-gone
unfolding promoted_first without_first
returns-clause-gone c = refl

pub returns-clause-used : goal.returns-clause-used
unfolding promoted_first without_first
returns-clause-used c = refl

pub returns-clause-distinct : goal.returns-clause-distinct
returns-clause-distinct c =
    front_distinct (1 ∷ []) 2 refl (front_distinct [] 1 refl (λ address. omega arith))

pub returns-clause-twice : goal.returns-clause-twice
returns-clause-twice c distinct = absurd (omega (arith, distinct 1))
