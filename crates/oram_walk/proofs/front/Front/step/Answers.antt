use Rattle.std.proofs.Common.{refl}
use Rattle.posmap_lookaside.specs.Held.{with_group}
use Rattle.oram_walk.proofs.Fronts.{changed_front}
use Rattle.oram_walk.proofs.front.Front.step.Goals as goal

pub invariant_of-self-in-Some-group : goal.invariant_of-self-in-Some-group
invariant_of-self-in-Some-group c =
    changed_front _ (with_group c.step.new.self) c.in-Some.parent c.set_group.new.self (λ held. refl)
    c.set_group.ensures.list c.set_group.ensures.whole c.self.invariant

pub returns-in-Some-group-clause-whole : goal.returns-in-Some-group-clause-whole
returns-in-Some-group-clause-whole c =
    changed_front _ (with_group c.step.new.self) c.in-Some.parent c.set_group.new.self (λ held. refl)
    c.set_group.ensures.list c.set_group.ensures.whole c.self.invariant
