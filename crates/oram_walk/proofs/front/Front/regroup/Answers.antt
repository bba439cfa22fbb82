use Rattle.std.proofs.Common.{refl}
use Rattle.posmap_lookaside.specs.Held.{with_group}
use Rattle.oram_walk.proofs.Fronts.{changed_front}
use Rattle.oram_walk.proofs.front.Front.regroup.Goals as goal

pub invariant_of-self : goal.invariant_of-self
invariant_of-self c =
    changed_front _ (with_group c.args.group) c.args.address c.set_group.new.self (λ held. refl)
    c.set_group.ensures.list c.set_group.ensures.whole c.self.invariant

pub returns-clause-whole : goal.returns-clause-whole
returns-clause-whole c =
    changed_front _ (with_group c.args.group) c.args.address c.set_group.new.self (λ held. refl)
    c.set_group.ensures.list c.set_group.ensures.whole c.self.invariant
