use Rattle.std.proofs.Common.{refl}
use Rattle.posmap_lookaside.specs.Held.{with_counter}
use Rattle.oram_walk.proofs.Fronts.{changed_front}
use Rattle.oram_walk.proofs.front.Front.renumber.Goals as goal

pub invariant_of-self : goal.invariant_of-self
invariant_of-self c =
    changed_front _ (with_counter c.args.counter) c.args.address c.set_counter.new.self (λ held. refl)
    c.set_counter.ensures.list c.set_counter.ensures.whole c.self.invariant

pub returns-clause-whole : goal.returns-clause-whole
returns-clause-whole c =
    changed_front _ (with_counter c.args.counter) c.args.address c.set_counter.new.self (λ held. refl)
    c.set_counter.ensures.list c.set_counter.ensures.whole c.self.invariant
