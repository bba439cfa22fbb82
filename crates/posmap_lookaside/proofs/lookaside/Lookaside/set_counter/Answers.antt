use Rattle.std.proofs.Common.{refl}
use Rattle.posmap_lookaside.specs.Held.{with_counter}
use Rattle.posmap_lookaside.proofs.Wholes.{changed_whole}
use Rattle.posmap_lookaside.proofs.lookaside.Lookaside.set_counter.Goals as goal

pub invariant_of-self : goal.invariant_of-self
invariant_of-self c =
    changed_whole (with_counter c.args.counter)
    (record { list = c.self.inside.list.items; capacity = c.self.inside.capacity }) c.args.address
    c.renumber.new.list.items (λ held. refl) c.renumber.ensures.list c.self.invariant

pub returns-clause-whole : goal.returns-clause-whole
returns-clause-whole c =
    changed_whole (with_counter c.args.counter)
    (record { list = c.self.inside.list.items; capacity = c.self.inside.capacity }) c.args.address
    c.renumber.new.list.items (λ held. refl) c.renumber.ensures.list c.self.invariant
