use Rattle.posmap_lookaside.proofs.Wholes.{promoted_whole}
use Rattle.posmap_lookaside.proofs.lookaside.Lookaside.find.Goals as goal

pub invariant_of-self : goal.invariant_of-self
invariant_of-self c =
    promoted_whole (record { list = c.self.inside.list.items; capacity = c.self.inside.capacity }) c.args.address
    c.promote.new.list.items c.promote.ensures.list c.self.invariant

pub returns-clause-whole : goal.returns-clause-whole
returns-clause-whole c =
    promoted_whole (record { list = c.self.inside.list.items; capacity = c.self.inside.capacity }) c.args.address
    c.promote.new.list.items c.promote.ensures.list c.self.invariant
