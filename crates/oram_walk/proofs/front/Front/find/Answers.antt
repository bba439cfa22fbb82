use Rattle.oram_walk.proofs.Fronts.{used_front}
use Rattle.oram_walk.proofs.front.Front.find.Goals as goal

pub invariant_of-self : goal.invariant_of-self
invariant_of-self c =
    used_front _ c.args.address c.find.new.self c.find.ensures.list c.find.ensures.whole c.self.invariant

pub returns-clause-whole : goal.returns-clause-whole
returns-clause-whole c =
    used_front _ c.args.address c.find.new.self c.find.ensures.list c.find.ensures.whole c.self.invariant
