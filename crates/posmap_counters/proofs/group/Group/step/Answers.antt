use Rattle.posmap_counters.proofs.PieceLaws.{own_set, room}
use Rattle.posmap_counters.proofs.group.Group.step.Goals as goal

pub invariant_of-self : goal.invariant_of-self
invariant_of-self c =
    own_set c.self.inside.own c.args.child _ c.self.invariant (room c.args.ic _ c.requires.ic_to c.if-own-ic.false)
