use Rattle.std.proofs.Common.{ap, refl}
use Rattle.rate_enforcer.proofs.Steps.{rests_noted}
use Rattle.rate_enforcer.specs.Served.{keys_of}
use Rattle.oram_frontend.proofs.PortLaws.{joined}
use Rattle.oram_frontend.proofs.access.append.Goals as goal

pub returns-clause-comes : goal.returns-clause-comes
returns-clause-comes g c =
    let keys = keys_of c.args.port.now.tree c.args.tagger.now (g.L.LeafFn.leaf_of c.args.port.now.leaves) in
    joined keys (g.L.LeafFn.levels c.args.port.now.leaves) c.args.port.now.clock c.args.port.now.tree
    c.args.message.now c.entry_for-entry.result _ _ _ _ _ c.append.result
    (c.entry_for-entry.ensures.entry keys refl refl) c.note.ensures.ran.made
    (ap g.M.UntrustedMemory.state c.note.ensures.memory) c.note.ensures.log c.note.ensures.mirror
    (c.append.ensures.step _ _)

pub returns-clause-rests : goal.returns-clause-rests
returns-clause-rests g c = c.append.ensures.rests 0 _ _ (rests_noted _ tt c.note.ensures.ran.made c.requires.rests)
