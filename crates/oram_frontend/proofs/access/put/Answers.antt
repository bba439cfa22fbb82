use Rattle.std.proofs.Common.{ap, refl}
use Rattle.rate_enforcer.proofs.Steps.{opens_noted}
use Rattle.rate_enforcer.specs.Served.{keys_of}
use Rattle.oram_frontend.proofs.PortLaws.{put_done}
use Rattle.oram_frontend.proofs.access.put.Goals as goal

pub returns-clause-plan : goal.returns-clause-plan
returns-clause-plan g c =
    let keys = keys_of c.args.port.now.tree c.args.tagger.now (g.L.LeafFn.leaf_of c.args.port.now.leaves) in
    put_done keys (g.L.LeafFn.levels c.args.port.now.leaves) c.args.port.now.clock c.args.port.now.tree
    c.args.message.now c.entry_for-entry.result _ _ _ _ _ (c.entry_for-entry.ensures.entry keys refl refl)
    c.note.ensures.ran.made (ap g.M.UntrustedMemory.state c.note.ensures.memory) c.note.ensures.log
    c.note.ensures.mirror (c.put.ensures.step _ _)

pub returns-clause-opens : goal.returns-clause-opens
returns-clause-opens g c =
    c.put.ensures.opens 1 _ _ (opens_noted _ tt c.note.ensures.ran.made c.requires.opens)
