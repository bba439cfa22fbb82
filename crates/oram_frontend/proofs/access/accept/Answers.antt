use Rattle.std.proofs.Common.{ap}
use Rattle.rate_enforcer.proofs.Steps.{opens_noted}
use Rattle.oram_frontend.proofs.PortLaws.{accept_some}
use Rattle.oram_frontend.proofs.access.accept.Goals as goal

pub returns-in-Some-clause-plan : goal.returns-in-Some-clause-plan
returns-in-Some-clause-plan g c leaf_of levels clock tree =
    accept_some leaf_of levels clock tree c.args.access.now c.args.found c.in-Some.entry c.message_found-message.result
    _ _ _ _ c.in-Some.is c.message_found-message.ensures c.note.ensures.ran.made
    (ap g.M.UntrustedMemory.state c.note.ensures.memory) c.note.ensures.log c.note.ensures.mirror

pub returns-in-Some-clause-opens : goal.returns-in-Some-clause-opens
returns-in-Some-clause-opens g c notes levels clock slot tree o = opens_noted _ tt c.note.ensures.ran.made o
