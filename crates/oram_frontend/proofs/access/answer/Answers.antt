use Rattle.std.proofs.Common.{ap}
use Rattle.rate_enforcer.proofs.Steps.{rests_noted}
use Rattle.oram_frontend.proofs.PortLaws.{answered}
use Rattle.oram_frontend.proofs.access.answer.Goals as goal

pub returns-clause-comes : goal.returns-clause-comes
returns-clause-comes g c keys levels clock tree =
    answered keys levels clock tree c.args.line c.args.value.now _ _ _ _ c.note.ensures.ran.made
    (ap g.M.UntrustedMemory.state c.note.ensures.memory) c.note.ensures.log c.note.ensures.mirror

pub returns-clause-rests : goal.returns-clause-rests
returns-clause-rests g c notes levels clock tree r = rests_noted _ tt c.note.ensures.ran.made r
