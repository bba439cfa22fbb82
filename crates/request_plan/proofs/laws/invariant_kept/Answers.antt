use Rattle.request_plan.proofs.Keeps.{Ends-narrows, Stops-narrows}
use Rattle.request_plan.proofs.laws.invariant_kept.Goals as goal

pub returns-clause-ends : goal.returns-clause-ends
returns-clause-ends g c keeps plan start end a = Ends-narrows (g.S.Stepped.step) (g.S.Kept.holds) keeps plan start end a

pub returns-clause-stops : goal.returns-clause-stops
returns-clause-stops g c keeps plan start end stop left =
    Stops-narrows (g.S.Stepped.step) (g.S.Kept.holds) keeps plan start end stop left
