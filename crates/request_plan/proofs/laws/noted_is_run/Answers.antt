use Rattle.request_plan.specs.Laws.{Within}
use Rattle.request_plan.proofs.Courses.{Ends-noted, Stops-noted}
use Rattle.request_plan.proofs.Keeps.{Ends-narrows, Stops-narrows}
use Rattle.request_plan.proofs.laws.noted_is_run.Goals as goal

pub returns-clause-ends : goal.returns-clause-ends
returns-clause-ends g c keeps source noted notes plan start end a holds h =
    let step = g.S.Stepped.step in
    Ends-noted (Within (g.S.Kept.holds) step) source noted notes plan start end a
    ((Ends-narrows step (g.S.Kept.holds) keeps plan start end a holds h).0)

pub returns-clause-stops : goal.returns-clause-stops
returns-clause-stops g c keeps source noted notes same plan start end stop left holds h =
    let step = g.S.Stepped.step in
    Stops-noted (Within (g.S.Kept.holds) step) source noted notes same plan start end stop left
    (Stops-narrows step (g.S.Kept.holds) keeps plan start end stop left holds h)
