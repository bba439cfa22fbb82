use Rattle.request_plan.specs.Laws.{Within}
use Rattle.request_plan.proofs.Keeps.{Ends-narrows, Stops-narrows}
use Rattle.request_plan.proofs.Through.{Ends-through, Stops-through}
use Rattle.request_plan.proofs.laws.through_a_layer.Goals as goal

pub returns-clause-ends : goal.returns-clause-ends
returns-clause-ends g c keeps below held serve ends plan start end a holds h =
    let upper = g.T.Stepped.step in
    Ends-through (g.S.Stepped.step) (Within (g.T.Kept.holds) upper) below held serve ends plan start end a
    ((Ends-narrows upper (g.T.Kept.holds) keeps plan start end a holds h).0)

pub returns-clause-stops : goal.returns-clause-stops
returns-clause-stops g c keeps below held left serve ends stops plan start end stop b holds h =
    let upper = g.T.Stepped.step in
    Stops-through (g.S.Stepped.step) (Within (g.T.Kept.holds) upper) below held serve ends left stops plan
    start end stop b
    (Stops-narrows upper (g.T.Kept.holds) keeps plan start end stop b holds h)
