use Rattle.request_plan.specs.Laws.{Within}
use Rattle.request_plan.proofs.Keeps.{Ends-narrows, Stops-narrows}
use Rattle.request_plan.proofs.Through.{Ends-caught, Stops-either, chain_below, stop_below}
use Rattle.request_plan.proofs.laws.through_a_refusing_layer.Goals as goal

pub returns-clause-ends : goal.returns-clause-ends
returns-clause-ends g c keeps below held serve gives plan start end a holds h =
    let upper = g.T.Stepped.step in
    Ends-caught (g.S.Stepped.step) (Within (g.T.Kept.holds) upper) below held serve gives plan start end a
    ((Ends-narrows upper (g.T.Kept.holds) keeps plan start end a holds h).0)

pub returns-clause-stops : goal.returns-clause-stops
returns-clause-stops g c keeps below held left refusal cause serve gives refuses plan start end stop b holds h =
    let upper = g.T.Stepped.step in
    Stops-either (g.S.Stepped.step) (Within (g.T.Kept.holds) upper) below held serve gives left refusal cause refuses
    plan start end stop b (Stops-narrows upper (g.T.Kept.holds) keeps plan start end stop b holds h)

pub returns-clause-by_plans : goal.returns-clause-by_plans
returns-clause-by_plans g c serve plan start end a = chain_below (g.S.Stepped.step) serve plan start end a

pub returns-clause-stops_by_plans : goal.returns-clause-stops_by_plans
returns-clause-stops_by_plans g c serve plan start end stop b =
    stop_below (g.S.Stepped.step) serve plan start end stop b
