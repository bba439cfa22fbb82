use Rattle.request_plan.specs.Laws.{Within}
use Rattle.request_plan.proofs.Keeps.{Ends-narrows}
use Rattle.request_plan.proofs.Told.{Ends-told}
use Rattle.request_plan.proofs.laws.told_is_served.Goals as goal

pub returns : goal.returns
returns g c keeps told serve tells plan start end a holds h =
    let step = g.S.Stepped.step in
    Ends-told (Within (g.S.Kept.holds) step) told serve tells plan start end a
    ((Ends-narrows step (g.S.Kept.holds) keeps plan start end a holds h).0)
