use Rattle.request_plan.proofs.Keeps.{Ends-carries, Stops-carries}
use Rattle.request_plan.proofs.laws.carried_along.Goals as goal

pub returns-clause-ends : goal.returns-clause-ends
returns-clause-ends g c each plan start end a = Ends-carries (g.S.Stepped.step) (g.S.Knows.known) each plan start end a

pub returns-clause-stops : goal.returns-clause-stops
returns-clause-stops g c each last plan start end stop left =
    Stops-carries (g.S.Stepped.step) (g.S.Knows.known) (g.S.Knows.known_left) each last plan start end stop left
