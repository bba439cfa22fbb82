use Rattle.request_plan.proofs.Alike.{Asks-bind-where}
use Rattle.request_plan.proofs.Keeps.{Ends-has, Outcomes-bind}
use Rattle.request_plan.proofs.laws.outcomes_and_requests.Goals as goal

pub returns-clause-has : goal.returns-clause-has
returns-clause-has g c plan each start end a = Ends-has (g.S.Stepped.step) (g.A.Says.says) plan each start end a

pub returns-clause-outcomes : goal.returns-clause-outcomes
returns-clause-outcomes g c put first next = Outcomes-bind (g.A.Says.says) (g.D.Says.says) put first next

pub returns-clause-requests : goal.returns-clause-requests
returns-clause-requests g c put first next = Asks-bind-where (g.S.Request.Says.says) (g.A.Says.says) put first next
