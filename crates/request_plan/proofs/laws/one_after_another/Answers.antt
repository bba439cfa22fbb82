use Rattle.request_plan.proofs.Chains.{Ends-bind, Stops-bind, Stops-bind-next, Ends-unbind, Stops-unbind}
use Rattle.request_plan.proofs.laws.one_after_another.Goals as goal

pub returns-clause-ends : goal.returns-clause-ends
returns-clause-ends g c = Ends-bind (g.S.Stepped.step)

pub returns-clause-ends_only_so : goal.returns-clause-ends_only_so
returns-clause-ends_only_so g c = Ends-unbind (g.S.Stepped.step)

pub returns-clause-stops_in_first : goal.returns-clause-stops_in_first
returns-clause-stops_in_first g c = Stops-bind (g.S.Stepped.step)

pub returns-clause-stops_in_second : goal.returns-clause-stops_in_second
returns-clause-stops_in_second g c = Stops-bind-next (g.S.Stepped.step)

pub returns-clause-stops_only_so : goal.returns-clause-stops_only_so
returns-clause-stops_only_so g c = Stops-unbind (g.S.Stepped.step)
