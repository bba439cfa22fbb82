use Rattle.bus_watch.proofs.MadeLaws.{ran_none, ran_then}
use Rattle.bus_watch.proofs.laws.bus_runs_join.Goals as goal

pub returns-clause-start : goal.returns-clause-start
returns-clause-start g c = λ bus. ran_none g.M.UntrustedMemory.state g.W.Watch.state bus

pub returns-clause-joined : goal.returns-clause-joined
returns-clause-joined g c = λ end first second events more a b d one two.
    ran_then g.M.UntrustedMemory.state g.W.Watch.state one two
