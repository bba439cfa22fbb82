use Rattle.fed_run.proofs.BesideChains.{answered-run, answered-stop}
use Rattle.fed_run.proofs.KeptChains.{kept-run, kept-run-stop}
use Rattle.fed_run.proofs.WholeChains.{run-alike}
use Rattle.fed_run.proofs.chains.run_is_fed.Goals as goal

pub returns-clause-asks : goal.returns-clause-asks
returns-clause-asks g c = run-alike

pub returns-clause-ends : goal.returns-clause-ends
returns-clause-ends g c =
    λ count ways n machine is size keeps noted notes.
    kept-run g.S.LineStore.step g.met.S.LineStore.answers g.S.KeptStore.holds keeps noted notes count ways
    machine is size n

pub returns-clause-stops : goal.returns-clause-stops
returns-clause-stops g c =
    λ count ways n machine is size keeps noted notes same.
    kept-run-stop g.S.LineStore.step g.met.S.LineStore.answers g.S.KeptStore.holds keeps noted notes count ways
    machine is size same n

pub returns-clause-answered : goal.returns-clause-answered
returns-clause-answered g c = answered-run g.S.LineStore.step g.met.S.LineStore.answers

pub returns-clause-answered_stop : goal.returns-clause-answered_stop
returns-clause-answered_stop g c = answered-stop g.S.LineStore.step g.met.S.LineStore.answers
