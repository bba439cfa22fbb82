use Rattle.fed_run.proofs.KeptChains.{kept-whole, kept-whole-stop}
use Rattle.fed_run.proofs.WholeChains.{below-all, whole-alike}
use Rattle.fed_run.proofs.chains.whole_run_is_fed.Goals as goal

pub returns-clause-asks : goal.returns-clause-asks
returns-clause-asks g c =
    λ count ways sets n image marked machine some room all size is long.
    whole-alike count ways sets n image marked machine some room (below-all count marked all) size is long

pub returns-clause-ends : goal.returns-clause-ends
returns-clause-ends g c =
    λ count ways sets n image marked machine some room all size is long keeps noted notes.
    kept-whole g.S.LineStore.step g.met.S.LineStore.answers g.S.KeptStore.holds keeps noted notes count ways
    machine is long sets n
    image marked some room all size

pub returns-clause-stops : goal.returns-clause-stops
returns-clause-stops g c =
    λ count ways sets n image marked machine some room all size is long keeps noted notes same.
    kept-whole-stop g.S.LineStore.step g.met.S.LineStore.answers g.S.KeptStore.holds keeps noted notes count ways
    machine is long sets n
    image marked some room all size same
