use Rattle.fed_run.proofs.KeptChains.{kept-line, kept-line-stop}
use Rattle.fed_run.proofs.chains.image_line_is_fed.Goals as goal

pub returns-clause-ends : goal.returns-clause-ends
returns-clause-ends g c =
    λ count ways line memory less size keeps noted notes.
    kept-line g.S.LineStore.step g.met.S.LineStore.answers g.S.KeptStore.holds keeps noted notes count ways line memory
    less size

pub returns-clause-stops : goal.returns-clause-stops
returns-clause-stops g c =
    λ count ways line memory less size keeps noted notes same.
    kept-line-stop g.S.LineStore.step g.met.S.LineStore.answers g.S.KeptStore.holds keeps noted notes same count ways
    line memory less size
