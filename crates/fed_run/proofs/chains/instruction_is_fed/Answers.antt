use Rattle.fed_run.proofs.InstructionChains.{instruction-alike}
use Rattle.fed_run.proofs.KeptChains.{kept-instruction, kept-instruction-stop}
use Rattle.fed_run.proofs.RunChains.{instruction-keeps}
use Rattle.fed_run.proofs.chains.instruction_is_fed.Goals as goal

pub returns-clause-asks : goal.returns-clause-asks
returns-clause-asks g c = instruction-alike

pub returns-clause-ends : goal.returns-clause-ends
returns-clause-ends g c =
    λ count ways machine is size keeps noted notes.
    kept-instruction g.S.LineStore.step g.met.S.LineStore.answers g.S.KeptStore.holds keeps noted notes count
    ways machine is size

pub returns-clause-stops : goal.returns-clause-stops
returns-clause-stops g c =
    λ count ways machine is size keeps noted notes same.
    kept-instruction-stop g.S.LineStore.step g.met.S.LineStore.answers g.S.KeptStore.holds keeps noted notes count
    ways machine is size
    same

pub returns-clause-keeps : goal.returns-clause-keeps
returns-clause-keeps g c = instruction-keeps g.S.LineStore.step
