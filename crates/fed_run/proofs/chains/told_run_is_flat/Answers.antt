use Rattle.fed_run.proofs.ToldRuns.{told-instruction, told-run}
use Rattle.fed_run.proofs.chains.told_run_is_flat.Goals as goal

pub returns-clause-instruction : goal.returns-clause-instruction
returns-clause-instruction g c =
    told-instruction g.S.LineStore.step g.S.LineStore.lines g.S.LineStore.told g.met.S.LineStore.keeps_lines
    g.met.S.LineStore.answers g.met.S.LineStore.told_lines g.met.S.LineStore.tells_fetch g.met.S.LineStore.tells_store

pub returns-clause-run : goal.returns-clause-run
returns-clause-run g c =
    told-run g.S.LineStore.step g.S.LineStore.lines g.S.LineStore.told g.met.S.LineStore.keeps_lines
    g.met.S.LineStore.answers g.met.S.LineStore.told_lines g.met.S.LineStore.tells_fetch g.met.S.LineStore.tells_store
