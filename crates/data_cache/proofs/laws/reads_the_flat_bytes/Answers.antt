use Rattle.data_cache.proofs.ToldLaws.{read-stands, write-stands, whole-stands}
use Rattle.data_cache.proofs.laws.reads_the_flat_bytes.Goals as goal

pub returns-clause-read : goal.returns-clause-read
returns-clause-read g c =
    read-stands g.S.LineStore.step g.S.LineStore.lines g.S.LineStore.told g.met.S.LineStore.answers
    g.met.S.LineStore.told_lines g.met.S.LineStore.tells_fetch g.met.S.LineStore.tells_store

pub returns-clause-write : goal.returns-clause-write
returns-clause-write g c =
    write-stands g.S.LineStore.step g.S.LineStore.lines g.S.LineStore.told g.met.S.LineStore.answers
    g.met.S.LineStore.told_lines g.met.S.LineStore.tells_fetch g.met.S.LineStore.tells_store

pub returns-clause-write_line : goal.returns-clause-write_line
returns-clause-write_line g c =
    whole-stands g.S.LineStore.step g.S.LineStore.lines g.S.LineStore.told g.met.S.LineStore.answers
    g.met.S.LineStore.told_lines g.met.S.LineStore.tells_fetch g.met.S.LineStore.tells_store
