use Rattle.fed_run.proofs.Rows.{read-crosses, write-crosses, read-starves, write-starves}
use Rattle.fed_run.proofs.worked_crossings.Goals as goal

pub returns-clause-read : goal.returns-clause-read
returns-clause-read c = read-crosses

pub returns-clause-write : goal.returns-clause-write
returns-clause-write c = write-crosses

pub returns-clause-read_starves : goal.returns-clause-read_starves
returns-clause-read_starves c = read-starves

pub returns-clause-write_starves : goal.returns-clause-write_starves
returns-clause-write_starves c = write-starves
