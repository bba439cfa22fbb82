use Rattle.std.proofs.Common.{refl}
use Rattle.fed_run.proofs.Rows.{fed-exits, fed-starves, fed-refuses, fed-refuses-second}
use Rattle.fed_run.proofs.worked_fed_runs.Goals as goal

pub returns-clause-exits : goal.returns-clause-exits
returns-clause-exits c = fed-exits

pub returns-clause-starves : goal.returns-clause-starves
returns-clause-starves c = fed-starves

pub returns-clause-same_start : goal.returns-clause-same_start
returns-clause-same_start c = refl

pub returns-clause-refuses : goal.returns-clause-refuses
returns-clause-refuses c = fed-refuses

pub returns-clause-refuses_second : goal.returns-clause-refuses_second
returns-clause-refuses_second c = fed-refuses-second
