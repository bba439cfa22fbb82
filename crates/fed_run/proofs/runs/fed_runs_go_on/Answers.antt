use Rattle.fed_run.proofs.Cuts.{run-cut, run-few}
use Rattle.fed_run.proofs.GoOn.{run-parts}
use Rattle.fed_run.proofs.HonestLaws.{fed_run-zero, fed_run-suc}
use Rattle.fed_run.proofs.runs.fed_runs_go_on.Goals as goal

pub returns-clause-none : goal.returns-clause-none
returns-clause-none c = fed_run-zero

pub returns-clause-first : goal.returns-clause-first
returns-clause-first c = fed_run-suc

pub returns-clause-parts : goal.returns-clause-parts
returns-clause-parts c = run-parts

pub returns-clause-at_most : goal.returns-clause-at_most
returns-clause-at_most c = run-few

pub returns-clause-finished : goal.returns-clause-finished
returns-clause-finished c = run-cut
