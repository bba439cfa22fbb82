use Rattle.fed_run.proofs.Cuts.{more-finished, more-output}
use Rattle.fed_run.proofs.GoOn.{run-more}
use Rattle.fed_run.proofs.runs.more_lines_go_on.Goals as goal

pub returns-clause-ended : goal.returns-clause-ended
returns-clause-ended c = run-more

pub returns-clause-finished : goal.returns-clause-finished
returns-clause-finished c = more-finished

pub returns-clause-output : goal.returns-clause-output
returns-clause-output c = more-output
