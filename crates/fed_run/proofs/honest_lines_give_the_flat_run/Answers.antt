use Rattle.fed_run.proofs.HonestLaws.{run-honest}
use Rattle.fed_run.proofs.honest_lines_give_the_flat_run.Goals as goal

pub returns : goal.returns
returns c = run-honest
