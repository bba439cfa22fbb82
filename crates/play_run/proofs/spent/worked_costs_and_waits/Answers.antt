use Rattle.std.proofs.Common.{refl}
use Rattle.play_run.proofs.SpentRows.{costs-exits, costs-starves}
use Rattle.play_run.proofs.spent.worked_costs_and_waits.Goals as goal

pub returns : goal.returns
returns c = record { waits = λ one two first second. refl; exits = costs-exits; starves = costs-starves }
