use Rattle.play_run.proofs.FedCosts.{cost-zero, cost-goes-on, cost-exits, cost-traps, cost-starves, cost-then}
use Rattle.play_run.proofs.FedCosts.{cost-ended}
use Rattle.play_run.proofs.spent.finished_costs_go_on.Goals as goal

pub returns : goal.returns
returns c = record {
  none = cost-zero;
  goes_on = cost-goes-on;
  exits = cost-exits;
  traps = cost-traps;
  starves = cost-starves;
  parts = cost-then;
  ended = cost-ended;
}
