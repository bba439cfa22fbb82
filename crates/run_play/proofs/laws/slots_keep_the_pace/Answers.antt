use Rattle.run_play.proofs.Events.{log-tells}
use Rattle.run_play.proofs.IsPaced.{pace-start, pace-slot, pace-dummies, pace-requests}
use Rattle.run_play.proofs.laws.slots_keep_the_pace.Goals as goal

pub returns : goal.returns
returns c = record {
  start = pace-start;
  slot = pace-slot;
  dummies = pace-dummies;
  requests = pace-requests;
  log = log-tells;
}
