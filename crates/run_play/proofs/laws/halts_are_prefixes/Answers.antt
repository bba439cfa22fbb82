use Rattle.run_play.proofs.Halts.{halt-at, halt-later, halt-none, halt-over, halt-starts, halt-points, halt-numbers}
use Rattle.run_play.proofs.Halts.{halt-events}
use Rattle.run_play.proofs.laws.halts_are_prefixes.Goals as goal

pub returns : goal.returns
returns c = record {
  at = halt-at;
  later = halt-later;
  none = halt-none;
  behind = halt-over;
  starts = halt-starts;
  points = halt-points;
  numbers = halt-numbers;
  events = halt-events;
}
