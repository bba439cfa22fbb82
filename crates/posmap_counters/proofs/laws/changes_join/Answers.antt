use Rattle.posmap_counters.proofs.ChangeLaws.{counters_join, points_join, room_joins}
use Rattle.posmap_counters.proofs.laws.changes_join.Goals as goal

pub returns-clause-counters : goal.returns-clause-counters
returns-clause-counters c = counters_join

pub returns-clause-points : goal.returns-clause-points
returns-clause-points c = points_join

pub returns-clause-room : goal.returns-clause-room
returns-clause-room c = room_joins
