use Rattle.posmap_counters.proofs.ChangeLaws.{all_points_apart}
use Rattle.posmap_counters.proofs.laws.no_point_twice.Goals as goal

pub returns : goal.returns
returns c = all_points_apart
