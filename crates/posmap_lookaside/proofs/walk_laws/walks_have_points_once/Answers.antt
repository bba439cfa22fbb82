use Rattle.posmap_lookaside.proofs.WalkLaws.{walk_bounded, walks_apart, starts_apart}
use Rattle.posmap_lookaside.proofs.walk_laws.walks_have_points_once.Goals as goal

pub returns-clause-bounds : goal.returns-clause-bounds
returns-clause-bounds c = walk_bounded

pub returns-clause-apart : goal.returns-clause-apart
returns-clause-apart c = walks_apart

pub returns-clause-start : goal.returns-clause-start
returns-clause-start c = starts_apart
