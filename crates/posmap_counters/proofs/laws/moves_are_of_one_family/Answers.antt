use Rattle.posmap_counters.proofs.MoveLaws.{points_of_move, siblings_under, move_under, move_others, move_leaves}
use Rattle.posmap_counters.proofs.laws.moves_are_of_one_family.Goals as goal

pub returns-clause-points : goal.returns-clause-points
returns-clause-points c = points_of_move

pub returns-clause-siblings : goal.returns-clause-siblings
returns-clause-siblings c = siblings_under

pub returns-clause-children : goal.returns-clause-children
returns-clause-children c lines layers address parent held = move_under lines layers held address parent

pub returns-clause-others : goal.returns-clause-others
returns-clause-others c = move_others

pub returns-clause-families : goal.returns-clause-families
returns-clause-families c = move_leaves
