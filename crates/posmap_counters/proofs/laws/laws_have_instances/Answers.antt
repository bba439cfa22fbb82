use Rattle.std.proofs.Common.{refl, arith}
use Rattle.asc_base.specs.Greatest.{greatest}
use Rattle.asc_base.specs.TreeShape.{layer_count, layer_first, layer_of, index_of, parent_of, children_of}
use Rattle.posmap_counters.specs.Digits.{digits}
use Rattle.posmap_counters.specs.Group.{line_of}
use Rattle.posmap_counters.specs.Counters.{counter_at, addresses_from, siblings, after, after_all, points, all_points}
use Rattle.posmap_counters.specs.Counters.{group_move, asked_changes}
use Rattle.posmap_counters.specs.Families.{own_counts}
use Rattle.posmap_counters.proofs.Rows.{they_have, one_moves, one_root}
use Rattle.posmap_counters.proofs.laws.laws_have_instances.Goals as goal

pub returns-clause-line : goal.returns-clause-line
unfolding line_of digits
returns-clause-line c = refl

pub returns-clause-group : goal.returns-clause-group
unfolding own_counts counter_at
returns-clause-group c = refl

pub returns-clause-has : goal.returns-clause-has
returns-clause-has c = they_have

pub returns-clause-changes : goal.returns-clause-changes
unfolding asked_changes group_move siblings addresses_from counter_at parent_of children_of layer_of index_of greatest
    layer_first layer_count
returns-clause-changes c = refl

pub returns-clause-points : goal.returns-clause-points
unfolding all_points points after asked_changes group_move siblings addresses_from counter_at parent_of children_of
    layer_of index_of greatest layer_first layer_count
returns-clause-points c = refl

pub returns-clause-counters : goal.returns-clause-counters
unfolding after_all after asked_changes group_move siblings addresses_from counter_at parent_of children_of layer_of
    index_of greatest layer_first layer_count
returns-clause-counters c = refl

pub returns-clause-moving : goal.returns-clause-moving
returns-clause-moving c = one_moves

pub returns-clause-roots : goal.returns-clause-roots
returns-clause-roots c = one_root

pub returns-clause-wraps : goal.returns-clause-wraps
unfolding counter_at parent_of layer_of index_of greatest layer_first layer_count
returns-clause-wraps c room = absurd (omega arith)
