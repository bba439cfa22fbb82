use Rattle.std.proofs.Common.{refl}
use Rattle.asc_base.specs.Greatest.{greatest}
use Rattle.asc_base.specs.Lookup.{without_first, changed_first, promoted_first}
use Rattle.asc_base.specs.TreeShape.{layer_count, layer_first, layer_of, index_of, parent_of, children_of}
use Rattle.asc_base.specs.TreeShape.{child_index_of}
use Rattle.posmap_counters.specs.Counters.{counter_at, addresses_from, siblings, after, after_all, group_move}
use Rattle.posmap_counters.specs.Counters.{asked_changes}
use Rattle.posmap_counters.specs.Digits.{digits}
use Rattle.posmap_counters.specs.Group.{group_of, own_of, line_of}
use Rattle.posmap_lookaside.specs.Walk.{ancestors, accesses_of_all, walk_down, walks}
use Rattle.oram_walk.proofs.laws.plans_have_rows.Goals as goal

pub returns-clause-nine : goal.returns-clause-nine
unfolding ancestors accesses_of_all walk_down walks asked_changes group_move siblings addresses_from counter_at after
    after_all parent_of children_of child_index_of layer_of index_of greatest layer_first layer_count
    promoted_first changed_first without_first digits group_of own_of line_of
returns-clause-nine c = refl

pub returns-clause-six : goal.returns-clause-six
unfolding ancestors accesses_of_all walk_down walks asked_changes group_move siblings addresses_from counter_at after
    after_all parent_of children_of child_index_of layer_of index_of greatest layer_first layer_count
    promoted_first changed_first without_first digits group_of own_of line_of
returns-clause-six c = refl

pub returns-clause-one_move : goal.returns-clause-one_move
unfolding ancestors accesses_of_all walk_down walks asked_changes group_move siblings addresses_from counter_at after
    after_all parent_of children_of child_index_of layer_of index_of greatest layer_first layer_count
    promoted_first changed_first without_first digits group_of own_of line_of
returns-clause-one_move c = refl

pub returns-clause-two_moves : goal.returns-clause-two_moves
unfolding ancestors accesses_of_all walk_down walks asked_changes group_move siblings addresses_from counter_at after
    after_all parent_of children_of child_index_of layer_of index_of greatest layer_first layer_count
    promoted_first changed_first without_first digits group_of own_of line_of
returns-clause-two_moves c = refl
