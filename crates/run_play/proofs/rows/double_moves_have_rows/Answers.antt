use Rattle.std.proofs.Common.{refl}
use Rattle.asc_base.specs.Greatest.{greatest}
use Rattle.asc_base.specs.Lookup.{without_first, promoted_first}
use Rattle.asc_base.specs.TreeShape.{layer_count, layer_first, layer_of, index_of, parent_of, child_index_of}
use Rattle.asc_base.specs.TreeShape.{children_of}
use Rattle.bus_schedule.specs.Timetable.{bits_of, most_of, epoch_at}
use Rattle.posmap_counters.specs.Counters.{counter_at, siblings, after, after_all, asked_changes, group_move}
use Rattle.posmap_counters.specs.Counters.{addresses_from}
use Rattle.posmap_counters.specs.Digits.{digits}
use Rattle.posmap_counters.specs.Families.{own_counts}
use Rattle.posmap_counters.specs.Group.{line_of}
use Rattle.posmap_lookaside.specs.Walk.{ancestors, accesses_of_all, walk_down}
use Rattle.run_play.specs.Requests.{one_by_one}
use Rattle.run_play.specs.Slots.{pass_up_to}
use Rattle.run_play.proofs.rows.double_moves_have_rows.Goals as goal

pub returns-clause-starts : goal.returns-clause-starts
unfolding greatest layer_count layer_first layer_of index_of parent_of child_index_of children_of bits_of most_of
    epoch_at counter_at siblings after after_all asked_changes group_move addresses_from digits line_of own_counts
    promoted_first without_first ancestors accesses_of_all walk_down pass_up_to one_by_one
returns-clause-starts c = refl

pub returns-clause-points : goal.returns-clause-points
unfolding greatest layer_count layer_first layer_of index_of parent_of child_index_of children_of bits_of most_of
    epoch_at counter_at siblings after after_all asked_changes group_move addresses_from digits line_of own_counts
    promoted_first without_first ancestors accesses_of_all walk_down pass_up_to one_by_one
returns-clause-points c = refl

pub returns-clause-renumbered : goal.returns-clause-renumbered
unfolding greatest layer_count layer_first layer_of index_of parent_of child_index_of children_of bits_of most_of
    epoch_at counter_at siblings after after_all asked_changes group_move addresses_from digits line_of own_counts
    promoted_first without_first ancestors accesses_of_all walk_down pass_up_to one_by_one
returns-clause-renumbered c = refl

pub returns-clause-last : goal.returns-clause-last
unfolding greatest layer_count layer_first layer_of index_of parent_of child_index_of children_of bits_of most_of
    epoch_at counter_at siblings after after_all asked_changes group_move addresses_from digits line_of own_counts
    promoted_first without_first ancestors accesses_of_all walk_down pass_up_to one_by_one
returns-clause-last c = refl
