use Rattle.std.proofs.Common.{refl}
use Rattle.asc_base.specs.Greatest.{greatest}
use Rattle.asc_base.specs.Lookup.{without_first, promoted_first}
use Rattle.asc_base.specs.TreeShape.{layer_count, layer_first, layer_of, index_of, parent_of, child_index_of}
use Rattle.asc_base.specs.TreeShape.{children_of}
use Rattle.bus_schedule.specs.Shown.{code_of}
use Rattle.bus_schedule.specs.Timetable.{bits_of, most_of, epoch_at}
use Rattle.posmap_counters.specs.Counters.{counter_at, siblings, after, after_all, asked_changes}
use Rattle.posmap_counters.specs.Digits.{digits}
use Rattle.posmap_counters.specs.Families.{own_counts}
use Rattle.posmap_counters.specs.Group.{line_of}
use Rattle.posmap_lookaside.specs.Walk.{ancestors, accesses_of_all, walk_down}
use Rattle.rv32_core.specs.LineList.{lines_from}
use Rattle.rv32_core.specs.Transfer.{pieces_within}
use Rattle.rv32_table.specs.Meaning.{register_meaning, load_meaning}
use Rattle.rv32_table.specs.Table.{decoded, table}
use Rattle.run_play.specs.Slots.{pass_up_to}
use Rattle.run_play.specs.Requests.{one_by_one}
use Rattle.run_play.specs.Play.{play_from, image_slots}
use Rattle.run_play.proofs.rows.halts_have_rows.Goals as goal

pub returns-clause-read : goal.returns-clause-read
unfolding greatest layer_count layer_first layer_of index_of parent_of child_index_of children_of bits_of most_of
    epoch_at code_of counter_at siblings after after_all asked_changes digits line_of own_counts promoted_first
    without_first ancestors accesses_of_all walk_down lines_from pieces_within decoded table register_meaning
    load_meaning pass_up_to one_by_one image_slots play_from
returns-clause-read c = refl

pub returns-clause-read_events : goal.returns-clause-read_events
unfolding greatest layer_count layer_first layer_of index_of parent_of child_index_of children_of bits_of most_of
    epoch_at code_of counter_at siblings after after_all asked_changes digits line_of own_counts promoted_first
    without_first ancestors accesses_of_all walk_down lines_from pieces_within decoded table register_meaning
    load_meaning pass_up_to one_by_one image_slots play_from
returns-clause-read_events c = refl

pub returns-clause-write : goal.returns-clause-write
unfolding greatest layer_count layer_first layer_of index_of parent_of child_index_of children_of bits_of most_of
    epoch_at code_of counter_at siblings after after_all asked_changes digits line_of own_counts promoted_first
    without_first ancestors accesses_of_all walk_down lines_from pieces_within decoded table register_meaning
    load_meaning pass_up_to one_by_one image_slots play_from
returns-clause-write c = refl

pub returns-clause-write_events : goal.returns-clause-write_events
unfolding greatest layer_count layer_first layer_of index_of parent_of child_index_of children_of bits_of most_of
    epoch_at code_of counter_at siblings after after_all asked_changes digits line_of own_counts promoted_first
    without_first ancestors accesses_of_all walk_down lines_from pieces_within decoded table register_meaning
    load_meaning pass_up_to one_by_one image_slots play_from
returns-clause-write_events c = refl

pub returns-clause-full : goal.returns-clause-full
unfolding greatest layer_count layer_first layer_of index_of parent_of child_index_of children_of bits_of most_of
    epoch_at code_of counter_at siblings after after_all asked_changes digits line_of own_counts promoted_first
    without_first ancestors accesses_of_all walk_down lines_from pieces_within decoded table register_meaning
    load_meaning pass_up_to one_by_one image_slots play_from
returns-clause-full c = refl
