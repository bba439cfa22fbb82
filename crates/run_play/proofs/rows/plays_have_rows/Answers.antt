use Rattle.std.proofs.Common.{refl}
use Rattle.asc_base.specs.Greatest.{least, greatest}
use Rattle.asc_base.specs.Lookup.{without_first, promoted_first}
use Rattle.asc_base.specs.Settings.{config_of, narrow_rates}
use Rattle.asc_base.specs.Shape.{places_of, layered, shape_of}
use Rattle.asc_base.specs.TreeShape.{layer_count, layer_first, top_layer, levels_of, buckets_of, layer_of, index_of}
use Rattle.asc_base.specs.TreeShape.{parent_of, child_index_of, children_of}
use Rattle.bus_schedule.specs.Shown.{code_of}
use Rattle.bus_schedule.specs.Timetable.{bits_of, most_of, epoch_at}
use Rattle.posmap_counters.specs.Counters.{counter_at, siblings, after, after_all, asked_changes}
use Rattle.posmap_counters.specs.Digits.{digits}
use Rattle.posmap_counters.specs.Families.{own_counts}
use Rattle.posmap_counters.specs.Group.{line_of}
use Rattle.posmap_lookaside.specs.Walk.{ancestors, accesses_of_all, walk_down}
use Rattle.rv32_core.specs.LineList.{lines_from}
use Rattle.rv32_core.specs.Transfer.{pieces_within}
use Rattle.rv32_table.specs.Meaning.{register_meaning, load_meaning}
use Rattle.rv32_table.specs.Table.{decoded, table}
use Rattle.run_play.specs.Slots.{pass_up_to}
use Rattle.run_play.specs.Requests.{one_by_one}
use Rattle.run_play.specs.Play.{play_from, image_slots}
use Rattle.run_play.proofs.Defaults.{default-is}
use Rattle.run_play.proofs.rows.plays_have_rows.Goals as goal

pub returns-clause-default_settings : goal.returns-clause-default_settings
returns-clause-default_settings c = default-is

pub returns-clause-small_settings : goal.returns-clause-small_settings
unfolding least greatest layer_count layer_first top_layer levels_of buckets_of places_of layered shape_of config_of
    narrow_rates
returns-clause-small_settings c = refl

pub returns-clause-exit : goal.returns-clause-exit
unfolding greatest bits_of most_of epoch_at code_of lines_from pieces_within decoded table register_meaning
    load_meaning pass_up_to one_by_one image_slots play_from
returns-clause-exit c = refl

pub returns-clause-hello : goal.returns-clause-hello
unfolding greatest bits_of most_of epoch_at code_of lines_from pieces_within decoded table register_meaning
    load_meaning pass_up_to one_by_one image_slots play_from
returns-clause-hello c = refl

pub returns-clause-load : goal.returns-clause-load
unfolding greatest layer_count layer_first layer_of index_of parent_of child_index_of children_of bits_of most_of
    epoch_at code_of counter_at siblings after after_all asked_changes digits line_of own_counts promoted_first
    without_first ancestors accesses_of_all walk_down lines_from pieces_within decoded table register_meaning
    load_meaning pass_up_to one_by_one image_slots play_from
returns-clause-load c = refl

pub returns-clause-load_starts : goal.returns-clause-load_starts
unfolding greatest layer_count layer_first layer_of index_of parent_of child_index_of children_of bits_of most_of
    epoch_at code_of counter_at siblings after after_all asked_changes digits line_of own_counts promoted_first
    without_first ancestors accesses_of_all walk_down lines_from pieces_within decoded table register_meaning
    load_meaning pass_up_to one_by_one image_slots play_from
returns-clause-load_starts c = refl

pub returns-clause-load_points : goal.returns-clause-load_points
unfolding greatest layer_count layer_first layer_of index_of parent_of child_index_of children_of bits_of most_of
    epoch_at code_of counter_at siblings after after_all asked_changes digits line_of own_counts promoted_first
    without_first ancestors accesses_of_all walk_down lines_from pieces_within decoded table register_meaning
    load_meaning pass_up_to one_by_one image_slots play_from
returns-clause-load_points c = refl

pub returns-clause-load_events : goal.returns-clause-load_events
unfolding greatest layer_count layer_first layer_of index_of parent_of child_index_of children_of bits_of most_of
    epoch_at code_of counter_at siblings after after_all asked_changes digits line_of own_counts promoted_first
    without_first ancestors accesses_of_all walk_down lines_from pieces_within decoded table register_meaning
    load_meaning pass_up_to one_by_one image_slots play_from
returns-clause-load_events c = refl

pub returns-clause-one_rate : goal.returns-clause-one_rate
unfolding greatest layer_count layer_first layer_of index_of parent_of child_index_of children_of bits_of most_of
    epoch_at code_of counter_at siblings after after_all asked_changes digits line_of own_counts promoted_first
    without_first ancestors accesses_of_all walk_down lines_from pieces_within decoded table register_meaning
    load_meaning pass_up_to one_by_one image_slots play_from
returns-clause-one_rate c = refl

pub returns-clause-trap : goal.returns-clause-trap
unfolding greatest bits_of most_of epoch_at code_of lines_from pieces_within decoded table register_meaning
    load_meaning pass_up_to one_by_one image_slots play_from
returns-clause-trap c = refl

pub returns-clause-no_budget : goal.returns-clause-no_budget
unfolding greatest bits_of most_of epoch_at code_of lines_from pieces_within decoded table register_meaning
    load_meaning pass_up_to one_by_one image_slots play_from
returns-clause-no_budget c = refl

pub returns-clause-no_time : goal.returns-clause-no_time
unfolding greatest layer_count layer_first layer_of index_of parent_of child_index_of children_of bits_of most_of
    epoch_at code_of counter_at siblings after after_all asked_changes digits line_of own_counts promoted_first
    without_first ancestors accesses_of_all walk_down lines_from pieces_within decoded table register_meaning
    load_meaning pass_up_to one_by_one image_slots play_from
returns-clause-no_time c = refl
