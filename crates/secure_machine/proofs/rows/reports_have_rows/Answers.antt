use Rattle.std.proofs.Common.{inl, inr, None, refl, ap}
use Rattle.std.specs.Prelude.{slice_get, unwrap_or}
use Rattle.asc_base.specs.Greatest.{greatest}
use Rattle.asc_base.specs.Lookup.{without_first, promoted_first}
use Rattle.asc_base.specs.TreeShape.{layer_count, layer_first, layer_of, index_of, parent_of, child_index_of}
use Rattle.asc_base.specs.TreeShape.{children_of}
use Rattle.asc_base.specs.declared.block.Point.TheVariants.{Dummy}
use Rattle.asc_base.specs.declared.stop.Evidence.TheVariants.{BadSlot}
use Rattle.bus_schedule.specs.Shown.{code_of}
use Rattle.bus_schedule.specs.Timetable.{bits_of, most_of, epoch_at}
use Rattle.posmap_counters.specs.Counters.{counter_at, siblings, after, after_all, asked_changes}
use Rattle.posmap_counters.specs.Digits.{digits}
use Rattle.posmap_counters.specs.Families.{own_counts}
use Rattle.posmap_counters.specs.Group.{line_of}
use Rattle.posmap_lookaside.specs.Walk.{ancestors, accesses_of_all, walk_down}
use Rattle.rv32_core.specs.LineList.{lines_from}
use Rattle.rv32_core.specs.Transfer.{pieces_within}
use Rattle.rv32_table.specs.Meaning.{register_meaning, load_meaning}
use Rattle.rv32_table.specs.Table.{decoded, table}
use Rattle.run_play.specs.Halt.{Overfull, Refused, halt}
use Rattle.run_play.specs.Slots.{Slot, no_numbers, pass_up_to}
use Rattle.run_play.specs.Requests.{one_by_one}
use Rattle.run_play.specs.Play.{play_from, image_slots}
use Rattle.run_play.specs.PlayEvents.{said_of_all}
use Rattle.run_play.specs.Programs.{hello_words, load_words, misaligned_words, play_at}
use Rattle.run_play.specs.Rows.{no_budget, no_time, small}
use Rattle.secure_machine.proofs.rows.reports_have_rows.Goals as goal

-- in place of a slot that isn't there
no_slot : Slot
no_slot = record {
  start = 0;
  asked = None;
  point = Dummy 0;
  put = None;
  chosen = None;
  appended = None;
  left = no_numbers;
}

pub returns-clause-trap : goal.returns-clause-trap
unfolding greatest layer_count layer_first layer_of index_of parent_of child_index_of children_of bits_of most_of
    epoch_at code_of counter_at siblings after after_all asked_changes digits line_of own_counts promoted_first
    without_first ancestors accesses_of_all walk_down lines_from pieces_within decoded table register_meaning
    load_meaning pass_up_to one_by_one image_slots play_from
returns-clause-trap c log is =
    record {
      run = play_at small 0 misaligned_words;
      is = inl (inl refl);
      events = ap said_of_all is;
      report_is = refl;
    }

pub returns-clause-budget : goal.returns-clause-budget
unfolding greatest layer_count layer_first layer_of index_of parent_of child_index_of children_of bits_of most_of
    epoch_at code_of counter_at siblings after after_all asked_changes digits line_of own_counts promoted_first
    without_first ancestors accesses_of_all walk_down lines_from pieces_within decoded table register_meaning
    load_meaning pass_up_to one_by_one image_slots play_from
returns-clause-budget c log is =
    record {
      run = play_at no_budget 65536 hello_words;
      is = inl (inl refl);
      events = ap said_of_all is;
      report_is = refl;
    }

pub returns-clause-time_up : goal.returns-clause-time_up
unfolding greatest layer_count layer_first layer_of index_of parent_of child_index_of children_of bits_of most_of
    epoch_at code_of counter_at siblings after after_all asked_changes digits line_of own_counts promoted_first
    without_first ancestors accesses_of_all walk_down lines_from pieces_within decoded table register_meaning
    load_meaning pass_up_to one_by_one image_slots play_from
returns-clause-time_up c log is =
    record {
      run = play_at no_time 0 load_words;
      is = inl (inl refl);
      events = ap said_of_all is;
      report_is = refl;
    }

pub returns-clause-full : goal.returns-clause-full
unfolding greatest layer_count layer_first layer_of index_of parent_of child_index_of children_of bits_of most_of
    epoch_at code_of counter_at siblings after after_all asked_changes digits line_of own_counts promoted_first
    without_first ancestors accesses_of_all walk_down lines_from pieces_within decoded table register_meaning
    load_meaning pass_up_to one_by_one image_slots play_from
returns-clause-full c log is = record {
  run = halt 5 (play_at small 0 load_words) 4 (Overfull 201);
  is = inl (inr (record {
    before = 3;
    slot = unwrap_or (slice_get (play_at small 0 load_words).slots 3) no_slot;
    at = refl;
    stop = Overfull 201;
    fits = tt;
    is = refl;
  }));
  events = is;
  report_is = refl;
}

pub returns-clause-evidence : goal.returns-clause-evidence
unfolding greatest layer_count layer_first layer_of index_of parent_of child_index_of children_of bits_of most_of
    epoch_at code_of counter_at siblings after after_all asked_changes digits line_of own_counts promoted_first
    without_first ancestors accesses_of_all walk_down lines_from pieces_within decoded table register_meaning
    load_meaning pass_up_to one_by_one image_slots play_from
returns-clause-evidence c log leaf is = record {
  run = halt 5 (play_at small 0 load_words) 1 (Refused (BadSlot 0 0));
  is = inl (inr (record {
    before = 0;
    slot = unwrap_or (slice_get (play_at small 0 load_words).slots 0) no_slot;
    at = refl;
    stop = Refused (BadSlot 0 0);
    fits = tt;
    is = refl;
  }));
  events = ap said_of_all is;
  report_is = refl;
}
