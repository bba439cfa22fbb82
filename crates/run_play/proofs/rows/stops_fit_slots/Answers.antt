use Rattle.std.proofs.Common.{◌≡◌, true, false, Option, Some, None, is_some, refl, sym, ap, ◌∙◌, arith}
use Rattle.std.specs.Prelude.{slice_get, unwrap_or}
use Rattle.std.specs.Option.{option_map}
use Rattle.asc_base.specs.Greatest.{greatest}
use Rattle.asc_base.specs.Lookup.{without_first, promoted_first}
use Rattle.asc_base.specs.TreeShape.{layer_count, layer_first, layer_of, index_of, parent_of, child_index_of}
use Rattle.asc_base.specs.TreeShape.{children_of}
use Rattle.asc_base.specs.declared.block.Address.{Address}
use Rattle.asc_base.specs.declared.block.Point.TheVariants.{Dummy}
use Rattle.asc_base.specs.declared.stop.Evidence.TheVariants.{BadSlot, Doubled}
use Rattle.bus_schedule.specs.Shown.{code_of}
use Rattle.bus_schedule.specs.Timetable.{bits_of, most_of, epoch_at}
use Rattle.posmap_counters.specs.Counters.{counter_at, siblings, after, after_all, asked_changes}
use Rattle.posmap_counters.specs.Digits.{digits}
use Rattle.posmap_counters.specs.Families.{own_counts}
use Rattle.posmap_counters.specs.Group.{line_of}
use Rattle.posmap_lookaside.specs.Walk.{ancestors, accesses_of_all, walk_down}
use Rattle.rv32_core.specs.LineList.{lines_from}
use Rattle.rv32_core.specs.Transfer.{pieces_within}
use Rattle.rv32_table.specs.Meaning.{register_meaning, load_meaning}
use Rattle.rv32_table.specs.Table.{decoded, table}
use Rattle.run_play.specs.Slots.{Slot, no_numbers, pass_up_to}
use Rattle.run_play.specs.Halt.{Refused, Overfull, MoveFails, AppendRefused, AppendOverfull, doubled_by}
use Rattle.run_play.specs.Programs.{load_words, play_at}
use Rattle.run_play.specs.Requests.{one_by_one}
use Rattle.run_play.specs.Rows.{small, one_held}
use Rattle.run_play.specs.Play.{play_from, image_slots}
use Rattle.run_play.proofs.rows.stops_fit_slots.Goals as goal

-- in place of a slot that isn't there
no_slot : Slot
no_slot = record {
  start = 0;
  asked = None;
  point = Dummy 0;
  put = None;
  chosen = None;
  appended = None;
  left = no_numbers;
}

-- evidence of two blocks is of one address
one-block : (a b : Address) → Some (Doubled a) ≡ Some (Doubled b) → a.0 ≡ b.0
one-block a b is = ap (λ (x : Address). x.0) (let same : a ≡ b = cc in same)

pub returns-clause-read : goal.returns-clause-read
unfolding greatest layer_count layer_first layer_of index_of parent_of child_index_of children_of bits_of most_of
    epoch_at code_of counter_at siblings after after_all asked_changes digits line_of own_counts promoted_first
    without_first ancestors accesses_of_all walk_down lines_from pieces_within decoded table register_meaning
    load_meaning pass_up_to one_by_one image_slots play_from
returns-clause-read c = record {
  before = 0;
  slot = unwrap_or (slice_get (play_at small 0 load_words).slots 0) no_slot;
  at = refl;
  stop = Refused (BadSlot 0 0);
  fits = tt;
  is = refl;
}

pub returns-clause-full : goal.returns-clause-full
unfolding greatest layer_count layer_first layer_of index_of parent_of child_index_of children_of bits_of most_of
    epoch_at code_of counter_at siblings after after_all asked_changes digits line_of own_counts promoted_first
    without_first ancestors accesses_of_all walk_down lines_from pieces_within decoded table register_meaning
    load_meaning pass_up_to one_by_one image_slots play_from
returns-clause-full c = record {
  before = 3;
  slot = unwrap_or (slice_get (play_at small 0 load_words).slots 3) no_slot;
  at = refl;
  stop = Overfull 201;
  fits = tt;
  is = refl;
}

pub returns-clause-last_move : goal.returns-clause-last_move
unfolding greatest layer_count layer_first layer_of index_of parent_of child_index_of children_of bits_of most_of
    epoch_at code_of counter_at siblings after after_all asked_changes digits line_of own_counts promoted_first
    without_first ancestors accesses_of_all walk_down lines_from pieces_within decoded table register_meaning
    load_meaning pass_up_to one_by_one image_slots play_from
returns-clause-last_move c = record {
  before = 2;
  slot = unwrap_or (slice_get (play_at small 0 load_words).slots 2) no_slot;
  at = refl;
  stop = MoveFails 11;
  fits = omega arith;
  is = refl;
}

pub returns-clause-no_move : goal.returns-clause-no_move
returns-clause-no_move c slot fits = absurd (omega (arith, fits))

pub returns-clause-append : goal.returns-clause-append
unfolding greatest layer_count layer_first layer_of index_of parent_of child_index_of children_of bits_of most_of
    epoch_at code_of counter_at siblings after after_all asked_changes digits line_of own_counts promoted_first
    without_first ancestors accesses_of_all walk_down lines_from pieces_within decoded table register_meaning
    load_meaning pass_up_to one_by_one image_slots play_from
returns-clause-append c = record {
  before = 1;
  slot = unwrap_or (slice_get (play_at one_held 0 load_words).slots 1) no_slot;
  at = refl;
  stop = AppendOverfull 201;
  fits = refl;
  is = refl;
}

pub returns-clause-doubled : goal.returns-clause-doubled
unfolding greatest layer_count layer_first layer_of index_of parent_of child_index_of children_of bits_of most_of
    epoch_at code_of counter_at siblings after after_all asked_changes digits line_of own_counts promoted_first
    without_first ancestors accesses_of_all walk_down lines_from pieces_within decoded table register_meaning
    load_meaning pass_up_to one_by_one image_slots play_from
returns-clause-doubled c = record {
  before = 1;
  slot = unwrap_or (slice_get (play_at one_held 0 load_words).slots 1) no_slot;
  at = refl;
  stop = AppendRefused (Doubled (record { 0 = 66 }));
  fits = refl;
  is = refl;
}

pub returns-clause-other_block : goal.returns-clause-other_block
unfolding greatest layer_count layer_first layer_of index_of parent_of child_index_of children_of bits_of most_of
    epoch_at code_of counter_at siblings after after_all asked_changes digits line_of own_counts promoted_first
    without_first ancestors accesses_of_all walk_down lines_from pieces_within decoded table register_meaning
    load_meaning pass_up_to one_by_one image_slots play_from
returns-clause-other_block c slot is fits =
    let its : option_map doubled_by slot.appended ≡ Some (Doubled (record { 0 = 66 })) =
    ap (λ (found : Option Slot). option_map doubled_by (unwrap_or found no_slot).appended) (sym is) in
    absurd (omega (arith, one-block (record { 0 = 66 }) (record { 0 = 64 }) (sym its ∙ fits)))

pub returns-clause-no_append : goal.returns-clause-no_append
unfolding greatest layer_count layer_first layer_of index_of parent_of child_index_of children_of bits_of most_of
    epoch_at code_of counter_at siblings after after_all asked_changes digits line_of own_counts promoted_first
    without_first ancestors accesses_of_all walk_down lines_from pieces_within decoded table register_meaning
    load_meaning pass_up_to one_by_one image_slots play_from
returns-clause-no_append c slot is fits =
    let none : is_some slot.appended ≡ false =
    ap (λ (found : Option Slot). is_some (unwrap_or found no_slot).appended) (sym is) in
    let bad : false ≡ true = sym none ∙ fits in
    absurd cc
