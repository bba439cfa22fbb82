use Rattle.std.proofs.Common.{◌≡◌, ◌≤◌, ◌⊎◌, inl, inr, ℕ, zero, suc, List, [], ◌∷◌, Some, None, refl, sym, ap, ◌∙◌}
use Rattle.std.proofs.Common.{arith}
use Rattle.std.specs.Prelude.{map, slice_get, unwrap_or}
use Rattle.std.specs.Option.{option_map}
use Rattle.asc_base.specs.Greatest.{greatest}
use Rattle.asc_base.specs.Lookup.{without_first, promoted_first}
use Rattle.asc_base.specs.TreeShape.{layer_count, layer_first, layer_of, index_of, parent_of, child_index_of}
use Rattle.asc_base.specs.TreeShape.{children_of}
use Rattle.asc_base.specs.declared.block.Point.TheVariants.{Dummy}
use Rattle.bus_schedule.specs.Shown.{code_of}
use Rattle.bus_schedule.specs.Timetable.{bits_of, most_of, epoch_at}
use Rattle.posmap_counters.specs.Counters.{counter_at, siblings, after, after_all, asked_changes}
use Rattle.posmap_counters.specs.Digits.{digits}
use Rattle.posmap_counters.specs.Families.{own_counts}
use Rattle.posmap_counters.specs.Group.{line_of}
use Rattle.posmap_lookaside.specs.Walk.{ancestors, accesses_of_all, walk_down}
use Rattle.rv32_core.specs.LineList.{lines_from}
use Rattle.rv32_core.specs.Transfer.{pieces_within}
use Rattle.rv32_table.specs.Meaning.{register_meaning, load_meaning}
use Rattle.rv32_table.specs.Table.{decoded, table}
use Rattle.run_play.specs.Halt.{MoveFails, unprepared, halt}
use Rattle.run_play.specs.Slots.{Slot, no_numbers, pass_up_to}
use Rattle.run_play.specs.Requests.{one_by_one}
use Rattle.run_play.specs.Play.{Play, Exited, Device, play_from, image_slots}
use Rattle.run_play.specs.PlayEvents.{PlayReport, said_of_all}
use Rattle.run_play.specs.Programs.{exit_words, load_words, play_at}
use Rattle.run_play.specs.Rows.{default_config, small}
use Rattle.run_play.proofs.Halts.{halted-ends}
use Rattle.play_run.specs.Shows.{IsRunOf}
use Rattle.play_run.proofs.rows.reports_have_rows.Goals as goal

-- in place of a slot that isn't there
no_slot : Slot
no_slot = record {
  start = 0;
  asked = None;
  point = Dummy 0;
  put = None;
  chosen = None;
  appended = None;
  left = no_numbers;
}

pub returns-clause-exit : goal.returns-clause-exit
unfolding greatest bits_of most_of epoch_at code_of lines_from pieces_within decoded table register_meaning
    load_meaning pass_up_to one_by_one image_slots play_from
returns-clause-exit c log is = record {
  run = play_at default_config 65536 exit_words;
  is = inl (inl refl);
  events = ap said_of_all is;
  report_is = refl;
}

pub returns-clause-load : goal.returns-clause-load
unfolding greatest layer_count layer_first layer_of index_of parent_of child_index_of children_of bits_of most_of
    epoch_at code_of counter_at siblings after after_all asked_changes digits line_of own_counts promoted_first
    without_first ancestors accesses_of_all walk_down lines_from pieces_within decoded table register_meaning
    load_meaning pass_up_to one_by_one image_slots play_from
returns-clause-load c log is = record {
  run = play_at small 0 load_words;
  is = inl (inl refl);
  events = is;
  report_is = refl;
}

pub returns-clause-cut : goal.returns-clause-cut
unfolding greatest layer_count layer_first layer_of index_of parent_of child_index_of children_of bits_of most_of
    epoch_at code_of counter_at siblings after after_all asked_changes digits line_of own_counts promoted_first
    without_first ancestors accesses_of_all walk_down lines_from pieces_within decoded table register_meaning
    load_meaning pass_up_to one_by_one image_slots play_from
returns-clause-cut c log leaf is = record {
  run = halt 5 (play_at small 0 load_words) 1 (MoveFails 2);
  is = inl (inr (record {
    before = 0;
    slot = unwrap_or (slice_get (play_at small 0 load_words).slots 0) no_slot;
    at = refl;
    stop = MoveFails 2;
    fits = omega arith;
    is = refl;
  }));
  events = ap said_of_all is;
  report_is = refl;
}

-- ---- no slot has a thirteenth move
abbrev load : Play
load = play_at small 0 load_words

load-starts : map (λ (s : Slot). s.start) load.slots ≡ 256 ∷ 1008 ∷ 1760 ∷ 2512 ∷ []
unfolding greatest layer_count layer_first layer_of index_of parent_of child_index_of children_of bits_of most_of
    epoch_at code_of counter_at siblings after after_all asked_changes digits line_of own_counts promoted_first
    without_first ancestors accesses_of_all walk_down lines_from pieces_within decoded table register_meaning
    load_meaning pass_up_to one_by_one image_slots play_from
load-starts = refl

load-exits : load.ending ≡ Exited 0
unfolding greatest layer_count layer_first layer_of index_of parent_of child_index_of children_of bits_of most_of
    epoch_at code_of counter_at siblings after after_all asked_changes digits line_of own_counts promoted_first
    without_first ancestors accesses_of_all walk_down lines_from pieces_within decoded table register_meaning
    load_meaning pass_up_to one_by_one image_slots play_from
load-exits = refl

map-at : {X Y : Type 0} (f : X → Y) (xs : List X) (k : ℕ) (x : X) → slice_get xs k ≡ Some x
    → slice_get (map f xs) k ≡ Some (f x)
map-at f [] k x is = absurd (let bad : None ≡ Some x = is in cc)
map-at f (y ∷ xs) zero x is = ap (option_map f) is
map-at f (y ∷ xs) (suc k) x is = map-at f xs k x is

-- the first slot starts at 256, and each other one at 1,008 or later
starts-at : (k start : ℕ) → slice_get (256 ∷ 1008 ∷ 1760 ∷ 2512 ∷ []) k ≡ Some start
    → (start ≡ 256) ⊎ (1008 ≤ start)
starts-at zero start is = inl (let same : 256 ≡ start = ap (λ o. unwrap_or o 256) is in sym same)
starts-at (suc zero) start is = inr (let same : 1008 ≡ start = ap (λ o. unwrap_or o 1008) is in omega (arith, same))
starts-at (suc (suc zero)) start is =
    inr (let same : 1760 ≡ start = ap (λ o. unwrap_or o 1760) is in omega (arith, same))
starts-at (suc (suc (suc zero))) start is =
    inr (let same : 2512 ≡ start = ap (λ o. unwrap_or o 2512) is in omega (arith, same))
starts-at (suc (suc (suc (suc k)))) start is = absurd (let bad : None ≡ Some start = is in cc)

no-cut : (run : Play) → Device ≡ run.ending → 753 ≡ run.last → IsRunOf 5 load run ⊎ (run ≡ unprepared) → ⊥
no-cut run ends last (inl (inl is)) =
    let bad : Device ≡ Exited 0 = ends ∙ ap (λ (r : Play). r.ending) is ∙ load-exits in absurd cc
no-cut run ends last (inl (inr h)) =
    let within = halted-ends 5 load run h in
    let start : slice_get (256 ∷ 1008 ∷ 1760 ∷ 2512 ∷ []) h.before ≡ Some h.slot.start =
    ap (λ l. slice_get l h.before) (sym load-starts)
    ∙ map-at (λ (s : Slot). s.start) load.slots h.before h.slot h.at in
    elim (starts-at h.before h.slot.start start) [
      | inl first ↦ omega (arith, within.1, first, last)
      | inr late ↦ omega (arith, within.0, late, last)
    ]
no-cut run ends last (inr is) =
    let none : run.last ≡ 0 = ap (λ (r : Play). r.last) is in omega (arith, none, last)

pub returns-clause-no_cut : goal.returns-clause-no_cut
returns-clause-no_cut c log x =
    no-cut x.run (ap (λ (r : PlayReport). r.ending) x.report_is) (ap (λ (r : PlayReport). r.last) x.report_is) x.is
