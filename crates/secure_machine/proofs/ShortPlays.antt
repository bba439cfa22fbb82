-- Plays of so few slots that all the blocks that they can bring to hand find room.
use Rattle.std.proofs.Common.{◌≡◌, ◌≤◌, ◌*◌, ℕ, List, [], ◌∷◌, ◌++◌, length, map, Option, None, Some, refl, sym, ◌∙◌}
use Rattle.std.proofs.Common.{ap, subst, arith}
use Rattle.std.proofs.lemmas.List.{map-append}
use Rattle.std.proofs.lemmas.List.Sums.{sum_by-append}
use Rattle.std.proofs.lemmas.Nat.{mul-le}
use Rattle.asc_base.specs.Greatest.{greatest}
use Rattle.asc_base.specs.Lookup.{without_first, promoted_first}
use Rattle.asc_base.specs.TreeShape.{layer_count, layer_first, layer_of, index_of, parent_of, child_index_of}
use Rattle.asc_base.specs.TreeShape.{children_of}
use Rattle.asc_base.specs.declared.block.Message.{Message}
use Rattle.asc_base.specs.declared.shape.Shape.{Shape}
use Rattle.bus_schedule.specs.Shown.{code_of}
use Rattle.bus_schedule.specs.Timetable.{bits_of, most_of, epoch_at}
use Rattle.log_replay.proofs.FewEntries.{few_other}
use Rattle.log_replay.specs.Few.{entries_by, most_entries}
use Rattle.oram_contents.specs.Entries.{Keys}
use Rattle.posmap_counters.specs.Counters.{counter_at, siblings, after, after_all, asked_changes}
use Rattle.posmap_counters.specs.Digits.{digits}
use Rattle.posmap_counters.specs.Families.{own_counts}
use Rattle.posmap_counters.specs.Group.{line_of}
use Rattle.posmap_lookaside.specs.Walk.{ancestors, accesses_of_all, walk_down}
use Rattle.rv32_core.specs.LineList.{lines_from}
use Rattle.rv32_core.specs.Transfer.{pieces_within}
use Rattle.rv32_table.specs.Meaning.{register_meaning, load_meaning}
use Rattle.rv32_table.specs.Table.{decoded, table}
use Rattle.run_play.specs.Halt.{halt}
use Rattle.run_play.specs.Play.{Play, play_from, image_slots}
use Rattle.run_play.specs.PlayEvents.{Starts, Draws, tags_of, chooses_of, slot_events, play_events}
use Rattle.run_play.specs.Programs.{load_words, play_at}
use Rattle.run_play.specs.Rows.{small}
use Rattle.run_play.specs.Requests.{one_by_one}
use Rattle.run_play.specs.Slots.{Slot, pass_up_to}
use Rattle.secure_machine.specs.Full.{noted, log_of, slot_entries, NoSlotIsFull}
use Rattle.secure_machine.proofs.UntaggedPlays.{cut_few}

module _ (keys : Keys) where
  abbrev levels : ℕ
  levels = keys.shape.levels

  -- a slot brings the entries of its path's buckets to hand at most, and two messages
  slot_most : (slot : Slot) → most_entries levels (map (noted keys) (slot_events slot)) ≤ slot_entries levels
  slot_most slot = by_parts slot.put slot.chosen slot.appended
    where
      by_parts : (put : Option Message) (chosen : Option ℕ) (appended : Option Message)
          → most_entries levels (map (noted keys) (Starts slot.start slot.asked ∷ Draws slot.point ∷ []
          ++ tags_of put ++ chooses_of chosen ++ tags_of appended)) ≤ slot_entries levels
      by_parts None None None = omega arith
      by_parts None None (Some m) = omega arith
      by_parts None (Some index) None = omega arith
      by_parts None (Some index) (Some m) = omega arith
      by_parts (Some m) None None = omega arith
      by_parts (Some m) None (Some n) = omega arith
      by_parts (Some m) (Some index) None = omega arith
      by_parts (Some m) (Some index) (Some n) = omega arith

  slots_most : (slots : List Slot)
      → most_entries levels (map (noted keys) (play_events slots)) ≤ length slots * slot_entries levels
  slots_most [] = omega arith
  slots_most (slot ∷ slots) =
      let one = slot_most slot in
      let rest = slots_most slots in
      let parts = ap (most_entries levels) (map-append (noted keys) (slot_events slot) (play_events slots))
      ∙ sum_by-append (entries_by levels) (map (noted keys) (slot_events slot))
      (map (noted keys) (play_events slots)) in
      omega (arith, one, rest, parts)

  -- A play of so few slots never finds too many blocks.
  pub short : (stash : ℕ) (whole : Play) → length whole.slots * slot_entries levels ≤ stash
      → NoSlotIsFull keys stash whole
  short stash whole few k stop held ends full =
      let run : Play = halt levels whole k stop in
      let fewer = mul-le (length run.slots) (slot_entries levels) (length whole.slots) (slot_entries levels)
      (cut_few levels whole k stop) (omega arith) in
      few_other keys stash held (log_of keys run) (omega (arith, slots_most run.slots, fewer, few)) full

four : length (play_at small 0 load_words).slots ≡ 4
unfolding greatest layer_count layer_first layer_of index_of parent_of child_index_of children_of bits_of most_of
    epoch_at code_of counter_at siblings after after_all asked_changes digits line_of own_counts promoted_first
    without_first ancestors accesses_of_all walk_down lines_from pieces_within decoded table register_meaning
    load_meaning pass_up_to one_by_one image_slots play_from
four = refl

-- The four slots of a load find room.
pub load_has_room : (keys : Keys) → keys.shape ≡ small.shape → NoSlotIsFull keys 200 (play_at small 0 load_words)
load_has_room keys shape =
    let deep : keys.shape.levels ≡ 5 = ap (λ (s : Shape). s.levels) shape in
    short keys 200 (play_at small 0 load_words)
    (subst (λ n. n * slot_entries keys.shape.levels ≤ 200) (sym four)
    (subst (λ l. 4 * slot_entries l ≤ 200) (sym deep) (omega arith)))
