-- A play whose log shows a full stash: behind two slots that leave nothing at hand a message is appended, where none
-- may stay.
use Rattle.std.proofs.Common.{◌≡◌, Some, List, [], ◌∷◌, ◌++◌, refl, sym, ◌∙◌, ap, subst, arith}
use Rattle.std.proofs.Common.{map, replicate}
use Rattle.asc_base.specs.Greatest.{greatest}
use Rattle.asc_base.specs.Lookup.{without_first, promoted_first}
use Rattle.asc_base.specs.TreeShape.{layer_count, layer_first, layer_of, index_of, parent_of, child_index_of}
use Rattle.asc_base.specs.TreeShape.{children_of}
use Rattle.asc_base.specs.declared.block.Message.{Message}
use Rattle.asc_base.specs.declared.shape.Shape.{Shape}
use Rattle.asc_base.specs.declared.stop.Stop.TheVariants.{StashFull}
use Rattle.bus_schedule.specs.Shown.{code_of}
use Rattle.bus_schedule.specs.Timetable.{bits_of, most_of, epoch_at}
use Rattle.log_replay.specs.Judged.{IsFirstVerdict, verdict_on}
use Rattle.log_replay.proofs.EmptySlots.{appended_full}
use Rattle.oram_contents.specs.Entries.{Keys}
use Rattle.posmap_counters.specs.Counters.{counter_at, siblings, after, after_all, asked_changes}
use Rattle.posmap_counters.specs.Digits.{digits}
use Rattle.posmap_counters.specs.Families.{own_counts}
use Rattle.posmap_counters.specs.Group.{line_of}
use Rattle.posmap_lookaside.specs.Walk.{ancestors, accesses_of_all, walk_down}
use Rattle.rv32_core.specs.LineList.{lines_from}
use Rattle.rv32_core.specs.Transfer.{pieces_within}
use Rattle.rv32_table.specs.Meaning.{register_meaning, load_meaning}
use Rattle.rv32_table.specs.Table.{decoded, table}
use Rattle.run_play.specs.Halt.{AppendOverfull, halt}
use Rattle.run_play.specs.Play.{Play, play_from, image_slots}
use Rattle.run_play.specs.PlayEvents.{PlayEvent, Starts, Draws, Tags, play_events}
use Rattle.run_play.specs.Programs.{load_words, play_at, real}
use Rattle.run_play.specs.Requests.{one_by_one}
use Rattle.run_play.specs.Slots.{pass_up_to}
use Rattle.secure_machine.specs.Full.{noted, log_of, NoSlotIsFull}
use Rattle.secure_machine.specs.Rows.{without_stash}

-- the root's block with the line of its children's counters, of which the first is 1
abbrev displaced : Message
displaced = record {
  address = record { 0 = 66 };
  counter = record { group = 1; own = 0 };
  line = record { 0 = replicate 9 0 ++ 4 ∷ replicate 54 0 };
}

abbrev cut : Play
cut = halt 5 (play_at without_stash 0 load_words) 2 (AppendOverfull 1)

cut_events : play_events cut.slots ≡ Starts 256 (Some 1) ∷ Draws (real 66 0 0)
    ∷ Starts 1008 (Some 752) ∷ Draws (real 64 0 0) ∷ Tags displaced ∷ []
unfolding greatest layer_count layer_first layer_of index_of parent_of child_index_of children_of bits_of most_of
    epoch_at code_of counter_at siblings after after_all asked_changes digits line_of own_counts promoted_first
    without_first ancestors accesses_of_all walk_down lines_from pieces_within decoded table register_meaning
    load_meaning pass_up_to one_by_one image_slots play_from
cut_events = refl

module _ (keys : Keys) (shape : keys.shape ≡ without_stash.shape) where
  levels : keys.shape.levels ≡ 5
  levels = ap (λ (s : Shape). s.levels) shape

  -- The log of the play, cut behind its second slot, shows first that one block more is at hand than may stay there.
  pub stops : IsFirstVerdict keys 0 (log_of keys cut) (StashFull 1)
  stops = subst (λ (events : List PlayEvent). IsFirstVerdict keys 0
      (record { moves = []; events = map (noted keys) events; altered = [] }) (StashFull 1)) (sym cut_events)
      (appended_full keys (omega (arith, levels)) 256 1008 66 64 (Some 1) (Some 752) displaced refl)

  pub full : NoSlotIsFull keys 0 (play_at without_stash 0 load_words) → ⊥
  full room = room 2 (AppendOverfull 1) 1 refl
      (ap (λ n. verdict_on keys 0 (log_of keys (halt n (play_at without_stash 0 load_words) 2 (AppendOverfull 1))))
      levels
      ∙ stops.wrong)
