-- Slots as they are taken: which pass as dummies, which rate is chosen at their ends, and what is tagged in them.
use Rattle.std.specs.Prelude.{ℕ, zero, suc, ◌+◌, ◌-◌, nat_lt, Bool, true, false, if◌then◌else◌, List, [], ◌∷◌, Option}
use Rattle.std.specs.Prelude.{Some, None, unwrap_or}
use Rattle.std.specs.Option.{option_map_or}
use Rattle.asc_base.specs.TreeShape.{olat_of}
use Rattle.asc_base.specs.declared.block.Message.{Message}
use Rattle.asc_base.specs.declared.block.Point.{Point}
use Rattle.asc_base.specs.declared.block.Point.TheVariants.{Dummy}
use Rattle.bus_schedule.specs.declared.beat.Beat.{Beat}
use Rattle.bus_schedule.specs.Timetable.{Public, first_beat, falls_next, beat_after}
use Rattle.epoch_learner.specs.LearnerRule.{learner_rule}
use Rattle.epoch_learner.specs.Heard.{Heard, nothing_heard, with_access, with_choice}

-- Between two slots: where the timetable stands; what the learner heard, whose `ended` is the end of the last slot; and
-- the number of the next dummy.
pub record Pace : Type 0 where
  pub beat : Beat
  pub heard : Heard
  pub dummies : ℕ

-- before the first slot
abbrev pub first_pace : Public → Pace
first_pace p = record { beat = first_beat p; heard = nothing_heard; dummies = 0 }

-- How far a run came: the instructions that are finished; the clock after the last of them or the last image line, and
-- where one didn't finish the clock at its start; and the fetches that were answered.
pub record Numbers : Type 0 where
  pub instructions : ℕ
  pub cycles : ℕ
  pub fetches : ℕ

-- nothing was done
abbrev pub no_numbers : Numbers
no_numbers = record { instructions = 0; cycles = 0; fetches = 0 }

-- One slot: its start; when it was asked for, if it is no dummy; its point; the message of the block that is put back
-- in it; the index that is chosen at its end; the message of the block that is appended after it; and how far the run
-- came where it stops in this slot or in the append.
pub record Slot : Type 0 where
  pub start : ℕ
  pub asked : Option ℕ
  pub point : Point
  pub put : Option Message
  pub chosen : Option ℕ
  pub appended : Option Message
  pub left : Numbers

-- 1 for a dummy, and 0 for a slot that was asked for
abbrev pub dummy_count : Option ℕ → ℕ
dummy_count None = 1
dummy_count (Some asked) = 0

-- what was heard, after a choice where there is one
abbrev pub heard_then : Heard → Option ℕ → Heard
heard_then heard chosen = option_map_or (λ index. with_choice heard) chosen heard

module _ (p : Public) where
  -- what the learner has heard at the end of the slot that is next
  abbrev pub heard_next : Pace → Option ℕ → Heard
  heard_next pace asked =
      with_access pace.heard (record { start = pace.beat.next; asked = asked }) (pace.beat.next + olat_of p.levels)

  -- the index that is chosen at its end, where a choice falls there
  abbrev pub choice_next : Pace → Option ℕ → Option ℕ
  choice_next pace asked =
      let heard = heard_next pace asked in
      if falls_next p pace.beat
      then Some (learner_rule p.rates (olat_of p.levels) heard.accesses (heard.ended - heard.since))
      else None

  -- after that slot
  abbrev pub pace_after : Pace → Option ℕ → Pace
  pace_after pace asked =
      let chosen = choice_next pace asked in
      record {
        beat = beat_after p pace.beat (unwrap_or chosen 0);
        heard = heard_then (heard_next pace asked) chosen;
        dummies = pace.dummies + dummy_count asked;
      }

  -- the slot that is next
  abbrev pub slot_next : Pace → Numbers → Option ℕ → Point → Option Message → Option Message → Slot
  slot_next pace numbers asked point put appended = record {
    start = pace.beat.next;
    asked = asked;
    point = point;
    put = put;
    chosen = choice_next pace asked;
    appended = appended;
    left = numbers;
  }

  -- the same as a dummy
  abbrev pub dummy_next : Pace → Numbers → Slot
  dummy_next pace numbers = slot_next pace numbers None (Dummy pace.dummies) None None

-- dummies that passed, and the pace after them
pub record Passed : Type 0 where
  pub slots : List Slot
  pub pace : Pace

module _ (p : Public) (numbers : Numbers) where
  -- a dummy more, where the next slot is early enough, and then the rest
  abbrev pub pass_one : (Pace → Passed) → Pace → Bool → Passed
  pass_one rest pace false = record { slots = []; pace = pace }
  pass_one rest pace true =
      let more = rest (pace_after p pace None) in
      record { slots = dummy_next p pace numbers ∷ more.slots; pace = more.pace }

  -- at most so many dummies, of the slots that start before a time
  unfoldable pub pass_up_to : ℕ → ℕ → Pace → Passed
  pass_up_to zero time pace = record { slots = []; pace = pace }
  pass_up_to (suc most) time pace = pass_one (pass_up_to most time) pace (nat_lt pace.beat.next time)

  -- The slots that start before a time pass as dummies. There are at most as many as cycles before it.
  abbrev pub passed : ℕ → Pace → Passed
  passed time pace = pass_up_to time time pace
