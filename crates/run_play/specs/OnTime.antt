-- When slots are those of the timetable, and the pace that they leave.
use Rattle.std.specs.Prelude.{◌≡◌, ℕ, ◌+◌, ◌<◌, List, [], ◌∷◌, All, length}
use Rattle.asc_base.specs.TreeShape.{olat_of}
use Rattle.bus_schedule.specs.Timetable.{Public, count_of, beat_at, end_at, starts, timetable, fallen}
use Rattle.epoch_learner.specs.Heard.{Heard, nothing_heard, with_access}
use Rattle.run_play.specs.Slots.{Pace, Slot, heard_then}
use Rattle.run_play.specs.PlayEvents.{starts_in, indices_in, dummies_in, choices_in, code_in}

-- what is heard of a slot that takes so many cycles: its access, and then the choice at its end
abbrev pub heard_slot : ℕ → Heard → Slot → Heard
heard_slot olat heard slot =
    heard_then (with_access heard (record { start = slot.start; asked = slot.asked }) (slot.start + olat)) slot.chosen

-- and of slots one after another
unfoldable pub heard_slots : ℕ → Heard → List Slot → Heard
heard_slots olat heard [] = heard
heard_slots olat heard (slot ∷ slots) = heard_slots olat (heard_slot olat heard slot) slots

-- what is heard of all slots
abbrev pub heard_in : Public → List Slot → Heard
heard_in p slots = heard_slots (olat_of p.levels) nothing_heard slots

-- These slots are the first of the timetable, by the code of the choices at their ends, which are indices of rates, as
-- many as fall in so many slots; and this is the pace after them.
pub record IsPace (p : Public) (slots : List Slot) (pace : Pace) : Type 0 where
  pub starts : starts_in slots ≡ starts p (code_in p slots) (length slots)
  pub beat : pace.beat ≡ beat_at p (code_in p slots) (length slots)
  pub heard : pace.heard ≡ heard_in p slots
  pub ended : pace.heard.ended ≡ end_at p (code_in p slots) (length slots)
  pub dummies : pace.dummies ≡ dummies_in slots
  pub indices : All (λ index. index < count_of p) (indices_in slots)
  pub fell : choices_in slots ≡ pace.beat.choices

-- Up to a time these slots are those of the timetable, by the code of the choices at their ends, the dummies among
-- them; and the choices are indices of rates, as many as fall by then.
pub record AreOnTime (p : Public) (end : ℕ) (slots : List Slot) : Type 0 where
  pub starts : starts_in slots ≡ timetable p (code_in p slots) end
  pub indices : All (λ index. index < count_of p) (indices_in slots)
  pub fell : choices_in slots ≡ fallen p (code_in p slots) end
