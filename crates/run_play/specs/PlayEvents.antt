-- The events of a play, in order, and what is reported of it.
use Rattle.std.specs.Prelude.{ℕ, List, [], ◌∷◌, ◌++◌, length, map, option_to_list, Option}
use Rattle.std.specs.List.{flat_map, sum_by}
use Rattle.asc_base.specs.declared.block.Message.{Message}
use Rattle.asc_base.specs.declared.block.Point.{Point}
use Rattle.bus_schedule.specs.Shown.{code_of}
use Rattle.bus_schedule.specs.Timetable.{Public, count_of}
use Rattle.bus_watch.specs.declared.log.Event.{Event}
use Rattle.bus_watch.specs.declared.log.Event.TheVariants.{Access, Drawn, Tagged, Accepted, Chosen, Answered}
use Rattle.epoch_learner.specs.LearnerRule.{real_count}
use Rattle.run_play.specs.Slots.{Slot, dummy_count}
use Rattle.run_play.specs.Play.{PlayEnding, Play}

-- What a play says of a log's events: a slot starts, and was asked for at a time or is a dummy; a point's leaf is
-- drawn, whatever the leaf is; a message is tagged; an index is chosen. It says nothing of what is accepted and
-- answered.
pub data PlayEvent : Type 0 where
  Starts : ℕ → Option ℕ → PlayEvent
  Draws : Point → PlayEvent
  Tags : Message → PlayEvent
  Chooses : ℕ → PlayEvent

-- what it says of one event, and of events in order
abbrev pub said_of : Event → List PlayEvent
said_of (Access start asked) = Starts start asked ∷ []
said_of (Drawn point leaf) = Draws point ∷ []
said_of (Tagged message) = Tags message ∷ []
said_of (Accepted message tag) = []
said_of (Chosen index) = Chooses index ∷ []
said_of (Answered line value) = []

abbrev pub said_of_all : List Event → List PlayEvent
said_of_all events = flat_map said_of events

-- a message that is tagged, and an index that is chosen, where there is one
abbrev pub tags_of : Option Message → List PlayEvent
tags_of message = map Tags (option_to_list message)

abbrev pub chooses_of : Option ℕ → List PlayEvent
chooses_of index = map Chooses (option_to_list index)

-- The events of a slot: its start and its point; the block that is put back; the choice at its end; and the block that
-- is appended after it.
abbrev pub slot_events : Slot → List PlayEvent
slot_events slot =
    Starts slot.start slot.asked ∷ Draws slot.point ∷ []
    ++ tags_of slot.put ++ chooses_of slot.chosen ++ tags_of slot.appended

-- The events of slots.
abbrev pub play_events : List Slot → List PlayEvent
play_events slots = flat_map slot_events slots

-- the starts of slots, their points, and the indices that are chosen at their ends
abbrev pub starts_in : List Slot → List ℕ
starts_in slots = map (λ (s : Slot). s.start) slots

abbrev pub points_in : List Slot → List Point
points_in slots = map (λ (s : Slot). s.point) slots

abbrev pub indices_in : List Slot → List ℕ
indices_in slots = flat_map (λ (s : Slot). option_to_list s.chosen) slots

-- how many were asked for, and how many are dummies
abbrev pub real_in : List Slot → ℕ
real_in slots = sum_by (λ (s : Slot). real_count s.asked) slots

abbrev pub dummies_in : List Slot → ℕ
dummies_in slots = sum_by (λ (s : Slot). dummy_count s.asked) slots

-- how many rates are chosen, and the number whose digits they are
abbrev pub choices_in : List Slot → ℕ
choices_in slots = length (indices_in slots)

abbrev pub code_in : Public → List Slot → ℕ
code_in p slots = code_of (count_of p) (indices_in slots)

-- What is reported of a run but its output: how it ended; the instructions that are finished, the cycles and the
-- fetches that were answered; the end time; how many slots were asked for, and how many were dummies; how many rates
-- were chosen, and their code.
pub record PlayReport : Type 0 where
  pub ending : PlayEnding
  pub instructions : ℕ
  pub cycles : ℕ
  pub last : ℕ
  pub fetches : ℕ
  pub real : ℕ
  pub dummies : ℕ
  pub choices : ℕ
  pub code : ℕ

-- The report of a play.
abbrev pub report_of : Public → Play → PlayReport
report_of p run = record {
  ending = run.ending;
  instructions = run.numbers.instructions;
  cycles = run.numbers.cycles;
  last = run.last;
  fetches = run.numbers.fetches;
  real = real_in run.slots;
  dummies = dummies_in run.slots;
  choices = choices_in run.slots;
  code = code_in p run.slots;
}
