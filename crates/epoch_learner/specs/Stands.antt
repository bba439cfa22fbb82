-- How far a learner and a log have come in the timetable of a configuration, between two slots and in one.
use Rattle.std.specs.Prelude.{◌≡◌, ℕ, ◌+◌, ◌*◌, ◌<◌, ◌≤◌, List, [], ◌∷◌, ◌++◌, All, Option, None, Some, IfSome, length}
use Rattle.asc_base.specs.TreeShape.{olat_of}
use Rattle.asc_base.specs.declared.block.Leaf.{Leaf}
use Rattle.asc_base.specs.declared.block.Point.TheVariants.{Dummy}
use Rattle.asc_base.specs.declared.settings.Config.{Config}
use Rattle.bus_watch.specs.declared.log.Event.{Event}
use Rattle.bus_watch.specs.declared.log.Event.TheVariants.{Access, Drawn, Chosen}
use Rattle.bus_watch.specs.declared.log.Move.{Move}
use Rattle.bus_watch.specs.Log.{LogLists, with_event}
use Rattle.bus_watch.specs.Path.{slot_moves}
use Rattle.bus_schedule.specs.declared.beat.Beat.{Beat}
use Rattle.bus_schedule.specs.Timetable.{Public, public_of, count_of, rate_at, beat_at, start_at, end_at, starts}
use Rattle.bus_schedule.specs.Shown.{starts_of, indices_of, code_of}
use Rattle.bus_schedule.specs.Asked.{ServesPromptly}
use Rattle.bus_schedule.specs.Scheduled.{log_code, IsScheduled, Between, Inside}
use Rattle.epoch_learner.specs.Heard.{told_by, ChoosesByRule}
use Rattle.epoch_learner.specs.Learner.{Follows, Remembers, HasCode}
use Rattle.epoch_learner.specs.declared.Learner.{Learner}

-- The sums of a learner are those of accesses up to a time: each starts in a cycle of its own, and waited no longer
-- than up to its start. They may have waited longer in all than since the last choice, before which they may have been
-- asked.
pub record SumsTo (end : ℕ) (learner : Learner) : Type 0 where
  pub real : learner.real ≤ end
  pub waste : learner.waste ≤ learner.real * end
  pub since : learner.since ≤ end

-- the code of the choices among events
abbrev pub events_code : Public → List Event → ℕ
events_code p events = code_of (count_of p) (indices_of events)

-- These events start some first slots of the timetable, with as many choices as fell at the ends of these slots.
pub record AreDone (p : Public) (events : List Event) : Type 0 where
  pub count : ℕ
  pub begun : starts_of events ≡ starts p (events_code p events) count
  pub indices : All (λ index. index < count_of p) (indices_of events)
  pub fell : length (indices_of events) ≡ (beat_at p (events_code p events) count).choices

-- So do those before each slot's start: a choice that falls at an end is noted before the next slot starts.
abbrev pub ChoosesAtEnds : Public → List Event → Type 0
ChoosesAtEnds p events = (before later : List Event) (start : ℕ) (asked : Option ℕ)
    → events ≡ before ++ Access start asked ∷ later → AreDone p before

-- A learner stands where the timetable does, at a beat, and remembers what these events up to a time tell; each choice
-- among them is by the rule and at its end, they are the learner's code, and each real slot is the first from its time
-- on.
pub record IsInStep (config : Config) (beat : Beat) (end : ℕ) (learner : Learner) (events : List Event) : Type 0 where
  pub follows : Follows config beat learner
  pub remembers : Remembers learner (told_by (public_of config) events)
  pub rule : ChoosesByRule (public_of config) events
  pub ends : ChoosesAtEnds (public_of config) events
  pub code : HasCode (public_of config) (indices_of events) learner
  pub prompt : ServesPromptly events
  pub sums : SumsTo end learner

-- Between two slots: so many of the timetable's slots were done, the last of them ended at a time, 0 where there is
-- none, and the next one starts at another; the learner is in step.
pub record Stands (config : Config) (n last next : ℕ) (learner : Learner) (log : LogLists) : Type 0 where
  pub last_is : last ≡ end_at (public_of config) (log_code (public_of config) log) n
  pub next_is : next ≡ start_at (public_of config) (log_code (public_of config) log) n
  pub between : Between (public_of config) n log
  pub step : IsInStep config (beat_at (public_of config) (log_code (public_of config) log) n) last learner log.events

-- In a slot: so many were done before it, it starts at this time, has this leaf, and these of its moves were made; the
-- learner has seen it and is in step.
pub record StandsIn (config : Config) (n start leaf : ℕ) (part : List Move) (learner : Learner) (log : LogLists)
    : Type 0 where
  pub start_is : start ≡ start_at (public_of config) (log_code (public_of config) log) n
  pub inside : Inside (public_of config) n leaf part log
  pub ended : (told_by (public_of config) log.events).ended ≡ start + olat_of config.shape.levels
  pub step : IsInStep config (beat_at (public_of config) (log_code (public_of config) log) n)
      (start + olat_of config.shape.levels) learner log.events

-- The next slot is the first that starts at or after the time when it was asked for: it starts no earlier, and the slot
-- before it did, which ended less than a slot's cycles later. A dummy wasn't asked for.
abbrev pub IsFirstFor : (olat last next : ℕ) (asked : Option ℕ) → Type 0
IsFirstFor olat last next asked = IfSome asked (λ time. (time ≤ next) × (last < time + olat))

-- Up to a time a log keeps the pace of a configuration: it is scheduled, each choice is by the rule and at its end, and
-- each real slot is the first from its time on.
pub record KeepsPace (config : Config) (end : ℕ) (log : LogLists) : Type 0 where
  pub scheduled : IsScheduled (public_of config) end log
  pub rule : ChoosesByRule (public_of config) log.events
  pub ends : ChoosesAtEnds (public_of config) log.events
  pub prompt : ServesPromptly log.events

-- the log of the first slot of a configuration, a dummy with this leaf, before a choice at its end
abbrev pub one_slot : Config → Leaf → LogLists
one_slot config leaf = record {
  moves = slot_moves config.shape.levels (rate_at config.rates.list config.first) leaf.0;
  events = Access (rate_at config.rates.list config.first) None ∷ Drawn (Dummy 0) leaf ∷ [];
  altered = [];
}

-- the log with a choice more, if there is one
abbrev pub noted : Option ℕ → LogLists → LogLists
noted None log = log
noted (Some index) log = with_event log (Chosen index)
