-- How far a log has come in the schedule.
use Rattle.std.specs.Prelude.{◌≡◌, ℕ, suc, ◌<◌, List, [], ◌∷◌, ◌++◌, All, length}
use Rattle.bus_watch.specs.declared.log.Event.{Event}
use Rattle.bus_watch.specs.declared.log.Move.{Move}
use Rattle.bus_watch.specs.Log.{LogLists}
use Rattle.bus_schedule.specs.Timetable.{Public, count_of, beat_at, starts, timetable, fallen}
use Rattle.bus_schedule.specs.Schedule.{moves_of, schedule}
use Rattle.bus_schedule.specs.Shown.{starts_of, leaves_of, indices_of, AreSilent, code_of}

-- the code of a log: its choices are the digits
abbrev pub log_code : Public → LogLists → ℕ
log_code p log = code_of (count_of p) (indices_of log.events)

-- Up to a time the slots of a log start as the timetable of its code says, each has its leaf, and the moves are the
-- schedule of these leaves; and the choices are indices of rates, as many as fall by then.
pub record IsScheduled (p : Public) (end : ℕ) (log : LogLists) : Type 0 where
  pub starts : starts_of log.events ≡ timetable p (log_code p log) end
  pub leaves : length (leaves_of log.events) ≡ length (timetable p (log_code p log) end)
  pub moves : log.moves ≡ schedule p (log_code p log) (leaves_of log.events) end
  pub indices : All (λ index. index < count_of p) (indices_of log.events)
  pub fell : length (indices_of log.events) ≡ fallen p (log_code p log) end

-- The choices of a log are indices of rates, and as many as fell in so many slots.
pub record HasChosen (p : Public) (n : ℕ) (log : LogLists) : Type 0 where
  pub indices : All (λ index. index < count_of p) (indices_of log.events)
  pub fell : length (indices_of log.events) ≡ (beat_at p (log_code p log) n).choices

-- So many slots of the timetable were done, with the choices that fell at their ends, and nothing else.
pub record Between (p : Public) (n : ℕ) (log : LogLists) : Type 0 where
  pub chosen : HasChosen p n log
  pub begun : starts_of log.events ≡ starts p (log_code p log) n
  pub leaves : length (leaves_of log.events) ≡ n
  pub moves : log.moves ≡ moves_of p.levels (starts p (log_code p log) n) (leaves_of log.events)

-- So many slots were done, and these moves of the next one, whose leaf is drawn.
pub record Inside (p : Public) (n leaf : ℕ) (part : List Move) (log : LogLists) : Type 0 where
  pub before : List ℕ
  pub chosen : HasChosen p n log
  pub begun : starts_of log.events ≡ starts p (log_code p log) (suc n)
  pub leaves : leaves_of log.events ≡ before ++ leaf ∷ []
  pub counted : length before ≡ n
  pub moves : log.moves ≡ moves_of p.levels (starts p (log_code p log) n) before ++ part

-- The newer log shows no more of slots: the events that it has more are silent.
pub record ShowsNoMore (old new : LogLists) : Type 0 where
  pub more : List Event
  pub events : new.events ≡ old.events ++ more
  pub silent : AreSilent more
