-- How far a log is on time that ends with its last move.
use Rattle.std.specs.Prelude.{◌≡◌, ◌+◌, ◌++◌, ◌⊎◌, ℕ, List, [], ◌∷◌, length}
use Rattle.asc_base.specs.declared.settings.Config.{Config}
use Rattle.bus_schedule.specs.Schedule.{schedule}
use Rattle.bus_schedule.specs.Scheduled.{log_code}
use Rattle.bus_schedule.specs.Shown.{starts_of, leaves_of}
use Rattle.bus_schedule.specs.Timetable.{public_of, timetable}
use Rattle.bus_watch.specs.Log.{LogLists}
use Rattle.bus_watch.specs.declared.log.Move.{Move}

-- the cycle after the last of these moves, or 0 where there is none
abbrev pub IsAfter : List Move → ℕ → Type 0
IsAfter moves end =
    ((moves ≡ []) × (end ≡ 0))
    ⊎ ((before : List Move) × (last : Move) × (moves ≡ before ++ last ∷ []) × (end ≡ last.time + 1))

-- Up to a time the slots of a log start as the timetable of its code says, each has its leaf, and the moves are the
-- schedule of these leaves. A choice at an end after that time may be among those of the code.
pub record IsOnTime (config : Config) (end : ℕ) (log : LogLists) : Type 0 where
  pub starts : starts_of log.events ≡ timetable (public_of config) (log_code (public_of config) log) end
  pub leaves : length (leaves_of log.events)
      ≡ length (timetable (public_of config) (log_code (public_of config) log) end)
  pub moves : log.moves ≡ schedule (public_of config) (log_code (public_of config) log) (leaves_of log.events) end

-- A log is on time up to the cycle after its last move.
pub record EndsWithMove (config : Config) (log : LogLists) : Type 0 where
  pub end : ℕ
  pub after : IsAfter log.moves end
  pub on_time : IsOnTime config end log
