-- How many slots started, and which rates were chosen, by what was noted of them; and which events answer a line.
use Rattle.std.specs.Prelude.{◌≡◌, ◌<◌, ◌^◌, All, Bool, true, false, None, Some}
use Rattle.std.specs.List.{count_by}
use Rattle.bus_schedule.specs.Shown.{indices_of, leaves_of}
use Rattle.bus_schedule.specs.Timetable.{public_of}
use Rattle.bus_watch.specs.declared.log.Event.{Event}
use Rattle.bus_watch.specs.declared.log.Event.TheVariants.{Access, Drawn, Tagged, Accepted, Chosen, Answered}
use Rattle.bus_watch.specs.Log.{LogLists}
use Rattle.epoch_learner.specs.Learner.{HasCode}
use Rattle.rate_enforcer.specs.declared.clock.Clock.{Clock}

-- the start of a slot that nobody asked for
abbrev pub is_dummy : Event → Bool
is_dummy (Access start None) = true
is_dummy (Access start (Some asked)) = false
is_dummy (Drawn point leaf) = false
is_dummy (Tagged message) = false
is_dummy (Accepted message tag) = false
is_dummy (Chosen index) = false
is_dummy (Answered line value) = false

-- the start of a slot that was asked for
abbrev pub is_real : Event → Bool
is_real (Access start None) = false
is_real (Access start (Some asked)) = true
is_real (Drawn point leaf) = false
is_real (Tagged message) = false
is_real (Accepted message tag) = false
is_real (Chosen index) = false
is_real (Answered line value) = false

-- a line that is answered to whoever asked for it
abbrev pub is_answered : Event → Bool
is_answered (Access start asked) = false
is_answered (Drawn point leaf) = false
is_answered (Tagged message) = false
is_answered (Accepted message tag) = false
is_answered (Chosen index) = false
is_answered (Answered line value) = true

-- A clock counts the starts that a log notes, those of dummies and those that were asked for; and its learner counts
-- the choices that the log notes, which are the digits of its code. Each leaf that is drawn is one of the clock's tree.
pub record IsCounted (clock : Clock) (log : LogLists) : Type 0 where
  pub dummies : clock.dummies ≡ count_by is_dummy log.events
  pub real : clock.real ≡ count_by is_real log.events
  pub code : HasCode (public_of clock.config) (indices_of log.events) clock.learner
  pub leaves : All (λ leaf. leaf < 2 ^ clock.config.shape.levels) (leaves_of log.events)
