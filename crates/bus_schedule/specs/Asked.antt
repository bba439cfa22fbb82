-- Which slot serves what was asked for.
use Rattle.std.specs.Prelude.{ℕ, ◌<◌, ◌≤◌, List, [], ◌∷◌, ◌++◌, All, None, Some}
use Rattle.bus_watch.specs.declared.log.Event.{Event}
use Rattle.bus_watch.specs.declared.log.Event.TheVariants.{Access, Drawn, Tagged, Accepted, Chosen, Answered}
use Rattle.bus_schedule.specs.Shown.{start_of}

-- A start is the first from a time on, where these are the starts before it: it isn't before the time, and they all
-- are.
pub record IsFirstFrom (time : ℕ) (earlier : List ℕ) (start : ℕ) : Type 0 where
  pub from : time ≤ start
  pub others : All (λ other. other < time) earlier

-- where an event is the start of a slot that was asked for at a time, it is the first from that time on
abbrev pub IsPrompt : List ℕ → Event → Type 0
IsPrompt earlier (Access start None) = Unit {0}
IsPrompt earlier (Access start (Some asked)) = IsFirstFrom asked earlier start
IsPrompt earlier (Drawn point leaf) = Unit {0}
IsPrompt earlier (Tagged message) = Unit {0}
IsPrompt earlier (Accepted message tag) = Unit {0}
IsPrompt earlier (Chosen index) = Unit {0}
IsPrompt earlier (Answered line value) = Unit {0}

-- so of all these events, before which these slots started
unfoldable pub ArePrompt : List ℕ → List Event → Type 0
ArePrompt earlier [] = Unit {0}
ArePrompt earlier (event ∷ events) = IsPrompt earlier event × ArePrompt (earlier ++ start_of event) events

-- Every real slot of a log is the first that starts at or after the time at which it was asked for.
abbrev pub ServesPromptly : List Event → Type 0
ServesPromptly events = ArePrompt [] events
