-- The end of a slot.
use Rattle.std.specs.Prelude.{◌≡◌, ◌+◌, ◌<◌, ℕ, List, [], ◌∷◌, Option, None, Some}
use Rattle.asc_base.specs.TreeShape.{olat_of}
use Rattle.bus_watch.specs.declared.log.Event.{Event}
use Rattle.bus_watch.specs.declared.log.Event.TheVariants.{Chosen}
use Rattle.bus_watch.specs.Log.{LogLists}
use Rattle.bus_watch.specs.Path.{slot_moves}
use Rattle.epoch_learner.specs.Stands.{StandsIn}
use Rattle.rate_enforcer.specs.declared.clock.Clock.{Clock}

-- what is noted of a choice, if one falls
abbrev pub chosen_events : Option ℕ → List Event
chosen_events None = []
chosen_events (Some index) = Chosen index ∷ []

-- how many dummies have started after one more slot, which was asked for at a time or by nobody
abbrev pub with_dummy : Option ℕ → ℕ → ℕ
with_dummy None dummies = dummies + 1
with_dummy (Some asked) dummies = dummies

-- and how many slots that were asked for
abbrev pub with_real : Option ℕ → ℕ → ℕ
with_real None real = real
with_real (Some asked) real = real + 1

-- The slot that started next has made all its moves, and ends at this time.
pub record IsAtEnd (clock : Clock) (end : ℕ) (log : LogLists) : Type 0 where
  pub done : ℕ
  pub leaf : ℕ
  pub stands : StandsIn clock.config done clock.next leaf (slot_moves clock.config.shape.levels clock.next leaf)
      clock.learner log
  pub early : clock.next < clock.config.time
  pub end_is : end ≡ clock.next + olat_of clock.config.shape.levels
