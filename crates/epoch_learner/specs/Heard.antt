-- What a log's events tell a learner, and choices by its rule.
use Rattle.std.specs.Prelude.{◌≡◌, ℕ, ◌+◌, ◌-◌, List, [], ◌∷◌, ◌++◌}
use Rattle.bus_watch.specs.declared.log.Event.{Event}
use Rattle.bus_watch.specs.declared.log.Event.TheVariants.{Access, Drawn, Tagged, Accepted, Chosen, Answered}
use Rattle.asc_base.specs.TreeShape.{olat_of}
use Rattle.bus_schedule.specs.Timetable.{Public}
use Rattle.epoch_learner.specs.LearnerRule.{Seen, learner_rule}

-- The accesses since the last choice, or since 0; the end at which that choice fell, or 0; and the last end so far.
pub record Heard : Type 0 where
  pub accesses : List Seen
  pub since : ℕ
  pub ended : ℕ

-- before the first access
abbrev pub nothing_heard : Heard
nothing_heard = record { accesses = []; since = 0; ended = 0 }

-- an access more
abbrev pub with_access : Heard → Seen → ℕ → Heard
with_access heard seen ended = record { accesses = heard.accesses ++ seen ∷ []; since = heard.since; ended = ended }

-- a choice falls at the last end
abbrev pub with_choice : Heard → Heard
with_choice heard = record { accesses = []; since = heard.ended; ended = heard.ended }

-- after an event, where a slot takes so many cycles
abbrev pub hears : ℕ → Heard → Event → Heard
hears olat heard (Access start asked) = with_access heard (record { start = start; asked = asked }) (start + olat)
hears olat heard (Drawn point leaf) = heard
hears olat heard (Tagged message) = heard
hears olat heard (Accepted message tag) = heard
hears olat heard (Chosen index) = with_choice heard
hears olat heard (Answered line value) = heard

-- after all of these events
unfoldable pub heard_of : ℕ → Heard → List Event → Heard
heard_of olat heard [] = heard
heard_of olat heard (event ∷ events) = heard_of olat (hears olat heard event) events

-- an event that is a choice has the rule's index
abbrev pub IsByRule : List ℕ → ℕ → Heard → Event → Type 0
IsByRule rates olat heard (Access start asked) = Unit {0}
IsByRule rates olat heard (Drawn point leaf) = Unit {0}
IsByRule rates olat heard (Tagged message) = Unit {0}
IsByRule rates olat heard (Accepted message tag) = Unit {0}
IsByRule rates olat heard (Chosen index) =
    index ≡ learner_rule rates olat heard.accesses (heard.ended - heard.since)
IsByRule rates olat heard (Answered line value) = Unit {0}

-- each choice among these events has it, over what was heard before it
unfoldable pub AreByRule : List ℕ → ℕ → Heard → List Event → Type 0
AreByRule rates olat heard [] = Unit {0}
AreByRule rates olat heard (event ∷ events) =
    IsByRule rates olat heard event × AreByRule rates olat (hears olat heard event) events

-- what a log's events tell
abbrev pub told_by : Public → List Event → Heard
told_by p events = heard_of (olat_of p.levels) nothing_heard events

-- Every choice of a log is the LearnerRule's over the accesses before it.
abbrev pub ChoosesByRule : Public → List Event → Type 0
ChoosesByRule p events = AreByRule p.rates (olat_of p.levels) nothing_heard events
