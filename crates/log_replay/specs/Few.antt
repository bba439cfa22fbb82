-- How many entries events can bring to hand.
use Rattle.std.specs.Prelude.{ℕ, ◌+◌, ◌*◌, List}
use Rattle.std.specs.List.{sum_by}
use Rattle.bus_watch.specs.declared.log.Event.{Event}
use Rattle.bus_watch.specs.declared.log.Event.TheVariants.{Access, Drawn, Tagged, Accepted, Chosen, Answered}

-- an event at most: four for each bucket of a path that is read, and one for a message
abbrev pub entries_by : (levels : ℕ) → Event → ℕ
entries_by levels (Access start asked) = 0
entries_by levels (Drawn point leaf) = 4 * (levels + 1)
entries_by levels (Tagged message) = 1
entries_by levels (Accepted message tag) = 0
entries_by levels (Chosen index) = 0
entries_by levels (Answered line value) = 0

-- all of them at most
abbrev pub most_entries : (levels : ℕ) → List Event → ℕ
most_entries levels events = sum_by (entries_by levels) events
