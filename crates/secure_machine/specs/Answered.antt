-- The lines that a log notes as answered.
use Rattle.std.specs.Prelude.{List, [], ◌∷◌}
use Rattle.std.specs.List.{flat_map}
use Rattle.bus_watch.specs.declared.log.Event.{Event}
use Rattle.bus_watch.specs.declared.log.Event.TheVariants.{Access, Drawn, Tagged, Accepted, Chosen, Answered}
use Rattle.fed_run.specs.Fed.{NotedLine, numbered}

-- an answered line: its number, and its bytes
abbrev pub answered_of : Event → List NotedLine
answered_of (Access start asked) = []
answered_of (Drawn point leaf) = []
answered_of (Tagged message) = []
answered_of (Accepted message tag) = []
answered_of (Chosen index) = []
answered_of (Answered line value) = numbered line value.0 ∷ []

-- of all that are answered, in order
abbrev pub answered_lines : List Event → List NotedLine
answered_lines events = flat_map answered_of events
