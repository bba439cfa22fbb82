-- What a log's events show of its slots: their starts, their leaves and the choices of rates.
use Rattle.std.specs.Prelude.{◌≡◌, ℕ, ◌+◌, ◌*◌, List, [], ◌∷◌}
use Rattle.std.specs.List.{flat_map}
use Rattle.bus_watch.specs.declared.log.Event.{Event}
use Rattle.bus_watch.specs.declared.log.Event.TheVariants.{Access, Drawn, Tagged, Accepted, Chosen, Answered}

-- a slot's start
abbrev pub start_of : Event → List ℕ
start_of (Access start asked) = start ∷ []
start_of (Drawn point leaf) = []
start_of (Tagged message) = []
start_of (Accepted message tag) = []
start_of (Chosen index) = []
start_of (Answered line value) = []

abbrev pub starts_of : List Event → List ℕ
starts_of events = flat_map start_of events

-- a slot's leaf
abbrev pub leaf_of : Event → List ℕ
leaf_of (Access start asked) = []
leaf_of (Drawn point leaf) = leaf.0 ∷ []
leaf_of (Tagged message) = []
leaf_of (Accepted message tag) = []
leaf_of (Chosen index) = []
leaf_of (Answered line value) = []

abbrev pub leaves_of : List Event → List ℕ
leaves_of events = flat_map leaf_of events

-- a choice's index
abbrev pub index_of : Event → List ℕ
index_of (Access start asked) = []
index_of (Drawn point leaf) = []
index_of (Tagged message) = []
index_of (Accepted message tag) = []
index_of (Chosen index) = index ∷ []
index_of (Answered line value) = []

abbrev pub indices_of : List Event → List ℕ
indices_of events = flat_map index_of events

-- These events show nothing of slots: no start, no leaf and no choice.
pub record AreSilent (events : List Event) : Type 0 where
  pub starts : starts_of events ≡ []
  pub leaves : leaves_of events ≡ []
  pub indices : indices_of events ≡ []

-- The number whose digits to a base these are, the least first.
unfoldable pub code_of : ℕ → List ℕ → ℕ
code_of base [] = 0
code_of base (digit ∷ digits) = digit + base * code_of base digits
