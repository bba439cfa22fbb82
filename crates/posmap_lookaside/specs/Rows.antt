-- Held blocks, and walks in numbers, on which the definitions are computed.
use Rattle.std.specs.Prelude.{ℕ, List, [], ◌∷◌, flat_map}
use Rattle.std.specs.Option.{option_map_or}
use Rattle.posmap_counters.specs.Counters.{counter_at, first_counter}
use Rattle.posmap_counters.specs.Group.{first_group}
use Rattle.posmap_lookaside.specs.declared.held.Held.{Held}
use Rattle.posmap_lookaside.specs.Walk.{WalkAccess, WalkSizes, chip_at_start, walks}

-- a held block of this address, whose children were never accessed
abbrev pub block : ℕ → Held
block address = record { address = record { 0 = address }; counter = first_counter; group = first_group }

-- an access is 1, its block and its counter; behind it stands 0, the block that is displaced and its counter
abbrev pub shown : WalkAccess → List (ℕ × ℕ × ℕ × ℕ)
shown access =
    (1, access.address, access.counter.group, access.counter.own)
    ∷ option_map_or (λ last.
    let counter = counter_at access.counters last in (0, last, counter.group, counter.own) ∷ [])
    access.displaced []

-- the default shape with so much room for held blocks, and 64 lines with own counts of two bits
abbrev pub default_sizes : ℕ → WalkSizes
default_sizes plb = record { lines = 16384; layers = 3; plb = plb; ic = 14 }

abbrev pub small_sizes : ℕ → ℕ → WalkSizes
small_sizes layers plb = record { lines = 64; layers = layers; plb = plb; ic = 2 }

-- requests for lines from the start on
abbrev pub row : WalkSizes → List ℕ → List (ℕ × ℕ × ℕ × ℕ)
row sizes lines = flat_map shown (walks sizes chip_at_start lines).accesses

-- lines 0 and 32 in turn, where two blocks are held
abbrev pub in_turn : List ℕ
in_turn = 0 ∷ 32 ∷ 0 ∷ 32 ∷ 0 ∷ 32 ∷ 0 ∷ []
