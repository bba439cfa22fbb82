-- The rule of eviction: from the deepest level up to the root, each level takes the first four entries in order of
-- arrival that aren't placed and whose depth is at least the level.
use Rattle.std.specs.Prelude.{ℕ, zero, suc, List, [], ◌∷◌, Option, Some, None, length, replicate, nat_le, if◌then◌else◌}
use Rattle.path_evict.specs.Placement.{slots}

-- a level takes the first entries, in order of arrival, that may stand there: as many as it has room for
unfoldable pub fill : ℕ → ℕ → List ℕ → List (Option ℕ) → List (Option ℕ)
fill level room [] places = places
fill level room (depth ∷ depths) [] = []
fill level room (depth ∷ depths) (Some place ∷ places) = Some place ∷ fill level room depths places
fill level zero (depth ∷ depths) (None ∷ places) = None ∷ places
fill level (suc room) (depth ∷ depths) (None ∷ places) =
    (if nat_le level depth then (Some level ∷ fill level room depths places)
    else (None ∷ fill level (suc room) depths places))

-- a level and those above it take entries in turn, up to the root
unfoldable pub fill_up : ℕ → List ℕ → List (Option ℕ) → List (Option ℕ)
fill_up zero depths places = fill zero slots depths places
fill_up (suc level) depths places = fill_up level depths (fill (suc level) slots depths places)

-- each entry's level on a path with the levels from 0 to `levels`, None for those that stay
unfoldable pub eviction : List ℕ → ℕ → List (Option ℕ)
eviction depths levels = fill_up levels depths (replicate (length depths) None)
