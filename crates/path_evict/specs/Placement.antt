-- Placements of entries on a path. The root's level is 0; an entry's depth is the deepest level of the path that its
-- own path shares. A placement is a list beside the list of depths: each entry's level, or None where it stays.
use Rattle.std.specs.Prelude.{ℕ, ◌≤◌, ◌==◌, Bool, false, List, [], ◌∷◌, Option, Some, None, is_none, count_by}

-- the entries that a bucket holds, and there is one bucket to a level
abbrev pub slots : ℕ
slots = 4

-- no entry stands below its depth
abbrev pub Fits : List ℕ → List (Option ℕ) → Type 0
Fits [] [] = Unit {0}
Fits [] (_ ∷ _) = ⊥
Fits (_ ∷ _) [] = ⊥
Fits (_ ∷ depths) (None ∷ places) = Fits depths places
Fits (depth ∷ depths) (Some level ∷ places) = (level ≤ depth) × Fits depths places

abbrev pub stands_at : ℕ → Option ℕ → Bool
stands_at level None = false
stands_at level (Some place) = place == level

-- how many entries stand at this level
abbrev pub count_at : ℕ → List (Option ℕ) → ℕ
count_at level places = count_by (stands_at level) places

-- how many entries stay
abbrev pub left : List (Option ℕ) → ℕ
left places = count_by is_none places

-- a level for each entry or none, none below its depth, and no level holds more than its bucket's slots
pub record IsPlacement (depths : List ℕ) (places : List (Option ℕ)) : Type 0 where
  pub fits : Fits depths places
  pub room : (level : ℕ) → count_at level places ≤ slots
