-- Items beside their places: a list of any items, and beside it a list of each item's level, or None where it stays.
use Rattle.std.specs.Prelude.{ℕ, zero, suc, ◌+◌, Bool, List, [], ◌∷◌, Option, is_none, count_by, if◌then◌else◌}
use Rattle.path_evict.specs.Placement.{stands_at}

-- the items whose place meets a test, in order
abbrev pub where_placed : {A : Type 0} → (Option ℕ → Bool) → List (Option ℕ) → List A → List A
where_placed test [] items = []
where_placed test (place ∷ places) [] = []
where_placed test (place ∷ places) (item ∷ items) =
    (if test place then (item ∷ where_placed test places items) else where_placed test places items)

-- the items that a level takes
abbrev pub taken_at : {A : Type 0} → ℕ → List (Option ℕ) → List A → List A
taken_at level places items = where_placed (stands_at level) places items

-- the items that stay
abbrev pub kept : {A : Type 0} → List (Option ℕ) → List A → List A
kept places items = where_placed is_none places items

-- how many items that meet a test the levels below a number take
abbrev pub count_below : {A : Type 0} → (A → Bool) → List (Option ℕ) → List A → ℕ → ℕ
count_below p places items zero = 0
count_below p places items (suc level) = count_below p places items level + count_by p (taken_at level places items)
