-- Which line is the first of a set.
use Rattle.std.specs.Prelude.{◌≡◌, ℕ, List, ◌∷◌}
use Rattle.data_cache.specs.declared.set.Held.{Held}

-- the first line of the set has this number
abbrev pub StandsFirst : ℕ → List Held → Type 0
StandsFirst n set = (h : Held) × (rest : List Held) × (set ≡ h ∷ rest) × (h.line ≡ n)
