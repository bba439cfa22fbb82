-- When lists of kept lines and a list of bytes stand for what a cache holds.
use Rattle.std.specs.Prelude.{◌≡◌, ℕ, ◌*◌, ◌%◌, ◌<◌, ◌≤◌, List, [], ◌∷◌, length, map, slice_index_or}
use Rattle.data_cache.specs.CacheLists.{Kept, Lines, line_in}
use Rattle.data_cache.specs.Contents.{Contents}
use Rattle.data_cache.specs.declared.set.Held.{Held}

-- a set without its bytes, and without its marks
abbrev pub marks : List Held → List Kept
marks set = map (λ (h : Held). let kept : Kept = record { line = h.line; dirty = h.dirty } in kept) set

abbrev pub pairs : List Held → List (ℕ × List ℕ)
pairs set = map (λ (h : Held). (h.line, h.value.0)) set

-- none of these is line n
abbrev pub NotIn : ℕ → List (ℕ × List ℕ) → Type 0
NotIn n [] = Unit {0}
NotIn n (p ∷ ps) = (p.0 ≡ n → ⊥) × NotIn n ps

-- These are lines of set k, each once, each with the bytes that the list of bytes has for it.
abbrev pub Fit : ℕ → ℕ → ℕ → List ℕ → List (ℕ × List ℕ) → Type 0
Fit sets k lines memory [] = Unit {0}
Fit sets k lines memory (p ∷ ps) =
    (p.0 % sets ≡ k) × (p.0 < lines) × (line_in memory (p.0) ≡ p.1) × NotIn (p.0) ps × Fit sets k lines memory ps

-- The lists are those of what the cache holds, and the bytes of each held line are those of the list of bytes.
pub record Mirrors (count : ℕ) (cache : Contents) (lines : Lines) : Type 0 where
  pub is : lines.sets ≡ map marks (cache.sets)
  pub some : 0 < length (cache.sets)
  pub ways : 0 < cache.ways
  pub size : length (lines.memory) ≡ 64 * count
  pub fits : (k : ℕ) → k < length (cache.sets) → length (slice_index_or (cache.sets) k []) ≤ cache.ways
  pub each : (k : ℕ) → k < length (cache.sets)
      → Fit (length (cache.sets)) k count (lines.memory) (pairs (slice_index_or (cache.sets) k []))
