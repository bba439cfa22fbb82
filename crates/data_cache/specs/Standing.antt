-- When a cache and the list of its store stand for one list of bytes.
use Rattle.std.specs.Prelude.{◌≡◌, ℕ, ◌<◌, ◌⊎◌, true, List, [], length, map, slice_index_or}
use Rattle.data_cache.specs.CacheLists.{Lines, line_in, set_of, keeps_dirty}
use Rattle.data_cache.specs.Contents.{Contents}
use Rattle.data_cache.specs.Mirror.{marks, Mirrors}

-- the lists of what a cache holds, beside a list of bytes
abbrev pub lists_of : Contents → List ℕ → Lines
lists_of cache memory = record { memory = memory; sets = map marks (cache.sets) }

-- A line stands in the store as the list of bytes has it, or is dirty in the cache.
abbrev pub StoredOrDirty : Lines → List (List ℕ) → ℕ → Type 0
StoredOrDirty lines list n =
    (keeps_dirty (set_of lines.sets n) n ≡ true) ⊎ (slice_index_or list n [] ≡ line_in lines.memory n)

-- Each line that is held has its bytes in the list of bytes, and each line of the store stands there too, but where
-- the cache has changed it since.
pub record StandFor (cache : Contents) (list : List (List ℕ)) (memory : List ℕ) : Type 0 where
  pub mirrors : Mirrors (length list) cache (lists_of cache memory)
  pub each : (n : ℕ) → n < length list → StoredOrDirty (lists_of cache memory) list n
