-- When the data lines as last stored and the lines that a cache keeps stand for a list of bytes.
use Rattle.std.specs.Prelude.{◌≡◌, ℕ, ◌<◌, ◌≤◌, Bool, true, ◌⊎◌, List, [], ◌∷◌, All, length}
use Rattle.asc_base.specs.Has.{Has}
use Rattle.data_cache.specs.CacheLists.{Kept, Sets, Lines, set_of, keeps_dirty, line_in}
use Rattle.data_cache.specs.Lines.{LineRequest, Fetch, Store}
use Rattle.run_play.specs.Requests.{StoredLines, data_line}

-- the data lines after requests
abbrev pub stored_by : StoredLines → List LineRequest → StoredLines
stored_by lines [] = lines
stored_by lines (Fetch line ∷ requests) = stored_by lines requests
stored_by lines (Store line value ∷ requests) = stored_by ((line, value) ∷ lines) requests

-- whether a line is kept dirty
abbrev pub is_dirty : Sets → ℕ → Bool
is_dirty sets line = keeps_dirty (set_of sets line) line

-- a line is kept dirty, or was last stored as the list of bytes has it
abbrev pub IsStored : Lines → StoredLines → ℕ → Type 0
IsStored lines stored line = (is_dirty lines.sets line ≡ true) ⊎ (data_line stored line ≡ line_in lines.memory line)

-- So each of so many lines but those that are still to be loaded, where the sets have at most so many kept lines each:
-- what was stored and what is kept stand for the list of bytes.
pub record IsHonest (ways count : ℕ) (pending : List ℕ) (lines : Lines) (stored : StoredLines) : Type 0 where
  pub some : 0 < length lines.sets
  pub room : All (λ (set : List Kept). length set ≤ ways) lines.sets
  pub each : (line : ℕ) → line < count → Has line pending ⊎ IsStored lines stored line
