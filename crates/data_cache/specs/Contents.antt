-- What a cache holds, with the bytes of each line, and what its calls ask of a store.
use Rattle.std.specs.Prelude.{◌≡◌, ℕ, ◌<◌, ◌+◌, ◌-◌, ◌%◌, true, false, cond, ◌==◌, List, [], ◌∷◌, ◌++◌, Option, Some}
use Rattle.std.specs.Prelude.{None, All, length, take, drop, slice_get, slice_set, slice_index_or}
use Rattle.asc_base.specs.declared.block.Line.{Line}
use Rattle.request_plan.specs.Plan.{Plan, Done, Ask, bind}
use Rattle.rv32_core.specs.Access.{slice_of, spliced}
use Rattle.data_cache.specs.Lines.{LineRequest, Fetch, Store}
use Rattle.data_cache.specs.declared.set.Held.{Held}

-- the first with this number
abbrev pub find_line : ℕ → List Held → Option Held
find_line n [] = None
find_line n (h ∷ hs) = cond (h.line == n) (Some h) (find_line n hs)

-- the set without it
abbrev pub without : ℕ → List Held → List Held
without n [] = []
without n (h ∷ hs) = cond (h.line == n) hs (h ∷ without n hs)

-- the list with its element at i first
abbrev pub moved : ℕ → List Held → List Held
moved i set = drop i (take (i + 1) set) ++ take i set ++ drop (i + 1) set

-- The line stands there: moving it to the front is finding it and taking it out.
abbrev pub StandsAt : ℕ → List Held → ℕ → Type 0
StandsAt n set i = (h : Held) × (find_line n set ≡ Some h) × (moved i set ≡ h ∷ without n set)

-- A dirty last line of a full set is stored, and is clean then. Where that is stopped, the set is as it was.
abbrev pub settled : ℕ → List Held → Option Held → Plan LineRequest (List ℕ) (List Held) (List Held)
settled ways set None = Done set
settled ways set (Some last) =
    cond (last.dirty)
    (Ask (Store (last.line) (last.value.0)) set (λ _. Done (slice_set set (ways - 1) (record last { dirty = false }))))
    (Done set)

abbrev pub settle : ℕ → List Held → Plan LineRequest (List ℕ) (List Held) (List Held)
settle ways set = settled ways set (slice_get set (ways - 1))

-- The set with the line first; where it isn't held, the last of a full set is settled, and the line fetched in its
-- place.
abbrev pub obtained : ℕ → List Held → ℕ → Option Held → Plan LineRequest (List ℕ) (List Held) (List Held)
obtained ways set n (Some h) = Done (h ∷ without n set)
obtained ways set n None =
    bind (λ s. s) (settle ways set)
    (λ s. Ask (Fetch n) s
    (λ bytes. Done (record { line = n; dirty = false; value = record { 0 = bytes } } ∷ take (ways - 1) s)))

abbrev pub obtain : ℕ → List Held → ℕ → Plan LineRequest (List ℕ) (List Held) (List Held)
obtain ways set n = obtained ways set n (find_line n set)

-- The set with a line that is new in it, dirty; where the line isn't held, the last of a full set is settled.
abbrev pub replaced : ℕ → List Held → ℕ → Line → Option Held → Plan LineRequest (List ℕ) (List Held) (List Held)
replaced ways set n value (Some h) = Done (record { line = n; dirty = true; value = value } ∷ without n set)
replaced ways set n value None =
    bind (λ s. s) (settle ways set)
    (λ s. Done (record { line = n; dirty = true; value = value } ∷ take (ways - 1) s))

abbrev pub replace : ℕ → List Held → ℕ → Line → Plan LineRequest (List ℕ) (List Held) (List Held)
replace ways set n value = replaced ways set n value (find_line n set)

-- the bytes of the first line
abbrev pub first_bytes : List Held → List ℕ
first_bytes [] = []
first_bytes (h ∷ hs) = h.value.0

-- the set with these bytes written into its first line, which is dirty then
abbrev pub written : ℕ → List ℕ → List Held → List Held
written offset bytes [] = []
written offset bytes (h ∷ hs) = record h { dirty = true; value = record { 0 = spliced (h.value.0) offset bytes } } ∷ hs

-- what a cache holds: its ways, and its sets
pub record Contents : Type 0 where
  pub ways : ℕ
  pub sets : List (List Held)

-- the set of a line, and the cache with another in its place
abbrev pub index_of : Contents → ℕ → ℕ
index_of c n = n % length (c.sets)

abbrev pub held_in : Contents → ℕ → List Held
held_in c n = slice_index_or (c.sets) (index_of c n) []

abbrev pub with_set : Contents → ℕ → List Held → Contents
with_set c n set = record { ways = c.ways; sets = slice_set (c.sets) (index_of c n) set }

-- A read of so many bytes of a line from an offset on, a write of bytes there, and a write of the whole line: the
-- cache then, and for a read the bytes.
abbrev pub read_plan : Contents → ℕ → ℕ → ℕ → Plan LineRequest (List ℕ) Contents (Contents × List ℕ)
read_plan c n offset count =
    bind (with_set c n) (obtain (c.ways) (held_in c n) n)
    (λ s. Done (with_set c n s, slice_of (first_bytes s) offset count))

abbrev pub write_plan : Contents → ℕ → ℕ → List ℕ → Plan LineRequest (List ℕ) Contents Contents
write_plan c n offset bytes =
    bind (with_set c n) (obtain (c.ways) (held_in c n) n) (λ s. Done (with_set c n (written offset bytes s)))

abbrev pub write_line_plan : Contents → ℕ → Line → Plan LineRequest (List ℕ) Contents Contents
write_line_plan c n value =
    bind (with_set c n) (replace (c.ways) (held_in c n) n value) (λ s. Done (with_set c n s))

-- each line that is held is one of so many
abbrev pub HoldsBelow : ℕ → List Held → Type 0
HoldsBelow lines set = All (λ (h : Held). h.line < lines) set

abbrev pub CacheBelow : ℕ → Contents → Type 0
CacheBelow lines c = All (HoldsBelow lines) (c.sets)
