-- The CacheLists: which requests to a store the uses of lines make, by lists of lines alone, without a byte in them.
use Rattle.std.specs.Prelude.{◌≡◌, ℕ, ◌*◌, ◌+◌, ◌-◌, ◌%◌, ◌==◌, Bool, true, false, ◌&&◌, ◌||◌, not, if◌then◌else◌, List}
use Rattle.std.specs.Prelude.{[], ◌∷◌, ◌++◌, length, take, filter, replicate, slice_index_or, slice_set, slice_get}
use Rattle.std.specs.Prelude.{Option}
use Rattle.std.specs.List.{list_any}
use Rattle.std.specs.Option.{option_map_or}
use Rattle.request_plan.specs.Plan.{Plan, Done, Ask, bind}
use Rattle.rv32_core.specs.Access.{slice_of, spliced}
use Rattle.rv32_core.specs.LineList.{LineKind, Read, Write, WholeWrite, LineUse}
use Rattle.data_cache.specs.Lines.{LineRequest, Fetch, Store}

-- a line that is kept, and whether it was changed since it came or was last stored
pub record Kept : Type 0 where
  pub line : ℕ
  pub dirty : Bool

-- The sets, each a list of kept lines, the most recent first. Line n belongs to set n modulo their number.
abbrev pub Sets : Type 0
Sets = List (List Kept)

-- so many empty sets
abbrev pub no_lines : ℕ → Sets
no_lines sets = replicate sets []

-- whether a use changes its line, and whether it needs the line's bytes
abbrev pub changes : LineKind → Bool
changes Read = false
changes Write = true
changes WholeWrite = true

abbrev pub needs : LineKind → Bool
needs Read = true
needs Write = true
needs WholeWrite = false

-- the set of a line
abbrev pub set_of : Sets → ℕ → List Kept
set_of sets line = slice_index_or sets (line % length sets) []

-- whether a set keeps a line, and whether it keeps it dirty
abbrev pub keeps : List Kept → ℕ → Bool
keeps set line = list_any (λ (k : Kept). k.line == line) set

abbrev pub keeps_dirty : List Kept → ℕ → Bool
keeps_dirty set line = list_any (λ (k : Kept). (k.line == line) && k.dirty) set

-- the set without a line
abbrev pub others : List Kept → ℕ → List Kept
others set line = filter (λ (k : Kept). not (k.line == line)) set

-- The used line comes first, and is dirty if it was or if the use changes it; the last of a full set finds no room.
abbrev pub set_after : ℕ → List Kept → LineUse → List Kept
set_after ways set use_of =
    let first : Kept = record { line = use_of.line; dirty = keeps_dirty set use_of.line || changes use_of.kind } in
    take ways (first ∷ others set use_of.line)

-- the line that finds no room
abbrev pub victim : ℕ → List Kept → ℕ → Option Kept
victim ways set line = slice_get (others set line) (ways - 1)

-- the lists with another set in the place of a line's
abbrev pub with_kept : Sets → ℕ → List Kept → Sets
with_kept sets line set = slice_set sets (line % length sets) set

-- the lists after a use
abbrev pub sets_after : ℕ → Sets → LineUse → Sets
sets_after ways sets use_of = with_kept sets use_of.line (set_after ways (set_of sets use_of.line) use_of)

-- a line of a list of bytes
abbrev pub line_in : List ℕ → ℕ → List ℕ
line_in memory line = slice_of memory (64 * line) 64

-- a dirty victim is stored as it stands in the list of bytes
abbrev pub stored : List ℕ → Option Kept → List LineRequest
stored memory victim =
    option_map_or (λ (k : Kept). if k.dirty then Store k.line (line_in memory k.line) ∷ [] else []) victim []

-- a line that isn't kept is fetched, where the use needs its bytes
abbrev pub fetched : List Kept → LineUse → List LineRequest
fetched set use_of =
    if needs use_of.kind && not (keeps set use_of.line) then Fetch use_of.line ∷ [] else []

-- The requests of a use: a dirty victim is stored before the fetch.
abbrev pub requests_of : ℕ → List ℕ → Sets → LineUse → List LineRequest
requests_of ways memory sets use_of =
    let set = set_of sets use_of.line in stored memory (victim ways set use_of.line) ++ fetched set use_of

-- The requests of uses, one after another, over a list of bytes that stays as it is.
abbrev pub requests_along : ℕ → List ℕ → Sets → List LineUse → List LineRequest
requests_along ways memory sets [] = []
requests_along ways memory sets (first ∷ others) =
    requests_of ways memory sets first ++ requests_along ways memory (sets_after ways sets first) others

-- The set after its victim was stored: as it was, but the victim is clean.
abbrev pub set_settled : ℕ → List Kept → Option Kept → List Kept
set_settled ways set victim =
    option_map_or (λ (k : Kept). if k.dirty then slice_set set (ways - 1)
    (record k { dirty = false }) else set) victim set

-- The requests, one after another, where a fetched line takes its place in the list of bytes; what is left is always
-- this.
abbrev pub ask_all : {B : Type 0} → B → List ℕ → List LineRequest → Plan LineRequest (List ℕ) B (List ℕ)
ask_all left memory [] = Done memory
ask_all left memory (Fetch line ∷ rest) =
    Ask (Fetch line) left (λ bytes. ask_all left (spliced memory (64 * line) bytes) rest)
ask_all left memory (Store line value ∷ rest) = Ask (Store line value) left (λ _. ask_all left memory rest)

-- A use, on its set: its requests, the set after it, and the list of bytes. A stop of the store leaves the set as it
-- was; one of the fetch leaves it so, but a victim that was stored is clean.
abbrev pub use_set : ℕ → List Kept → List ℕ → LineUse → Plan LineRequest (List ℕ) (List Kept) (List Kept × List ℕ)
use_set ways set memory use_of =
    bind (λ left. left) (ask_all set memory (stored memory (victim ways set use_of.line)))
    (λ now. bind (λ left. left)
    (ask_all (set_settled ways set (victim ways set use_of.line)) now (fetched set use_of))
    (λ brought. Done (set_after ways set use_of, brought)))

-- A list of bytes, and which of its lines are kept.
pub record Lines : Type 0 where
  pub memory : List ℕ
  pub sets : Sets

-- what stands behind a machine after a use of a line on its set
abbrev pub after_use : Lines → ℕ → List Kept → List ℕ → Lines
after_use lines line set memory = record { memory = memory; sets = with_kept lines.sets line set }

-- A read of so many bytes of a line from an offset on; a write of bytes there; and a write of a whole line.
abbrev pub read_lines : ℕ → Lines → ℕ → ℕ → ℕ → Plan LineRequest (List ℕ) Sets (Lines × List ℕ)
read_lines ways lines line offset count =
    bind (with_kept lines.sets line)
    (use_set ways (set_of lines.sets line) lines.memory (record { line = line; kind = Read }))
    (λ r. Done (after_use lines line (r.0) (r.1), slice_of (r.1) (64 * line + offset) count))

abbrev pub write_lines : ℕ → Lines → ℕ → ℕ → List ℕ → Plan LineRequest (List ℕ) Sets Lines
write_lines ways lines line offset bytes =
    bind (with_kept lines.sets line)
    (use_set ways (set_of lines.sets line) lines.memory (record { line = line; kind = Write }))
    (λ r. Done (after_use lines line (r.0) (spliced (r.1) (64 * line + offset) bytes)))

abbrev pub write_whole_line : ℕ → Lines → ℕ → List ℕ → Plan LineRequest (List ℕ) Sets Lines
write_whole_line ways lines line value =
    bind (with_kept lines.sets line)
    (use_set ways (set_of lines.sets line) lines.memory (record { line = line; kind = WholeWrite }))
    (λ r. Done (after_use lines line (r.0) (spliced (r.1) (64 * line) value)))

-- Whatever is answered, a plan makes these requests, in order.
abbrev pub Requests : {B A : Type 0} → Plan LineRequest (List ℕ) B A → List LineRequest → Type 0
Requests (Done a) requests = requests ≡ []
Requests (Ask q left next) [] = ⊥
Requests (Ask q left next) (first ∷ others) = (q ≡ first) × ((bytes : List ℕ) → Requests (next bytes) others)
