-- Where a store notes the lines that it answers: which answer is read from the next of them.
use Rattle.std.specs.Prelude.{◌≡◌, ◌==◌, if◌then◌else◌, ℕ, List, [], ◌∷◌, ◌++◌, Some, None, Result, Ok, Err, length}
use Rattle.request_plan.specs.Course.{Source, Known, Noted}
use Rattle.data_cache.specs.Lines.{LineRequest, Fetch, Store}
use Rattle.data_cache.specs.CacheLists.{Lines}
use Rattle.fed_run.specs.Fed.{Feed, NotedLine, numbered}

-- A fetch is answered by the next line that is noted, where that is its own; a store is answered by nothing, and notes
-- none.
abbrev pub line_source : LineRequest → Source NotedLine (List ℕ)
line_source (Fetch line) = Noted (λ noted. if noted.line == line then Some noted.bytes else None)
line_source (Store line value) = Known []

-- each of them has the 64 bytes of a line
abbrev pub AreLines : List NotedLine → Type 0
AreLines [] = Unit {0}
AreLines (noted ∷ rest) = (length noted.bytes ≡ 64) × AreLines rest

-- A step of a store beside a list, in which the line that a fetch is answered with is noted.
abbrev pub Beside : {S E : Type 0} → (S → LineRequest → Result (List ℕ) E → S → Type 0)
    → S × List NotedLine → LineRequest → Result (List ℕ) E → S × List NotedLine → Type 0
Beside step old (Fetch line) (Ok bytes) new =
    step (old.0) (Fetch line) (Ok bytes) (new.0) × (new.1 ≡ old.1 ++ numbered line bytes ∷ [])
Beside step old (Store line value) (Ok done) new =
    step (old.0) (Store line value) (Ok done) (new.0) × (new.1 ≡ old.1)
Beside step old (Fetch line) (Err stop) new = step (old.0) (Fetch line) (Err stop) (new.0) × (new.1 ≡ old.1)
Beside step old (Store line value) (Err stop) new =
    step (old.0) (Store line value) (Err stop) (new.0) × (new.1 ≡ old.1)

-- lists of kept lines beside a list of bytes, with these lines to be fed
abbrev pub feed_of : Lines → List NotedLine → Feed
feed_of lists left = record { memory = lists.memory; sets = lists.sets; left = left }
