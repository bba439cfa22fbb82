-- What is asked of a store of lines, what is told of it, and a store that is one list of lines.
use Rattle.std.proofs.Common.{refl, ap, sym, ◌∙◌, length-set}
use Rattle.std.specs.Prelude.{◌≡◌, ℕ, List, [], Option, Some, Result, Ok, Err, length, slice_index_or}
use Rattle.std.specs.Prelude.{slice_get, slice_set}
use Rattle.asc_base.specs.Bytes.{AreBytes}

-- A fetch of a line, which is answered by its bytes; a store of a line's bytes, which is answered by none.
pub data LineRequest : Type 0 where
  Fetch : ℕ → LineRequest
  Store : ℕ → List ℕ → LineRequest

-- the 64 bytes of a line
abbrev pub IsLine : List ℕ → Type 0
IsLine bytes = (length bytes ≡ 64) × AreBytes bytes

-- A fetch is answered by a line, and a store by nothing.
abbrev pub IsLineAnswer : LineRequest → List ℕ → Type 0
IsLineAnswer (Fetch line) bytes = IsLine bytes
IsLineAnswer (Store line value) bytes = bytes ≡ []

-- Where the lines are told after a fetch, they were told before, are the same, and this line was answered.
abbrev pub TellsFetch : Option (List (List ℕ)) → ℕ → List ℕ → Option (List (List ℕ)) → Type 0
TellsFetch old line bytes new =
    (list : List (List ℕ)) → new ≡ Some list → (old ≡ Some list) × (slice_get list line ≡ Some bytes)

-- Where the lines are told after a store, they were told before, and this one alone was changed.
abbrev pub TellsStore : Option (List (List ℕ)) → ℕ → List ℕ → Option (List (List ℕ)) → Type 0
TellsStore old line value new =
    (list : List (List ℕ)) → new ≡ Some list
    → (before : List (List ℕ)) × (old ≡ Some before) × (list ≡ slice_set before line value)

-- a list of lines: what it answers to a request, and the list then
abbrev pub serve_lines : List (List ℕ) → LineRequest → List ℕ × List (List ℕ)
serve_lines list (Fetch line) = (slice_index_or list line [], list)
serve_lines list (Store line value) = ([], slice_set list line value)

-- A step of a store that is a list of lines, which is never stopped.
abbrev pub FlatStep : {E : Type 0} → List (List ℕ) → LineRequest → Result (List ℕ) E → List (List ℕ) → Type 0
FlatStep old (Fetch line) (Ok bytes) new = (slice_get old line ≡ Some bytes) × (new ≡ old) × IsLine bytes
FlatStep old (Store line value) (Ok done) new = (new ≡ slice_set old line value) × (done ≡ [])
FlatStep old request (Err stop) new = ⊥

-- such a list has as many lines
pub FlatStep-length : {E : Type 0} (old new : List (List ℕ)) (request : LineRequest) (answer : Result (List ℕ) E)
    → FlatStep old request answer new → length new ≡ length old
FlatStep-length old new (Fetch line) (Ok bytes) h = ap length h.1
FlatStep-length old new (Store line value) (Ok done) h = ap length h.0 ∙ length-set old line value
FlatStep-length old new (Fetch line) (Err stop) h = absurd h
FlatStep-length old new (Store line value) (Err stop) h = absurd h

pub FlatStep-answers : (E : Type 0) (old new : List (List ℕ)) (request : LineRequest) (bytes : List ℕ)
    → FlatStep {E = E} old request (Ok bytes) new → IsLineAnswer request bytes
FlatStep-answers E old new (Fetch line) bytes h = h.2
FlatStep-answers E old new (Store line value) bytes h = h.1

pub FlatStep-fetch : (E : Type 0) (old new : List (List ℕ)) (line : ℕ) (bytes : List ℕ)
    → FlatStep {E = E} old (Fetch line) (Ok bytes) new → TellsFetch (Some old) line bytes (Some new)
FlatStep-fetch E old new line bytes h list e =
    let same : new ≡ list = cc in (cc, ap (λ l. slice_get l line) (sym (sym h.1 ∙ same)) ∙ h.0)

pub FlatStep-store : (E : Type 0) (old new : List (List ℕ)) (line : ℕ) (value done : List ℕ)
    → FlatStep {E = E} old (Store line value) (Ok done) new → TellsStore (Some old) line value (Some new)
FlatStep-store E old new line value done h list e = let same : new ≡ list = cc in (old, refl, sym same ∙ h.0)

-- they are as many as are told
pub FlatStep-told : (lines list : List (List ℕ)) → Some lines ≡ Some list → length list ≡ length lines
FlatStep-told lines list e = let same : lines ≡ list = cc in ap length (sym same)
