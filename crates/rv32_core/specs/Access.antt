-- What a machine asks of its bytes, what is told of them, and bytes that are one list.
use Rattle.std.proofs.Common.{refl, ap, sym, ◌∙◌, arith}
use Rattle.std.proofs.lemmas.Grind.{common_steps}
use Rattle.std.specs.Prelude.{◌≡◌, ℕ, ◌+◌, ◌-◌, ◌%◌, ◌≤◌, List, [], ◌++◌, Option, Some, Result, Ok, Err, take}
use Rattle.std.specs.Prelude.{drop, length}
use Rattle.asc_base.specs.Bytes.{AreBytes}

-- A load of so many bytes from an address on, which is answered by them; a store of bytes, which is answered by none.
pub data Access : Type 0 where
  Load : ℕ → ℕ → Access
  Store : ℕ → List ℕ → Access

-- The bytes lie inside the memory, and inside one line of 64 bytes.
pub record IsInLine (base size address count : ℕ) : Type 0 where
  pub above : base ≤ address
  pub below : address + count ≤ base + size
  pub in_line : address % 64 + count ≤ 64

-- What is asked for lies inside the memory, and inside one line.
abbrev pub IsAccess : ℕ → ℕ → Access → Type 0
IsAccess base size (Load address count) = IsInLine base size address count
IsAccess base size (Store address bytes) = IsInLine base size address (length bytes)

-- A load is answered by as many bytes as it asks for, and a store by none.
abbrev pub IsAnswer : Access → List ℕ → Type 0
IsAnswer (Load address count) bytes = (length bytes ≡ count) × AreBytes bytes
IsAnswer (Store address stored) bytes = bytes ≡ []

-- so many bytes from an offset on
abbrev pub slice_of : List ℕ → ℕ → ℕ → List ℕ
slice_of memory offset count = take count (drop offset memory)

-- the list with these bytes from an offset on
abbrev pub spliced : List ℕ → ℕ → List ℕ → List ℕ
spliced memory offset bytes = take offset memory ++ bytes ++ drop (offset + length bytes) memory

-- Where the bytes are told after a load, they were told before, are the same, and were answered.
abbrev pub TellsLoad : ℕ → Option (List ℕ) → ℕ → ℕ → List ℕ → Option (List ℕ) → Type 0
TellsLoad base old address count bytes new =
    (memory : List ℕ) → new ≡ Some memory → (old ≡ Some memory) × (bytes ≡ slice_of memory (address - base) count)

-- Where the bytes are told after a store, they were told before, and these alone were changed.
abbrev pub TellsStore : ℕ → Option (List ℕ) → ℕ → List ℕ → Option (List ℕ) → Type 0
TellsStore base old address bytes new =
    (memory : List ℕ) → new ≡ Some memory
    → (before : List ℕ) × (old ≡ Some before) × (memory ≡ spliced before (address - base) bytes)

-- A list of bytes that begins at an address: what it answers to an access, and the list then.
abbrev pub access_bytes : ℕ → List ℕ → Access → List ℕ × List ℕ
access_bytes base memory (Load address count) = (slice_of memory (address - base) count, memory)
access_bytes base memory (Store address bytes) = ([], spliced memory (address - base) bytes)

-- Bytes that are one list: the address of the first, and the list.
pub record FlatState : Type 0 where
  pub base : ℕ
  pub bytes : List ℕ

-- A step of such bytes, which are never stopped.
abbrev pub FlatAccess : {E : Type 0} → FlatState → Access → Result (List ℕ) E → FlatState → Type 0
FlatAccess old (Load address count) (Ok bytes) new =
    (new ≡ old) × (bytes ≡ slice_of old.bytes (address - old.base) count) × IsAnswer (Load address count) bytes
FlatAccess old (Store address bytes) (Ok done) new =
    (new ≡ record old { bytes = spliced old.bytes (address - old.base) bytes }) × (done ≡ [])
    × ((address - old.base) + length bytes ≤ length old.bytes)
FlatAccess old access (Err stop) new = ⊥

-- such bytes stay where they are
pub FlatAccess-base : {E : Type 0} (old new : FlatState) (access : Access) (answer : Result (List ℕ) E)
    → FlatAccess old access answer new → new.base ≡ old.base
FlatAccess-base old new (Load address count) (Ok bytes) h = ap (λ (s : FlatState). s.base) h.0
FlatAccess-base old new (Store address bytes) (Ok done) h = ap (λ (s : FlatState). s.base) h.0
FlatAccess-base old new (Load address count) (Err stop) h = absurd h
FlatAccess-base old new (Store address bytes) (Err stop) h = absurd h

-- a splice inside a list keeps its length
pub length-spliced : (memory : List ℕ) (offset : ℕ) (bytes : List ℕ) → offset + length bytes ≤ length memory
    → length (spliced memory offset bytes) ≡ length memory
length-spliced memory offset bytes fits = grind (arith, common_steps)

-- and they stay as many
pub FlatAccess-size : {E : Type 0} (old new : FlatState) (access : Access) (answer : Result (List ℕ) E)
    → FlatAccess old access answer new → length new.bytes ≡ length old.bytes
FlatAccess-size old new (Load address count) (Ok bytes) h = ap (λ (s : FlatState). length s.bytes) h.0
FlatAccess-size old new (Store address bytes) (Ok done) h =
    ap (λ (s : FlatState). length s.bytes) h.0 ∙ length-spliced old.bytes (address - old.base) bytes h.2
FlatAccess-size old new (Load address count) (Err stop) h = absurd h
FlatAccess-size old new (Store address bytes) (Err stop) h = absurd h

-- what they answer
pub FlatAccess-answers : (E : Type 0) (old new : FlatState) (access : Access) (bytes : List ℕ)
    → FlatAccess {E = E} old access (Ok bytes) new → IsAnswer access bytes
FlatAccess-answers E old new (Load address count) bytes h = h.2
FlatAccess-answers E old new (Store address stored) bytes h = h.1

-- they are as many as are told
pub FlatAccess-told : (state : FlatState) (memory : List ℕ) → Some state.bytes ≡ Some memory
    → length memory ≡ length state.bytes
FlatAccess-told state memory e = let same : state.bytes ≡ memory = cc in ap length (sym same)

-- what their list says of a load
pub FlatAccess-load : (E : Type 0) (old new : FlatState) (address count : ℕ) (bytes : List ℕ)
    → FlatAccess {E = E} old (Load address count) (Ok bytes) new
    → TellsLoad old.base (Some old.bytes) address count bytes (Some new.bytes)
FlatAccess-load E old new address count bytes h memory e =
    let same : old.bytes ≡ memory = ap (λ (s : FlatState). s.bytes) (sym h.0) ∙ cc in
    (ap Some same, h.1 ∙ ap (λ l. slice_of l (address - old.base) count) same)

-- and of a store
pub FlatAccess-store : (E : Type 0) (old new : FlatState) (address : ℕ) (bytes done : List ℕ)
    → FlatAccess {E = E} old (Store address bytes) (Ok done) new
    → TellsStore old.base (Some old.bytes) address bytes (Some new.bytes)
FlatAccess-store E old new address bytes done h memory e =
    let same : new.bytes ≡ memory = cc in
    (old.bytes, refl, sym same ∙ ap (λ (s : FlatState). s.bytes) h.0)
