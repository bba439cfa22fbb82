-- A cache over a store, as bytes: what it asks of the store for an access, and what its lists ask.
use Rattle.std.proofs.Common.{◌≡◌, ap}
use Rattle.std.specs.Prelude.{ℕ, ◌<◌, ◌-◌, ◌*◌, ◌/◌, ◌%◌, ◌==◌, if◌then◌else◌, List, [], length, Result, Ok, Err}
use Rattle.request_plan.specs.Plan.{Plan, Done, Ends, Stops, bind}
use Rattle.request_plan.proofs.Keeps.{Ends-keeps, Stops-keeps, Ends-narrows}
use Rattle.rv32_core.specs.Access.{Access, Load, Store, IsAnswer}
use Rattle.rv32_core.specs.LineList.{LineUse, Read, Write}
use Rattle.data_cache.specs.Lines.{LineRequest}
use Rattle.data_cache.specs.CacheLists.{Sets, Lines, read_lines, write_lines}
use Rattle.data_cache.specs.Contents.{Contents, read_plan, write_plan}
use Rattle.data_cache.specs.Mirror.{Mirrors}

-- the line of an address, and its place in the line, where line 0 begins at base
abbrev pub line_at : ℕ → ℕ → ℕ
line_at base address = (address - base) / 64

abbrev pub place_at : ℕ → ℕ → ℕ
place_at base address = (address - base) % 64

-- What a cache asks of its store for an access: a load is a read of its line, and a store a write. For no byte it asks
-- nothing.
abbrev pub cache_access : ℕ → Contents → Access → Plan LineRequest (List ℕ) Contents (Contents × List ℕ)
cache_access base cache (Load address count) =
    if count == 0 then Done (cache, [])
    else read_plan cache (line_at base address) (place_at base address) count
cache_access base cache (Store address bytes) =
    if length bytes == 0 then Done (cache, [])
    else bind (λ left. left) (write_plan cache (line_at base address) (place_at base address) bytes)
    (λ after. Done (after, []))

-- What lists of kept lines, so many a set, and a list of bytes ask for an access of some bytes.
abbrev pub lists_access : ℕ → ℕ → Lines → Access → Plan LineRequest (List ℕ) Sets (Lines × List ℕ)
lists_access base ways lines (Load address count) =
    read_lines ways lines (line_at base address) (place_at base address) count
lists_access base ways lines (Store address bytes) =
    bind (λ left. left) (write_lines ways lines (line_at base address) (place_at base address) bytes)
    (λ after. Done (after, []))

-- the line of an access, and how it is used
abbrev pub use_at : ℕ → Access → LineUse
use_at base (Load address count) = record { line = line_at base address; kind = Read }
use_at base (Store address bytes) = record { line = line_at base address; kind = Write }

-- An access to a cache over a store: the cache and the store before it, and after it.
abbrev pub CachedStep : {S E : Type 0} → (S → LineRequest → Result (List ℕ) E → S → Type 0)
    → ℕ → Contents → S → Access → Result (List ℕ) E → Contents → S → Type 0
CachedStep step base cache store access (Ok bytes) after now =
    Ends step (cache_access base cache access) store now (after, bytes) × IsAnswer access bytes
CachedStep step base cache store access (Err stop) after now =
    Stops step (cache_access base cache access) store now stop after

-- what each step of the store keeps, an access keeps
pub CachedStep-keeps : {S E Y : Type 0} (step : S → LineRequest → Result (List ℕ) E → S → Type 0) (f : S → Y)
    → ((s t : S) (q : LineRequest) (answer : Result (List ℕ) E) → step s q answer t → f t ≡ f s)
    → (base : ℕ) (cache after : Contents) (s t : S) (access : Access) (answer : Result (List ℕ) E)
    → CachedStep step base cache s access answer after t → f t ≡ f s
CachedStep-keeps step f law base cache after s t access (Ok bytes) h =
    Ends-keeps step f (λ u v q x. law u v q (Ok x)) (cache_access base cache access) s t (after, bytes) h.0
CachedStep-keeps step f law base cache after s t access (Err stop) h =
    Stops-keeps step f stop (λ u v q x. law u v q (Ok x)) (λ u v q. law u v q (Err stop))
    (cache_access base cache access) s t after h

pub CachedStep-size : {S E : Type 0} (step : S → LineRequest → Result (List ℕ) E → S → Type 0) (lines : S → ℕ)
    → ((s t : S) (q : LineRequest) (answer : Result (List ℕ) E) → step s q answer t → lines t ≡ lines s)
    → (base : ℕ) (cache after : Contents) (s t : S) (access : Access) (answer : Result (List ℕ) E)
    → CachedStep step base cache s access answer after t → 64 * lines t ≡ 64 * lines s
CachedStep-size step lines law base cache after s t access answer h =
    ap (λ n. 64 * n) (CachedStep-keeps step lines law base cache after s t access answer h)

-- what each answered step of the store keeps holds after an access that is answered
pub CachedStep-ready : {S E : Type 0} (step : S → LineRequest → Result (List ℕ) E → S → Type 0) (Ready : S → Type 0)
    → ((s t : S) (q : LineRequest) (bytes : List ℕ) → Ready s → step s q (Ok bytes) t → Ready t)
    → (base : ℕ) (cache after : Contents) (s t : S) (access : Access) (bytes : List ℕ) → Ready s
    → CachedStep step base cache s access (Ok bytes) after t → Ready t
CachedStep-ready step Ready law base cache after s t access bytes ready h =
    (Ends-narrows step Ready (λ u v q x one holds. law u v q x holds one) (cache_access base cache access) s t
    (after, bytes) ready h.0).1

-- an access of some bytes
abbrev pub HasBytes : Access → Type 0
HasBytes (Load address count) = 0 < count
HasBytes (Store address bytes) = 0 < length bytes

-- Lists of kept lines, so many a set, and a list of bytes stand for what a cache holds.
abbrev pub StandsAs : ℕ → ℕ → Contents → Lines → Type 0
StandsAs count ways cache lines = Mirrors count cache lines × (cache.ways ≡ ways)

-- and so do these lists beside some list of bytes
abbrev pub StandsLeft : ℕ → Contents → Sets → Type 0
StandsLeft count cache sets = (memory : List ℕ) × Mirrors count cache (record { memory = memory; sets = sets })
