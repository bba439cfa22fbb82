-- The requests that a use makes, an empty cache, and rows in numbers.
use Rattle.std.proofs.Common.{◌≡◌, ℕ, zero, suc, ◌+◌, ◌*◌, ◌<◌, ◌≤◌, List, [], ◌∷◌, ◌++◌, length, map, replicate, refl}
use Rattle.std.proofs.Common.{sym, ap, subst, arith}
use Rattle.std.specs.Prelude.{slice_index_or}
use Rattle.request_plan.specs.Plan.{Plan, Done, Ask, bind}
use Rattle.rv32_core.specs.Access as access
use Rattle.rv32_core.specs.Access.{Access, Load, slice_of, spliced}
use Rattle.rv32_core.specs.LineList.{LineKind, Read, Write, WholeWrite, LineUse}
use Rattle.data_cache.specs.Lines.{LineRequest, Fetch, Store}
use Rattle.data_cache.specs.CacheLists.{Kept, Sets, Lines, no_lines, set_of, with_kept, victim, stored, fetched}
use Rattle.data_cache.specs.CacheLists.{set_settled, set_after, requests_of, requests_along, ask_all, use_set}
use Rattle.data_cache.specs.CacheLists.{after_use, write_lines, Requests}
use Rattle.data_cache.specs.Cached.{place_at, lists_access, use_at}
use Rattle.data_cache.specs.Mirror.{marks, pairs, Fit, Mirrors}
use Rattle.data_cache.specs.declared.set.Held.{Held}

-- one plan after another
Requests-bind : {B C A D : Type 0} (put : B → C) (p : Plan LineRequest (List ℕ) B A)
    (next : A → Plan LineRequest (List ℕ) C D) (first others : List LineRequest) → Requests p first
    → ((a : A) → Requests (next a) others)
    → Requests (bind put p next) (first ++ others)
Requests-bind put (Done a) next first others h g = subst (λ l. Requests (next a) (l ++ others)) (sym h) (g a)
Requests-bind put (Ask q b k) next [] others h g = absurd h
Requests-bind put (Ask q b k) next (f ∷ fs) others h g =
    (h.0, λ bytes. Requests-bind put (k bytes) next fs others (h.1 bytes) g)

-- a plan, and then nothing more
Requests-last : {B C A D : Type 0} (put : B → C) (p : Plan LineRequest (List ℕ) B A) (out : A → D)
    (all : List LineRequest)
    → Requests p all → Requests (bind put p (λ a. Done (out a))) all
Requests-last put (Done a) out all h = h
Requests-last put (Ask q b k) out [] h = absurd h
Requests-last put (Ask q b k) out (f ∷ fs) h = (h.0, λ bytes. Requests-last put (k bytes) out fs (h.1 bytes))

-- requests, one after another
Requests-all : {B : Type 0} (left : B) (memory : List ℕ) (all : List LineRequest)
    → Requests (ask_all left memory all) all
Requests-all left memory [] = refl
Requests-all left memory (Fetch line ∷ rest) = (
  refl,
  λ bytes. Requests-all left (spliced memory
      (64 * line) bytes) rest,
)
Requests-all left memory (Store line value ∷ rest) = (refl, λ bytes. Requests-all left memory rest)

-- A use makes its requests, whatever is answered.
pub use-requests : (ways : ℕ) (memory : List ℕ) (sets : Sets) (use_of : LineUse)
    → Requests (use_set ways (set_of sets use_of.line) memory use_of) (requests_of ways memory sets use_of)
use-requests ways memory sets use_of =
    let set : List Kept = set_of sets use_of.line in
    Requests-bind (λ left. left) (ask_all set memory (stored memory (victim ways set use_of.line)))
    (λ now. bind (λ left. left)
    (ask_all (set_settled ways set (victim ways set use_of.line)) now (fetched set use_of))
    (λ brought. Done (set_after ways set use_of, brought)))
    (stored memory (victim ways set use_of.line)) (fetched set use_of)
    (Requests-all set memory (stored memory (victim ways set use_of.line)))
    (λ now. Requests-last (λ left. left)
    (ask_all (set_settled ways set (victim ways set use_of.line)) now (fetched set use_of))
    (λ brought. (set_after ways set use_of, brought)) (fetched set use_of)
    (Requests-all (set_settled ways set (victim ways set use_of.line)) now (fetched set use_of)))

-- An access of a core makes the requests of the use of its line.
pub access-requests : (base ways : ℕ) (lists : Lines) (access : Access)
    → Requests (lists_access base ways lists access)
    (requests_of ways lists.memory lists.sets (use_at base access))
access-requests base ways lists (Load address count) =
    let use_of : LineUse = use_at base (Load address count) in
    Requests-last (with_kept lists.sets use_of.line)
    (use_set ways (set_of lists.sets use_of.line) lists.memory use_of)
    (λ r. (after_use lists use_of.line (r.0) (r.1), slice_of (r.1) (64 * use_of.line + place_at base address) count))
    (requests_of ways lists.memory lists.sets use_of) (use-requests ways lists.memory lists.sets use_of)
access-requests base ways lists (access.Store address bytes) =
    let use_of : LineUse = use_at base (access.Store address bytes) in
    Requests-last (λ left. left) (write_lines ways lists use_of.line (place_at base address) bytes)
    (λ after. (after, []))
    (requests_of ways lists.memory lists.sets use_of)
    (Requests-last (with_kept lists.sets use_of.line)
    (use_set ways (set_of lists.sets use_of.line) lists.memory use_of)
    (λ r. after_use lists use_of.line (r.0) (spliced (r.1) (64 * use_of.line + place_at base address) bytes))
    (requests_of ways lists.memory lists.sets use_of) (use-requests ways lists.memory lists.sets use_of))

-- a set of an empty cache
empty-set : (n k : ℕ) → (let none : List (List Held) = replicate n [] in slice_index_or none k []) ≡ []
empty-set zero k = refl
empty-set (suc n) zero = refl
empty-set (suc n) (suc k) = empty-set n k

empty-marks : (n : ℕ) → no_lines n ≡ map marks (replicate n [])
empty-marks zero = refl
empty-marks (suc n) = ap (λ (l : Sets). [] ∷ l) (empty-marks n)

empty-length : (n : ℕ) → (let none : List (List Held) = replicate n [] in length none) ≡ n
empty-length zero = refl
empty-length (suc n) = ap suc (empty-length n)

-- An empty cache has empty lists, over any list of bytes.
pub empty-mirrors : (count sets ways : ℕ) (memory : List ℕ) → 0 < sets → 0 < ways → length memory ≡ 64 * count
    → Mirrors count (record { ways = ways; sets = replicate sets [] })
    (record { memory = memory; sets = no_lines sets })
empty-mirrors count sets ways memory some room long =
    let all : (let none : List (List Held) = replicate sets [] in length none) ≡ sets = empty-length sets in
    record {
      is = empty-marks sets;
      some = subst (λ n. 0 < n) (sym all) some;
      ways = room;
      size = long;
      fits = λ k h. subst (λ (l : List Held). length l ≤ ways) (sym (empty-set sets k)) (omega arith);
      each = λ k h. subst (λ (l : List Held). Fit (length (let none : List
          (List Held) = replicate sets [] in none)) k count memory (pairs l)) (sym (empty-set sets k)) tt;
    }

-- ---- rows
abbrev use_as : LineKind → ℕ → LineUse
use_as kind line = record { line = line; kind = kind }

-- One set of one way: an image line, which `lw x5, 64(x0); addi x17, x0, 93; ecall` uses with line 1.
pub row-one : requests_along 1 [] (no_lines 1)
    (use_as WholeWrite 0 ∷ use_as Read 0 ∷ use_as Read 1 ∷ use_as Read 0 ∷ use_as Read 0 ∷ [])
    ≡ Store 0 [] ∷ Fetch 1 ∷ Fetch 0 ∷ []
row-one = refl

-- One set of two ways keeps two lines, and the least recent finds no room.
pub row-two : requests_along 2 [] (no_lines 1)
    (use_as Read 0 ∷ use_as Read 1 ∷ use_as Read 0 ∷ use_as Read 2 ∷ use_as Read 0 ∷ use_as Read 1 ∷ [])
    ≡ Fetch 0 ∷ Fetch 1 ∷ Fetch 2 ∷ Fetch 1 ∷ []
row-two = refl

-- A line that was written is stored once, at its eviction.
pub row-three : requests_along 1 [] (no_lines 1)
    (use_as Write 0 ∷ use_as Write 0 ∷ use_as Read 1 ∷ use_as Read 2 ∷ [])
    ≡ Fetch 0 ∷ Store 0 [] ∷ Fetch 1 ∷ Fetch 2 ∷ []
row-three = refl
