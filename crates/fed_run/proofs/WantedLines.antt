-- Where an instruction over the cache's lists is stopped, a fetch of it was still to come.
use Rattle.std.proofs.Common.{◌≡◌, ◌⊎◌, ℕ, zero, suc, ◌+◌, ◌-◌, ◌*◌, ◌%◌, ◌<◌, ◌≤◌, Bool, true, false, cond, not, ◌==◌}
use Rattle.std.proofs.Common.{◌||◌, ◌&&◌, if◌then◌else◌, List, [], ◌∷◌, Option, Some, None, length, get_or, set, refl}
use Rattle.std.proofs.Common.{sym, ap, subst, ◌∙◌, arith, inl, inr, length-set, length-take, get_or-set_same}
use Rattle.std.proofs.Common.{get_or-set_other}
use Rattle.std.specs.Prelude.{slice_get}
use Rattle.std.proofs.lemmas.Bool.Decides.{eqb_tells}
use Rattle.request_plan.specs.Plan.{Plan, Done, Ask, bind, through, Outcomes}
use Rattle.request_plan.specs.Course.{course}
use Rattle.request_plan.proofs.Courses.{course-bind}
use Rattle.request_plan.proofs.Keeps.{Outcomes-bind}
use Rattle.rv32_core.specs.Access.{Access, Load, Store, slice_of, spliced}
use Rattle.rv32_core.specs.LineList.{LineUse, Read, Write}
use Rattle.data_cache.specs.Lines.{LineRequest, Fetch}
use Rattle.data_cache.specs.Lines as lines
use Rattle.data_cache.specs.CacheLists.{Kept, Sets, Lines, needs, keeps, others, set_of, with_kept, set_after, victim}
use Rattle.data_cache.specs.CacheLists.{line_in, stored, fetched, set_settled, ask_all, use_set, after_use, write_lines}
use Rattle.data_cache.specs.Cached.{line_at, place_at, lists_access}
use Rattle.fed_run.specs.Answered.{line_source}
use Rattle.fed_run.proofs.NotedLines.{Wants, IsStarved, starved-after}

-- ---- plans that want a line wherever they are stopped
-- one after another
Wants-bind : {B C A D : Type 0} (Out : A → Type 0) (put : B → C) (p : Plan LineRequest (List ℕ) B A)
    (next : A → Plan LineRequest (List ℕ) C D)
    → Wants p → Outcomes Out p → ((a : A) → Out a → Wants (next a)) → Wants (bind put p next)
Wants-bind Out put (Done a) next wants out each = each a out
Wants-bind Out put (Ask q b k) next wants out each = (
  subst IsStarved (sym (course-bind line_source put (Ask q b k) next []))
      (starved-after put (λ a rest. course line_source (next a) rest) (course line_source (Ask q b k) []) (wants.0)),
  λ x. Wants-bind Out put (k x) next (wants.1 x) (out x) each,
)

-- and then nothing more
Wants-last : {B C A D : Type 0} (put : B → C) (p : Plan LineRequest (List ℕ) B A) (f : A → D)
    → Wants p → Wants (bind put p (λ a. Done (f a)))
Wants-last put (Done a) f wants = tt
Wants-last put (Ask q b k) f wants = (
  subst IsStarved (sym (course-bind line_source put (Ask q b k) (λ a. Done (f a)) []))
      (starved-after put (λ a rest. course line_source (Done (f a)) rest) (course line_source (Ask q b k) [])
      (wants.0)),
  λ x. Wants-last put (k x) f (wants.1 x),
)

-- what every outcome of the second plan has
Outcomes-second : {B C A D : Type 0} (P : D → Type 0) (put : B → C) (p : Plan LineRequest (List ℕ) B A)
    (next : A → Plan LineRequest (List ℕ) C D) → ((a : A) → Outcomes P (next a)) → Outcomes P (bind put p next)
Outcomes-second P put (Done a) next each = each a
Outcomes-second P put (Ask q b k) next each = λ x. Outcomes-second P put (k x) next each

-- ---- a use
-- the requests of a use, with what is done after them
abbrev asks_of : List Kept → List Kept → List ℕ → ℕ → List LineRequest → Bool → List Kept
    → Plan LineRequest (List ℕ) (List Kept) (List Kept × List ℕ)
asks_of set left memory line first b after =
    bind (λ l. l) (ask_all set memory first)
    (λ now. bind (λ l. l) (ask_all left now (if b then Fetch line ∷ [] else [])) (λ brought. Done (after, brought)))

fetch-wants : (left : List Kept) (memory : List ℕ) (line : ℕ) (b : Bool) (after : List Kept)
    → Wants {B = List Kept} {A = List Kept × List ℕ}
    (bind (λ l. l) (ask_all left memory (if b then Fetch line ∷ [] else [])) (λ brought. Done (after, brought)))
fetch-wants left memory line true after = (tt, λ x. tt)
fetch-wants left memory line false after = tt

store-wants : (set left : List Kept) (memory : List ℕ) (line n : ℕ) (value : List ℕ) (b dirty : Bool)
    (after : List Kept) → b ≡ true
    → Wants (asks_of set left memory line (if dirty then lines.Store n value ∷ [] else []) b after)
store-wants set left memory line n value true true after h = (tt, λ x. (tt, λ y. tt))
store-wants set left memory line n value true false after h = (tt, λ x. tt)
store-wants set left memory line n value false dirty after h = Prim.cc

victim-wants : (set left : List Kept) (memory : List ℕ) (line : ℕ) (b : Bool) (v : Option Kept) (after : List Kept)
    → ((k : Kept) → v ≡ Some k → b ≡ true) → Wants (asks_of set left memory line (stored memory v) b after)
victim-wants set left memory line b None after h = fetch-wants left memory line b after
victim-wants set left memory line b (Some k) after h =
    store-wants set left memory line k.line (line_in memory k.line) b k.dirty after (h k refl)

get-past : {X : Type 0} (xs : List X) (i : ℕ) → length xs ≤ i → slice_get xs i ≡ None
get-past [] i h = refl
get-past (x ∷ xs) zero h = absurd (omega arith)
get-past (x ∷ xs) (suc i) h = get-past xs i (omega arith)

-- the others are fewer, where the line is kept
few-at : (n : ℕ) (x : Kept) (xs : List Kept) (b : Bool) → length (others xs n) ≤ length xs
    → length (cond (not b) (x ∷ others xs n) (others xs n)) ≤ suc (length xs)
few-at n x xs true h = omega arith
few-at n x xs false h = let e : suc (length (others xs n)) ≤ suc (length xs) = omega arith in e

few-others : (n : ℕ) (ms : List Kept) → length (others ms n) ≤ length ms
few-others n [] = omega arith
few-others n (x ∷ xs) = few-at n x xs (x.line == n) (few-others n xs)

fewer-at : (n : ℕ) (x : Kept) (xs : List Kept) (b : Bool) → length (others xs n) ≤ length xs
    → (keeps xs n ≡ true → length (others xs n) < length xs) → (b || keeps xs n) ≡ true
    → length (cond (not b) (x ∷ others xs n) (others xs n)) < suc (length xs)
fewer-at n x xs true few fewer h = omega arith
fewer-at n x xs false few fewer h =
    let less : length (others xs n) < length xs = fewer h in
    let e : suc (length (others xs n)) < suc (length xs) = omega arith in e

fewer-others : (n : ℕ) (ms : List Kept) → keeps ms n ≡ true → length (others ms n) < length ms
fewer-others n [] h = Prim.cc
fewer-others n (x ∷ xs) h = fewer-at n x xs (x.line == n) (few-others n xs) (fewer-others n xs) h

-- where a line finds no room, the used one isn't kept
unkept-victim : (ways : ℕ) (ms : List Kept) (n : ℕ) (k : Kept) (b : Bool) → keeps ms n ≡ b → length ms ≤ ways
    → victim ways ms n ≡ Some k → not b ≡ true
unkept-victim ways ms n k false is fits found = refl
unkept-victim ways ms n k true is fits found =
    let less : length (others ms n) < length ms = fewer-others n ms is in
    let none : victim ways ms n ≡ None = get-past (others ms n) (ways - 1) (omega arith) in
    Prim.cc

use-wants : (ways : ℕ) (ms : List Kept) (memory : List ℕ) (use_of : LineUse) → length ms ≤ ways
    → needs use_of.kind ≡ true → Wants (use_set ways ms memory use_of)
use-wants ways ms memory use_of fits need =
    let v : Option Kept = victim ways ms use_of.line in
    victim-wants ms (set_settled ways ms v) memory use_of.line (needs use_of.kind && not (keeps ms use_of.line)) v
    (set_after ways ms use_of)
    (λ k found. ap (λ b. b && not (keeps ms use_of.line)) need
    ∙ unkept-victim ways ms use_of.line k (keeps ms use_of.line) refl fits found)

-- ---- sets that have room
-- each set is at most so long
pub record HasRoom (ways : ℕ) (sets : Sets) : Type 0 where
  pub some : 0 < length sets
  pub fits : (n : ℕ) → length (set_of sets n) ≤ ways

is-or : (a b : ℕ) → (a ≡ b) ⊎ (a ≡ b → ⊥)
is-or a b = elim (eqb_tells a b) [ inl h ↦ inl h.1 | inr h ↦ inr h.1 ]

room-put : (ways : ℕ) (sets : Sets) (n : ℕ) (ms : List Kept) → HasRoom ways sets → length ms ≤ ways
    → HasRoom ways (with_kept sets n ms)
room-put ways sets n ms room short =
    let some : 0 < length sets = room.some in
    let inside : n % length sets < length sets = omega arith in
    record {
      some = subst (λ k. 0 < k) (sym (length-set sets (n % length sets) ms)) some;
      fits = λ m. subst (λ k. length (get_or (set sets (n % length sets) ms) (m % k) []) ≤ ways)
          (sym (length-set sets (n % length sets) ms)) (at m inside (is-or (m % length sets) (n % length sets)));
    }
  where
    at : (m : ℕ) → n % length sets < length sets
        → (m % length sets ≡ n % length sets) ⊎ (m % length sets ≡ n % length sets → ⊥)
        → length (get_or (set sets (n % length sets) ms) (m % length sets) []) ≤ ways
    at m inside (inl same) =
        subst (λ k. length (get_or (set sets (n % length sets) ms) k []) ≤ ways) (sym same)
        (subst (λ l. length l ≤ ways) (sym (get_or-set_same sets (n % length sets) ms [] inside)) short)
    at m inside (inr ne) =
        subst (λ l. length l ≤ ways) (sym (get_or-set_other sets (n % length sets) (m % length sets) ms [] ne))
        (room.fits m)

-- a set after a use
short-after : (ways : ℕ) (ms : List Kept) (use_of : LineUse) → length (set_after ways ms use_of) ≤ ways
short-after ways ms use_of =
    simp length-take (omega arith)

use-short : (ways : ℕ) (ms : List Kept) (memory : List ℕ) (use_of : LineUse)
    → Outcomes (λ (r : List Kept × List ℕ). length (r.0) ≤ ways) (use_set ways ms memory use_of)
use-short ways ms memory use_of =
    let P : List Kept × List ℕ → Type 0 = λ r. length (r.0) ≤ ways in
    let v : Option Kept = victim ways ms use_of.line in
    Outcomes-second P (λ l. l) (ask_all ms memory (stored memory v))
    (λ now. bind (λ l. l) (ask_all (set_settled ways ms v) now (fetched ms use_of))
    (λ brought. Done (set_after ways ms use_of, brought)))
    (λ now. Outcomes-second P (λ l. l) (ask_all (set_settled ways ms v) now (fetched ms use_of))
    (λ brought. Done (set_after ways ms use_of, brought)) (λ brought. short-after ways ms use_of))

-- ---- an access, and a plan of accesses
module _ (base ways : ℕ) where
  access-wants : (held : Lines) (access : Access) → HasRoom ways held.sets
      → Wants (lists_access base ways held access)
  access-wants held (Load address count) room =
      let line : ℕ = line_at base address in
      Wants-last (with_kept held.sets line)
      (use_set ways (set_of held.sets line) held.memory (record { line = line; kind = Read }))
      (λ r. (after_use held line (r.0) (r.1), slice_of (r.1) (64 * line + place_at base address) count))
      (use-wants ways (set_of held.sets line) held.memory (record { line = line; kind = Read }) (room.fits line) refl)
  access-wants held (Store address bytes) room =
      let line : ℕ = line_at base address in
      Wants-last (λ l. l) (write_lines ways held line (place_at base address) bytes) (λ after. (after, []))
      (Wants-last (with_kept held.sets line)
      (use_set ways (set_of held.sets line) held.memory (record { line = line; kind = Write }))
      (λ r. after_use held line (r.0) (spliced (r.1) (64 * line + place_at base address) bytes))
      (use-wants ways (set_of held.sets line) held.memory (record { line = line; kind = Write }) (room.fits line) refl))

  access-room : (held : Lines) (access : Access) → HasRoom ways held.sets
      → Outcomes (λ (r : Lines × List ℕ). HasRoom ways (r.0).sets) (lists_access base ways held access)
  access-room held (Load address count) room =
      let line : ℕ = line_at base address in
      Outcomes-bind (λ (r : List Kept × List ℕ). length (r.0) ≤ ways)
      (λ (r : Lines × List ℕ). HasRoom ways (r.0).sets) (with_kept held.sets line)
      (use_set ways (set_of held.sets line) held.memory (record { line = line; kind = Read }))
      (λ r. Done (after_use held line (r.0) (r.1), slice_of (r.1) (64 * line + place_at base address) count))
      (use-short ways (set_of held.sets line) held.memory (record { line = line; kind = Read }))
      (λ r short. room-put ways held.sets line (r.0) room short)
  access-room held (Store address bytes) room =
      let line : ℕ = line_at base address in
      Outcomes-bind (λ (r : Lines). HasRoom ways r.sets)
      (λ (r : Lines × List ℕ). HasRoom ways (r.0).sets) (λ l. l)
      (write_lines ways held line (place_at base address) bytes) (λ after. Done (after, []))
      (Outcomes-bind (λ (r : List Kept × List ℕ). length (r.0) ≤ ways)
      (λ (r : Lines). HasRoom ways r.sets) (with_kept held.sets line)
      (use_set ways (set_of held.sets line) held.memory (record { line = line; kind = Write }))
      (λ r. Done (after_use held line (r.0) (spliced (r.1) (64 * line + place_at base address) bytes)))
      (use-short ways (set_of held.sets line) held.memory (record { line = line; kind = Write }))
      (λ r short. room-put ways held.sets line (r.0) room short))
      (λ after fits. fits)

  pub plan-wants : {B A : Type 0} (plan : Plan Access (List ℕ) B A) (held : Lines) → HasRoom ways held.sets
      → Wants (through (lists_access base ways) plan held)
  plan-wants (Done a) held room = tt
  plan-wants (Ask access left next) held room =
      Wants-bind (λ (r : Lines × List ℕ). HasRoom ways (r.0).sets) (λ c. (c, left)) (lists_access base ways held access)
      (λ r. through (lists_access base ways) (next (r.1)) (r.0))
      (access-wants held access room) (access-room held access room)
      (λ r fits. plan-wants (next (r.1)) (r.0) fits)
