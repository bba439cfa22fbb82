use Rattle.std.proofs.Common.{zero, suc, ◌≡◌, ℕ, ◌+◌, ◌<◌, ◌%◌, List, [], ◌∷◌, ◌++◌, length, take, drop, map, get_or}
use Rattle.std.proofs.Common.{set, refl, sym, ap, subst, ◌∙◌, Result}
use Rattle.std.specs.Prelude.{cond}
use Rattle.std.specs.List.{All}
use Rattle.std.proofs.lemmas.List.Elements.{All-set, All-append, All-take, All-drop}
use Rattle.std.proofs.lemmas.Bool.{eq-eqb}
use Rattle.std.proofs.lemmas.List.{length-map, map-set, get_or-map}
use Rattle.asc_base.specs.declared.block.Line.{Line}
use Rattle.rv32_core.specs.Access.{slice_of}
use Rattle.data_cache.specs.Lines.{LineRequest}
use Rattle.request_plan.specs.Plan.{Plan, Done, bind, Ends, Stops}
use Rattle.request_plan.proofs.Chains.{Ends-bind, Stops-bind}
use Rattle.data_cache.specs.declared.set.Held.{Held}
use Rattle.data_cache.specs.Contents.{moved, obtain, replace, first_bytes, written, Contents, held_in, with_set}
use Rattle.data_cache.specs.Contents.{without}
use Rattle.data_cache.specs.Contents.{read_plan, write_plan, write_line_plan, HoldsBelow}
use Rattle.data_cache.specs.Front.{StandsFirst}

pub held_in_is : {V : Type 0} (f : V → List Held) (ways n : ℕ) (vs : List V) (k : ℕ) (d : V) → k ≡ n % length vs
    → k < length vs → held_in (record { ways = ways; sets = map f vs }) n ≡ f (get_or vs k d)
held_in_is f ways n vs k d e h = rw (length-map vs f, ← e) (get_or-map f vs k d [] h)

pub with_set_is : {V : Type 0} (f : V → List Held) (ways n : ℕ) (vs : List V) (k : ℕ) (v : V) → k ≡ n % length vs
    → record { ways = ways; sets = map f (set vs k v) } ≡ with_set (record { ways = ways; sets = map f vs }) n (f v)
with_set_is f ways n vs k v e = rw (length-map vs f, ← e) (ap (λ (l : List
    (List Held)). record { ways = ways; sets = l }) (map-set f vs k v))

pub below_at : {V : Type 0} (f : V → List Held) (lines : ℕ) (vs : List V) (k : ℕ) (d : V)
    → All (HoldsBelow lines) (map f vs) → k < length vs → HoldsBelow lines (f (get_or vs k d))
below_at f lines vs k d a h = subst (HoldsBelow lines) (get_or-map f vs k d [] h) (a k [] (simp length-map h))

pub below_set : {V : Type 0} (f : V → List Held) (lines : ℕ) (vs : List V) (k : ℕ) (v : V)
    → All (HoldsBelow lines) (map f vs) → HoldsBelow lines (f v) → All (HoldsBelow lines) (map f (set vs k v))
below_set f lines vs k v a h = rw (map-set f vs k v) (All-set (HoldsBelow lines) (map f vs) k (f v) h a)

pub below_written : (lines offset : ℕ) (bytes : List ℕ) (l : List Held) → HoldsBelow lines l
    → HoldsBelow lines (written offset bytes l)
below_written lines offset bytes [] a k d lt = a k d lt
below_written lines offset bytes (h ∷ hs) a zero d lt = a zero d lt
below_written lines offset bytes (h ∷ hs) a (suc k) d lt = a (suc k) d lt

module _ {S E V : Type 0} (step : S → LineRequest → Result (List ℕ) E → S → Type 0) (f : V → List Held)
    (ways n : ℕ) (vs : List V) (k : ℕ) (d v : V) (e : k ≡ n % length vs) (h : k < length vs) where
  -- the cache, and the cache with another set in the place of one
  abbrev cache : Contents
  cache = record { ways = ways; sets = map f vs }

  abbrev after : Contents
  after = record { ways = ways; sets = map f (set vs k v) }

  -- a set's plan ended, and what is made of the set is put in its place
  set_ends : {A : Type 0} (plan : List Held → Plan LineRequest (List ℕ) (List Held) (List Held)) (out : List Held → A)
      (s t : S) (l : List Held) (a : A)
      → Ends step (plan (f (get_or vs k d))) s t l → a ≡ out l
      → Ends step (bind (with_set cache n) (plan (held_in cache n)) (λ z. Done (out z))) s t a
  set_ends {A} plan out s t l a run is =
      Ends-bind step (with_set cache n) (plan (held_in cache n)) (λ z. Done (out z)) s t t l a
      (subst (λ z. Ends step (plan z) s t l) (sym (held_in_is f ways n vs k d e h)) run) (is, refl)

  -- a set's plan was stopped, and what is left of the set is put in its place
  set_stops : {A : Type 0} (plan : List Held → Plan LineRequest (List ℕ) (List Held) (List Held))
      (next : List Held → Plan LineRequest (List ℕ) Contents A) (s t : S) (x : E)
      → Stops step (plan (f (get_or vs k d))) s t x (f v)
      → Stops step (bind (with_set cache n) (plan (held_in cache n)) next) s t x after
  set_stops plan next s t x run =
      subst (λ z. Stops step (bind (with_set cache n) (plan (held_in cache n)) next) s t x z) (sym
      (with_set_is f ways n vs k v e))
      (Stops-bind step (with_set cache n) (plan (held_in cache n)) next s t x (f v)
      (subst (λ z. Stops step (plan z) s t x (f v)) (sym (held_in_is f ways n vs k d e h)) run))

  pub read_ends : (offset count : ℕ) (s t : S) (l : List Held) (bytes : List ℕ)
      → Ends step (obtain ways (f (get_or vs k d)) n) s t l
      → f v ≡ l → bytes ≡ slice_of (first_bytes l) offset count
      → Ends step (read_plan cache n offset count) s t (after, bytes)
  read_ends offset count s t l bytes run same is =
      set_ends (λ z. obtain ways z n) (λ z. (with_set cache n z, slice_of (first_bytes z) offset count)) s t l
      (after, bytes) run
      (ap (λ (c : Contents). (c, bytes)) (with_set_is f ways n vs k v e ∙ ap (with_set cache n) same)
      ∙ ap (λ (b : List ℕ). (with_set cache n l, b)) is)

  pub read_stops : (offset count : ℕ) (s t : S) (x : E) → Stops step (obtain ways (f (get_or vs k d)) n) s t x (f v)
      → Stops step (read_plan cache n offset count) s t x after
  read_stops offset count s t x run =
      set_stops (λ z. obtain ways z n) (λ z. Done (with_set cache n z, slice_of (first_bytes z) offset count)) s t x run

  pub write_ends : (offset : ℕ) (bytes : List ℕ) (s t : S) (l : List Held)
      → Ends step (obtain ways (f (get_or vs k d)) n) s t l
      → f v ≡ written offset bytes l → Ends step (write_plan cache n offset bytes) s t after
  write_ends offset bytes s t l run same =
      set_ends (λ z. obtain ways z n) (λ z. with_set cache n (written offset bytes z)) s t l after run
      (with_set_is f ways n vs k v e ∙ ap (with_set cache n) same)

  pub write_stops : (offset : ℕ) (bytes : List ℕ) (s t : S) (x : E)
      → Stops step (obtain ways (f (get_or vs k d)) n) s t x (f v)
      → Stops step (write_plan cache n offset bytes) s t x after
  write_stops offset bytes s t x run =
      set_stops (λ z. obtain ways z n) (λ z. Done (with_set cache n (written offset bytes z))) s t x run

  pub whole_ends : (value : Line) (s t : S) → Ends step (replace ways (f (get_or vs k d)) n value) s t (f v)
      → Ends step (write_line_plan cache n value) s t after
  whole_ends value s t run =
      set_ends (λ z. replace ways z n value) (λ z. with_set cache n z) s t (f v) after run
      (with_set_is f ways n vs k v e)

  pub whole_stops : (value : Line) (s t : S) (x : E) → Stops step (replace ways (f (get_or vs k d)) n value) s t x (f v)
      → Stops step (write_line_plan cache n value) s t x after
  whole_stops value s t x run = set_stops (λ z. replace ways z n value) (λ z. Done (with_set cache n z)) s t x run

-- a set with one of its lines moved to the front
pub below_moved : (lines i : ℕ) (l : List Held) → HoldsBelow lines l → HoldsBelow lines (moved i l)
below_moved lines i l h =
    All-append (λ (h : Held). h.line < lines) (drop i (take (i + 1) l) ++ take i l) (drop (i + 1) l)
    (All-append (λ (h : Held). h.line < lines) (drop i (take (i + 1) l)) (take i l)
    (All-drop (λ (h : Held). h.line < lines) i (take (i + 1) l) (All-take (λ (h : Held). h.line < lines) (i + 1) l h))
    (All-take (λ (h : Held). h.line < lines) i l h))
    (All-drop (λ (h : Held). h.line < lines) (i + 1) l h)

-- a set whose front was changed
pub below_front : (lines count : ℕ) (front l : List Held) → HoldsBelow lines front → HoldsBelow lines l
    → HoldsBelow lines (take count (front ++ drop (length front) l))
below_front lines count front l f h =
    All-take (λ (h : Held). h.line < lines) count (front ++ drop (length front) l)
    (All-append (λ (h : Held). h.line < lines) front (drop (length front) l) f
    (All-drop (λ (h : Held). h.line < lines) (length front) l h))

-- a set whose first element has this number
pub first_is : (n : ℕ) (l : List Held) (d : Held) → 0 < length l → (get_or l 0 d).line ≡ n → StandsFirst n l
first_is n [] d lt e = elim lt [ ]
first_is n (h ∷ hs) d lt e = (h, hs, refl, e)

-- the line that is first already is found, and its set stays as it is
pub first_obtained : (ways n : ℕ) (l : List Held) → StandsFirst n l → obtain ways l n ≡ Done l
first_obtained ways n l (h, hs, e, is) =
    rw (e) (rw (eq-eqb (h.line) n is) (ap (λ b. Done (h ∷ cond b hs (h ∷ without n hs))) (eq-eqb (h.line) n is)))
