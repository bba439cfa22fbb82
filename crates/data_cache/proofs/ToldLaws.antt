-- Over a store whose lines are told, a cache and its store stand for one list of bytes.
use Rattle.std.proofs.Common.{◌≡◌, ◌⊎◌, ℕ, zero, suc, ◌+◌, ◌-◌, ◌*◌, ◌%◌, ◌<◌, ◌≤◌, Bool, true, false, cond, not, ◌==◌}
use Rattle.std.proofs.Common.{◌||◌, ◌&&◌, if◌then◌else◌, List, [], ◌∷◌, Option, Some, None, Result, Ok, length, take}
use Rattle.std.proofs.Common.{map, replicate, get_or, set, slice_get, refl, sym, ap, subst, ◌∙◌, arith, inl, inr}
use Rattle.std.proofs.Common.{eqb-true, eq-eqb, length-set, get_or-set_same, get_or-set_other}
use Rattle.std.proofs.lemmas.List.{length-map}
use Rattle.std.proofs.lemmas.Bool.Decides.{eqb_tells}
use Rattle.std.proofs.lemmas.Option.{get_or_from_slice_get}
use Rattle.std.specs.Option.{option_map, option_map_or}
use Rattle.asc_base.specs.declared.block.Line.{Line}
use Rattle.request_plan.specs.Plan.{Plan, Done, bind, Ends, Alike}
use Rattle.request_plan.specs.Play.{served}
use Rattle.request_plan.specs.Laws.{Tells}
use Rattle.request_plan.proofs.Told.{Ends-told}
use Rattle.request_plan.proofs.Served.{served-bind}
use Rattle.request_plan.proofs.Alike.{Alike-ends}
use Rattle.rv32_core.specs.Access.{slice_of, spliced}
use Rattle.rv32_core.specs.LineList.{LineKind, Read, Write, WholeWrite, LineUse}
use Rattle.data_cache.specs.Lines.{LineRequest, Fetch, Store, IsLineAnswer, TellsFetch, TellsStore, serve_lines}
use Rattle.data_cache.specs.CacheLists.{Kept, Sets, Lines, changes, needs, keeps, keeps_dirty, others, set_of}
use Rattle.data_cache.specs.CacheLists.{with_kept, set_after, victim, line_in, stored, fetched, set_settled, ask_all}
use Rattle.data_cache.specs.CacheLists.{use_set, after_use, read_lines, write_lines, write_whole_line}
use Rattle.data_cache.specs.Contents.{Contents, find_line, held_in, read_plan, write_plan, write_line_plan}
use Rattle.data_cache.specs.Mirror.{marks, Mirrors}
use Rattle.data_cache.specs.Standing.{lists_of, StandFor}
use Rattle.data_cache.specs.declared.set.Held.{Held}
use Rattle.data_cache.proofs.Parts.{patched_own, other_line, other-patched}
use Rattle.data_cache.proofs.KeptLaws.{hit, miss, unkept}
use Rattle.data_cache.proofs.MirrorLaws.{set_of_is, read_alike, write_alike, whole_alike}
use Rattle.data_cache.proofs.UseLaws.{empty-mirrors}

is-or : (a b : ℕ) → (a ≡ b) ⊎ (a ≡ b → ⊥)
is-or a b = elim (eqb_tells a b) [ inl h ↦ inl h.1 | inr h ↦ inr h.1 ]

-- a line of the store is as the list of bytes has it
abbrev pub Right : List ℕ → List (List ℕ) → ℕ → Type 0
Right mem l m = get_or l m [] ≡ line_in mem m

-- or it is dirty in its set
abbrev pub Holds : List Kept → List ℕ → List (List ℕ) → ℕ → Type 0
Holds ms mem l m = (keeps_dirty ms m ≡ true) ⊎ Right mem l m

-- ---- marks of a set
or_first : (a d c : Bool) → a ≡ true → d ≡ true → ((a && d) || c) ≡ true
or_first true true c h g = refl
or_first true false c h g = cc
or_first false d c h g = cc

or_second : (a c : Bool) → c ≡ true → (a || c) ≡ true
or_second true c h = refl
or_second false c h = h

or_past : (a d c : Bool) → a ≡ false → ((a && d) || c) ≡ true → c ≡ true
or_past true d c h g = cc
or_past false d c h g = g

or_on : (a c e : Bool) → (a || c) ≡ true → (c ≡ true → e ≡ true) → (a || e) ≡ true
or_on true c e h g = refl
or_on false c e h g = g h

eqb-false : (a b : ℕ) → (a ≡ b → ⊥) → (a == b) ≡ false
eqb-false a b ne = elim (eqb_tells a b) [ inl h ↦ absurd (ne h.1) | inr h ↦ h.0 ]

dirty_first : (n : ℕ) (d : Bool) (ms : List Kept) → d ≡ true
    → keeps_dirty (record { line = n; dirty = d } ∷ ms) n ≡ true
dirty_first n d ms h = or_first (n == n) d (keeps_dirty ms n) (eq-eqb n n refl) h

others-at : (n m : ℕ) (x : Kept) (xs : List Kept) (b : Bool) → (x.line == n) ≡ b → (m ≡ n → ⊥)
    → (((x.line == m) && x.dirty) || keeps_dirty xs m) ≡ true
    → (keeps_dirty xs m ≡ true → keeps_dirty (others xs n) m ≡ true)
    → keeps_dirty (cond (not b) (x ∷ others xs n) (others xs n)) m ≡ true
others-at n m x xs false t ne h ih =
    or_on ((x.line == m) && x.dirty) (keeps_dirty xs m) (keeps_dirty (others xs n) m) h ih
others-at n m x xs true t ne h ih =
    let is : x.line ≡ n = eqb-true (x.line) n t in
    ih (or_past (x.line == m) (x.dirty) (keeps_dirty xs m) (eqb-false (x.line) m (λ q. ne (sym q ∙ is))) h)

others-keep : (n m : ℕ) (ms : List Kept) → (m ≡ n → ⊥) → keeps_dirty ms m ≡ true → keeps_dirty (others ms n) m ≡ true
others-keep n m [] ne h = cc
others-keep n m (x ∷ xs) ne h = others-at n m x xs (x.line == n) refl ne h (others-keep n m xs ne)

few-at : (n : ℕ) (x : Kept) (xs : List Kept) (b : Bool) → length (others xs n) ≤ length xs
    → length (cond (not b) (x ∷ others xs n) (others xs n)) ≤ suc (length xs)
few-at n x xs true h = omega arith
few-at n x xs false h = let e : suc (length (others xs n)) ≤ suc (length xs) = omega arith in e

few-others : (n : ℕ) (ms : List Kept) → length (others ms n) ≤ length ms
few-others n [] = omega arith
few-others n (x ∷ xs) = few-at n x xs (x.line == n) (few-others n xs)

kept-at : (a d c e : Bool) → ((a && d) || c) ≡ true → (c ≡ true → e ≡ true) → (a || e) ≡ true
kept-at true d c e h ih = refl
kept-at false d c e h ih = ih h

dirty-kept : (n : ℕ) (ms : List Kept) → keeps_dirty ms n ≡ true → keeps ms n ≡ true
dirty-kept n [] h = cc
dirty-kept n (x ∷ xs) h =
    kept-at (x.line == n) (x.dirty) (keeps_dirty xs n) (keeps xs n) h (dirty-kept n xs)

and-not : (a b : Bool) → (a && not b) ≡ true → b ≡ true → ⊥
and-not true true h g = cc
and-not true false h g = cc
and-not false b h g = cc

-- what is left where the last place is dropped
last-at : (m : ℕ) (x : Kept) (a d : Bool) → (x.line == m) ≡ a → x.dirty ≡ d → ((a && d) || false) ≡ true
    → Some x ≡ Some (record { line = m; dirty = true })
last-at m x true true t u h =
    ap (λ z. Some (record { line = z; dirty = x.dirty })) (eqb-true (x.line) m t)
    ∙ ap (λ b. Some (record { line = m; dirty = b })) u
last-at m x true false t u h = cc
last-at m x false d t u h = cc

dropped-at : (m i : ℕ) (a : Bool) (xs : List Kept) → (a || keeps_dirty xs m) ≡ true
    → (keeps_dirty xs m ≡ true
    → (keeps_dirty (take i xs) m ≡ true) ⊎ (slice_get xs i ≡ Some (record { line = m; dirty = true })))
    → ((a || keeps_dirty (take i xs) m) ≡ true) ⊎ (slice_get xs i ≡ Some (record { line = m; dirty = true }))
dropped-at m i true xs h ih = inl refl
dropped-at m i false xs h ih = ih h

dropped : (m i : ℕ) (ms : List Kept) → length ms ≤ i + 1 → keeps_dirty ms m ≡ true
    → (keeps_dirty (take i ms) m ≡ true) ⊎ (slice_get ms i ≡ Some (record { line = m; dirty = true }))
dropped m i [] h e = cc
dropped m zero (x ∷ []) h e = inr (last-at m x (x.line == m) (x.dirty) refl refl e)
dropped m zero (x ∷ (y ∷ ms)) h e = absurd (omega arith)
dropped m (suc i) (x ∷ ms) h e =
    dropped-at m i ((x.line == m) && x.dirty) ms e (dropped m i ms (omega arith))

take-first : (i : ℕ) (x : Kept) (xs : List Kept) → 0 < i → take i (x ∷ xs) ≡ x ∷ take (i - 1) xs
take-first zero x xs h = absurd (omega arith)
take-first (suc i) x xs h = ap (λ k. x ∷ take k xs) (let e : i ≡ suc i - 1 = omega arith in e)

-- ---- a use, served by the list that is told
module _ (mem : List ℕ) (list : List (List ℕ)) where
  -- A victim is stored as the list of bytes has it.
  abbrev Settled : Option Kept → List ℕ × List (List ℕ) → Type 0
  Settled v r =
      (r.0 ≡ mem) × (length (r.1) ≡ length list) × ((m : ℕ) → m < length list → Right mem list m → Right mem (r.1) m)
      × ((m : ℕ) → m < length list → v ≡ Some (record { line = m; dirty = true }) → Right mem (r.1) m)

  settled-by : {B : Type 0} (left : B) (v : ℕ) (b : Bool) → Settled (Some (record { line = v; dirty = b }))
      (served serve_lines (ask_all left mem (if b then Store v (line_in mem v) ∷ [] else [])) list)
  settled-by left v false = (
    refl,
    refl,
    λ m lt h. h,
    λ m lt q. (let e : Some false ≡ Some true = ap (option_map (λ (k : Kept). k.dirty)) q
        in cc),
  )
  settled-by left v true = (
    refl,
    length-set list v (line_in mem v),
    λ m lt h. elim (is-or m v) [
      | inl q ↦ new m (sym q) lt
      | inr ne ↦ get_or-set_other list v m (line_in mem v) [] ne ∙ h
    ],
    λ m lt q. (let e : Some v ≡ Some m = ap (option_map (λ (k : Kept). k.line)) q in
        let is : v ≡ m = cc in new m is lt),
  )
    where
      new : (m : ℕ) → v ≡ m → m < length list → Right mem (set list v (line_in mem v)) m
      new m p lt =
          ap (λ z. get_or (set list z (line_in mem z)) m []) p ∙ get_or-set_same list m (line_in mem m) [] lt

  settled-of : {B : Type 0} (left : B) (v : Option Kept)
      → Settled v (served serve_lines (ask_all left mem (stored mem v)) list)
  settled-of left None = (refl, refl, λ m lt h. h, λ m lt q. cc)
  settled-of left (Some k) = settled-by left (k.line) (k.dirty)

  -- A line that is fetched is already as it comes.
  fetched-of : {B : Type 0} (left : B) (n : ℕ) (now : List ℕ) (l : List (List ℕ)) (b : Bool) → now ≡ mem
      → 64 * n + 64 ≤ length mem → (b ≡ true → Right mem l n)
      → let r = served serve_lines (ask_all left now (if b then Fetch n ∷ [] else [])) l in (r.0 ≡ mem) × (r.1 ≡ l)
  fetched-of left n now l false e room right = (e, refl)
  fetched-of left n now l true e room right = (
    ap (λ z. spliced z (64 * n) (get_or l n [])) e ∙ ap (spliced mem (64 * n)) (right refl) ∙ patched_own mem n room,
    refl,
  )

  -- what a use leaves
  abbrev Used : ℕ → List Kept → LineUse → (List Kept × List ℕ) × List (List ℕ) → Type 0
  Used ways ms use_of r =
      (r.0.0 ≡ set_after ways ms use_of) × (r.0.1 ≡ mem) × (length (r.1) ≡ length list)
      × ((m : ℕ) → m < length list → Right mem list m → Right mem (r.1) m)
      × ((m : ℕ) → m < length list → victim ways ms use_of.line ≡ Some (record { line = m; dirty = true })
      → Right mem (r.1) m)

  use-served : (ways : ℕ) (ms : List Kept) (n : ℕ) (kind : LineKind) → 64 * n + 64 ≤ length mem → n < length list
      → Holds ms mem list n
      → Used ways ms (record { line = n; kind = kind })
      (served serve_lines (use_set ways ms mem (record { line = n; kind = kind })) list)
  use-served ways ms n kind room lt holds =
      let use_of : LineUse = record { line = n; kind = kind } in
      let v : Option Kept = victim ways ms n in
      let one : List ℕ × List (List ℕ) = served serve_lines (ask_all ms mem (stored mem v)) list in
      let s : Settled v one = settled-of ms v in
      let two : List ℕ × List (List ℕ) = served serve_lines
      (ask_all (set_settled ways ms v) (one.0) (fetched ms use_of)) (one.1) in
      let f : (two.0 ≡ mem) × (two.1 ≡ one.1) = fetched-of (set_settled ways ms v) n (one.0) (one.1)
      (needs kind && not (keeps ms n)) (s.0) room
      (λ b. elim holds [
        | inl d ↦ absurd (and-not (needs kind) (keeps ms n) b (dirty-kept n ms d))
        | inr h ↦
            s.2 n lt h
      ]) in
      subst (Used ways ms use_of)
      (sym (served-bind serve_lines (λ left. left) (ask_all ms mem (stored mem v)) (λ now. bind (λ left. left)
      (ask_all (set_settled ways ms v) now (fetched ms use_of)) (λ brought. Done (set_after ways ms use_of, brought)))
      list
      ∙ served-bind serve_lines (λ left. left) (ask_all (set_settled ways ms v) (one.0) (fetched ms use_of))
      (λ brought. Done (set_after ways ms use_of, brought)) (one.1))) (
        refl,
        f.0,
        ap length (f.1) ∙ s.1,
        λ m mlt h. ap (λ l. get_or l m []) (f.1) ∙ s.2 m mlt h,
        λ m mlt q. ap (λ l. get_or l m []) (f.1) ∙ s.3 m mlt q,
      )

  -- what holds of a set holds of it after the use
  own-after : (ways : ℕ) (ms : List Kept) (n : ℕ) (kind : LineKind) → 0 < ways → length ms ≤ ways
      → (r : (List Kept × List ℕ) × List (List ℕ)) → Used ways ms (record { line = n; kind = kind }) r
      → (m : ℕ) → m < length list → Holds ms mem list m
      → Holds (set_after ways ms (record { line = n; kind = kind })) mem (r.1) m
  own-after ways ms n kind some fits r u m lt (inr h) = inr (u.3 m lt h)
  own-after ways ms n kind some fits r u m lt (inl d) =
      subst (λ z. Holds z mem (r.1) m)
      (sym (take-first ways (record { line = n; dirty = keeps_dirty ms n || changes kind }) (others ms n) some))
      (at (is-or m n))
    where
      at : (m ≡ n) ⊎ (m ≡ n → ⊥)
          → Holds (record { line = n; dirty = keeps_dirty ms n || changes kind } ∷ take (ways - 1) (others ms n)) mem
          (r.1) m
      at (inl q) =
          inl (subst (λ z. keeps_dirty (record { line = n; dirty = keeps_dirty ms n || changes kind } ∷ take (ways - 1)
          (others ms n)) z ≡ true) (sym q)
          (dirty_first n (keeps_dirty ms n || changes kind) (take (ways - 1) (others ms n))
          (ap (λ b. b || changes kind) (subst (λ z. keeps_dirty ms z ≡ true) q d))))
      at (inr ne) =
          let few : length (others ms n) ≤ length ms = few-others n ms in
          elim (dropped m (ways - 1) (others ms n) (omega arith) (others-keep n m ms ne d)) [
            | inl k ↦ inl (or_second ((n == m) && (keeps_dirty ms n || changes kind))
                (keeps_dirty (take (ways - 1) (others ms n)) m) k)
            | inr k ↦ inr (u.4 m lt k)
          ]

  -- the used line is dirty where the use changes it
  changed-dirty : (ways : ℕ) (ms : List Kept) (n : ℕ) (kind : LineKind) → 0 < ways → changes kind ≡ true
      → keeps_dirty (set_after ways ms (record { line = n; kind = kind })) n ≡ true
  changed-dirty ways ms n kind some turned =
      subst (λ z. keeps_dirty z n ≡ true)
      (sym (take-first ways (record { line = n; dirty = keeps_dirty ms n || changes kind }) (others ms n) some))
      (dirty_first n (keeps_dirty ms n || changes kind) (take (ways - 1) (others ms n))
      (or_second (keeps_dirty ms n) (changes kind) turned))

  -- Each line holds after the use, where the use alone may have changed its line.
  each-after : (sets : Sets) (ways n : ℕ) (kind : LineKind) (now : List ℕ) → 0 < length sets → 0 < ways
      → length (set_of sets n) ≤ ways → (now ≡ mem) ⊎ (changes kind ≡ true)
      → ((m : ℕ) → (m ≡ n → ⊥) → line_in now m ≡ line_in mem m)
      → (r : (List Kept × List ℕ) × List (List ℕ)) → Used ways (set_of sets n) (record { line = n; kind = kind }) r
      → ((m : ℕ) → m < length list → Holds (set_of sets m) mem list m)
      → (m : ℕ) → m < length list → Holds (set_of (with_kept sets n (r.0.0)) m) now (r.1) m
  each-after sets ways n kind now some room fits changed other r u each m lt =
      let inside : n % length sets < length sets = omega arith in
      subst (λ z. Holds (get_or (set sets (n % length sets) (r.0.0)) (m % z) []) now (r.1) m)
      (sym (length-set sets (n % length sets) (r.0.0))) (at (is-or (m % length sets) (n % length sets)) inside)
    where
      after : Holds (set_of sets n) mem list m → (m ≡ n) ⊎ (m ≡ n → ⊥) → Holds (r.0.0) now (r.1) m
      after h (inr ne) =
          subst (λ z. Holds z now (r.1) m) (sym (u.0))
          (elim (own-after ways (set_of sets n) n kind room fits r u m lt h) [
            | inl d ↦ inl d
            | inr e ↦ inr (e ∙ sym (other m ne))
          ])
      after h (inl q) =
          subst (λ z. Holds z now (r.1) m) (sym (u.0)) (elim changed [
            | inl e ↦ subst (λ z. Holds (set_after ways (set_of sets n) (record { line = n; kind = kind })) z (r.1) m)
                (sym e) (own-after ways (set_of sets n) n kind room fits r u m lt h)
            | inr turned ↦ inl (subst (λ z. keeps_dirty (set_after ways (set_of sets n)
                (record { line = n; kind = kind })) z ≡ true) (sym q)
                (changed-dirty ways (set_of sets n) n kind room turned))
          ])

      at : (m % length sets ≡ n % length sets) ⊎ (m % length sets ≡ n % length sets → ⊥)
          → n % length sets < length sets
          → Holds (get_or (set sets (n % length sets) (r.0.0)) (m % length sets) []) now (r.1) m
      at (inl q) inside =
          subst (λ z. Holds (get_or (set sets (n % length sets) (r.0.0)) z []) now (r.1) m) (sym q)
          (subst (λ z. Holds z now (r.1) m) (sym (get_or-set_same sets (n % length sets) (r.0.0) [] inside))
          (after (subst (λ z. Holds (get_or sets z []) mem list m) q (each m lt)) (is-or m n)))
      at (inr ne) inside =
          subst (λ z. Holds z now (r.1) m)
          (sym (get_or-set_other sets (n % length sets) (m % length sets) (r.0.0) [] ne))
          (elim (each m lt) [
            | inl d ↦ inl d
            | inr e ↦ inr (u.3 m lt e ∙ sym (other m (λ q. ne (ap (λ z. z % length sets) q))))
          ])

-- ---- a call, over a store whose lines are told
-- a use from where the cache and the store stand for a list of bytes
abbrev used_of : Contents → List ℕ → List (List ℕ) → ℕ → LineKind → (List Kept × List ℕ) × List (List ℕ)
used_of cache mem list n kind =
    served serve_lines (use_set (cache.ways) (set_of (map marks (cache.sets)) n) mem
    (record { line = n; kind = kind })) list

-- what it leaves
used-is : (cache : Contents) (list : List (List ℕ)) (mem : List ℕ) (n : ℕ) (kind : LineKind) → StandFor cache list mem
    → n < length list
    → Used mem list (cache.ways) (set_of (map marks (cache.sets)) n) (record { line = n; kind = kind })
    (used_of cache mem list n kind)
used-is cache list mem n kind st lt =
    let size : length mem ≡ 64 * length list = st.mirrors.size in
    use-served mem list (cache.ways) (set_of (map marks (cache.sets)) n) n kind (omega arith) lt (st.each n lt)

-- where the cache after it stands for this list of bytes by its marks
stand-after : (cache after : Contents) (list : List (List ℕ)) (mem now : List ℕ) (n : ℕ) (kind : LineKind)
    → StandFor cache list mem → n < length list → (now ≡ mem) ⊎ (changes kind ≡ true)
    → ((m : ℕ) → (m ≡ n → ⊥) → line_in now m ≡ line_in mem m)
    → Mirrors (length list) after
    (record { memory = now; sets = with_kept (map marks (cache.sets)) n ((used_of cache mem list n kind).0.0) })
    → StandFor after ((used_of cache mem list n kind).1) now
stand-after cache after list mem now n kind st lt changed other m =
    let sets : Sets = map marks (cache.sets) in
    let r : (List Kept × List ℕ) × List (List ℕ) = used_of cache mem list n kind in
    let u = used-is cache list mem n kind st lt in
    let count : length (cache.sets) ≡ length sets = sym (length-map (cache.sets) marks) in
    let start = st.mirrors in
    let some : 0 < length (cache.sets) = start.some in
    let inside : n % length (cache.sets) < length (cache.sets) = omega arith in
    let fits : length (set_of sets n) ≤ cache.ways =
    subst (λ z. length z ≤ cache.ways) (sym (set_of_is (length list) cache n some))
    (subst (λ z. z ≤ cache.ways)
    (sym (length-map (held_in cache n)
    (λ (h : Held). let kept : Kept = record { line = h.line; dirty = h.dirty } in kept)))
    (start.fits (n % length (cache.sets)) inside)) in
    let same : length (r.1) ≡ length list = u.2 in
    record {
      mirrors = subst (λ z. Mirrors z after (lists_of after now)) (sym same)
          (subst (λ (z : Sets). Mirrors (length list) after (record { memory = now; sets = z })) m.is m);
      each = λ k h. subst (λ (z : Sets). Holds (set_of z k) now (r.1) k) m.is
          (each-after mem list sets (cache.ways) n kind now (subst (λ z. 0 < z) count some) start.ways fits changed
          other r u st.each k (subst (λ z. k < z) same h));
    }

module _ {S E : Type 0} (step : S → LineRequest → Result (List ℕ) E → S → Type 0) (lines : S → ℕ)
    (told : S → Option (List (List ℕ)))
    (answers : (s t : S) (q : LineRequest) (bytes : List ℕ) → step s q (Ok bytes) t → IsLineAnswer q bytes)
    (told_lines : (s : S) (list : List (List ℕ)) → told s ≡ Some list → length list ≡ lines s)
    (tells_fetch : (s t : S) (n : ℕ) (bytes : List ℕ) → step s (Fetch n) (Ok bytes) t
    → TellsFetch (told s) n bytes (told t))
    (tells_store : (s t : S) (n : ℕ) (value done : List ℕ) → step s (Store n value) (Ok done) t
    → TellsStore (told s) n value (told t)) where
  tells : Tells step told serve_lines
  tells s t (Fetch n) x h list e =
      let f = tells_fetch s t n x h list e in
      (list, f.0, ap (λ (z : List ℕ). (z, list)) (get_or_from_slice_get list n x [] (f.1)))
  tells s t (Store n value) x h list e =
      let f = tells_store s t n value x h list e in (
        f.0,
        f.1,
        ap (λ (z : List ℕ). (z, set (f.0) n value)) (sym (answers s t (Store n value) x h))
            ∙ ap (λ (z : List (List ℕ)). (x, z)) (sym (f.2)),
      )

  -- A call that ends is served by the list that is told, as its lists are.
  told-of : {A D : Type 0} (plan : Plan LineRequest (List ℕ) Contents A) (by_lists : Plan LineRequest (List ℕ) Sets D)
      (Left : ℕ → Contents → Sets → Type 0) (Out : ℕ → A → D → Type 0) (s t : S) (a : A)
      → ((before : List (List ℕ)) → told s ≡ Some before
      → Alike IsLineAnswer (Left (length before)) (Out (length before)) plan by_lists)
      → Ends step plan s t a → (list : List (List ℕ)) → told t ≡ Some list
      → (before : List (List ℕ)) × (told s ≡ Some before)
      × Out (length before) a ((served serve_lines by_lists before).0)
      × (list ≡ (served serve_lines by_lists before).1)
  told-of {A} {D} plan by_lists Left Out s t a alike run list e =
      let one = Ends-told step told serve_lines tells plan s t a run list e in
      let two = Alike-ends step IsLineAnswer answers (Left (length (one.0))) (Out (length (one.0))) plan by_lists s t a
      (alike (one.0) (one.1)) run in
      let three = Ends-told step told serve_lines tells by_lists s t (two.0) (two.1) list e in
      let both : Some (one.0) ≡ Some (three.0) = sym (one.1) ∙ three.1 in
      let same : one.0 ≡ three.0 = cc in (
        three.0,
        three.1,
        subst (λ (z : D × List (List ℕ)). Out (length (three.0)) a (z.0)) (sym (three.2))
            (subst (λ (z : List (List ℕ)). Out (length z) a (two.0)) same (two.2)),
        ap (λ (z : D × List (List ℕ)). z.1) (sym (three.2)),
      )

  -- A read gives bytes of the list, and leaves it.
  pub read-stands : (s t : S) (cache after : Contents) (n offset count : ℕ) (bytes mem : List ℕ)
      → n < lines s → offset + count ≤ 64 → ((list : List (List ℕ)) → told s ≡ Some list → StandFor cache list mem)
      → Ends step (read_plan cache n offset count) s t (after, bytes)
      → (list : List (List ℕ)) → told t ≡ Some list
      → StandFor after list mem × (bytes ≡ slice_of mem (64 * n + offset) count)
  read-stands s t cache after n offset count bytes mem lt range stand run list e =
      let by_lists : Plan LineRequest (List ℕ) Sets (Lines × List ℕ) =
      read_lines (cache.ways) (lists_of cache mem) n offset count in
      let sets : Sets = map marks (cache.sets) in
      let below : (b : List (List ℕ)) → told s ≡ Some b → n < length b =
      λ b h. subst (λ z. n < z) (sym (told_lines s b h)) lt in
      let x = told-of (read_plan cache n offset count) by_lists
      (λ c left now. Mirrors c left (record { memory = mem; sets = now }))
      (λ c (a : Contents × List ℕ) (d : Lines × List ℕ). Mirrors c (a.0) (d.0) × (a.1 ≡ d.1)) s t (after, bytes)
      (λ b h. read_alike (length b) cache (lists_of cache mem) n offset count ((stand b h).mirrors) (below b h) range)
      run list e in
      let before : List (List ℕ) = x.0 in
      let st : StandFor cache before mem = stand before (x.1) in
      let r : (List Kept × List ℕ) × List (List ℕ) = used_of cache mem before n Read in
      let u = used-is cache before mem n Read st (below before (x.1)) in
      let split : served serve_lines by_lists before
      ≡ ((after_use (lists_of cache mem) n (r.0.0) (r.0.1), slice_of (r.0.1) (64 * n + offset) count), r.1) =
      served-bind serve_lines (with_kept sets n) (use_set (cache.ways) (set_of sets n) mem
      (record { line = n; kind = Read }))
      (λ r. Done (after_use (lists_of cache mem) n (r.0) (r.1), slice_of (r.1) (64 * n + offset) count)) before in
      let m : Mirrors (length before) after (after_use (lists_of cache mem) n (r.0.0) (r.0.1)) =
      subst (λ (z : (Lines × List ℕ) × List (List ℕ)). Mirrors (length before) after (z.0.0)) split (x.2.0) in
      let same : list ≡ r.1 = x.3 ∙ ap (λ (z : (Lines × List ℕ) × List (List ℕ)). z.1) split in (
        subst (λ z. StandFor after z mem) (sym same)
            (stand-after cache after before mem mem n Read st (below before (x.1)) (inl refl) (λ j ne. refl)
            (subst (λ (z : List ℕ). Mirrors (length before) after
            (after_use (lists_of cache mem) n (r.0.0) z)) (u.1) m)),
        x.2.1 ∙ ap (λ (z : (Lines × List ℕ) × List (List ℕ)). z.0.1) split
            ∙ ap (λ (z : List ℕ). slice_of z (64 * n + offset) count) (u.1),
      )

  -- A write changes its bytes of the list alone.
  pub write-stands : (s t : S) (cache after : Contents) (n offset : ℕ) (bytes mem : List ℕ)
      → n < lines s → offset + length bytes ≤ 64
      → ((list : List (List ℕ)) → told s ≡ Some list → StandFor cache list mem)
      → Ends step (write_plan cache n offset bytes) s t after
      → (list : List (List ℕ)) → told t ≡ Some list → StandFor after list (spliced mem (64 * n + offset) bytes)
  write-stands s t cache after n offset bytes mem lt range stand run list e =
      let by_lists : Plan LineRequest (List ℕ) Sets Lines =
      write_lines (cache.ways) (lists_of cache mem) n offset bytes in
      let sets : Sets = map marks (cache.sets) in
      let below : (b : List (List ℕ)) → told s ≡ Some b → n < length b =
      λ b h. subst (λ z. n < z) (sym (told_lines s b h)) lt in
      let x = told-of (write_plan cache n offset bytes) by_lists
      (λ c left now. Mirrors c left (record { memory = mem; sets = now })) Mirrors s t after
      (λ b h. write_alike (length b) cache (lists_of cache mem) n offset bytes ((stand b h).mirrors) (below b h) range)
      run list e in
      let before : List (List ℕ) = x.0 in
      let st : StandFor cache before mem = stand before (x.1) in
      let r : (List Kept × List ℕ) × List (List ℕ) = used_of cache mem before n Write in
      let u = used-is cache before mem n Write st (below before (x.1)) in
      let split : served serve_lines by_lists before
      ≡ (after_use (lists_of cache mem) n (r.0.0) (spliced (r.0.1) (64 * n + offset) bytes), r.1) =
      served-bind serve_lines (with_kept sets n) (use_set (cache.ways) (set_of sets n) mem
      (record { line = n; kind = Write }))
      (λ r. Done (after_use (lists_of cache mem) n (r.0) (spliced (r.1) (64 * n + offset) bytes))) before in
      let m : Mirrors (length before) after
      (after_use (lists_of cache mem) n (r.0.0) (spliced (r.0.1) (64 * n + offset) bytes)) =
      subst (λ (z : Lines × List (List ℕ)). Mirrors (length before) after (z.0)) split (x.2) in
      let same : list ≡ r.1 = x.3 ∙ ap (λ (z : Lines × List (List ℕ)). z.1) split in
      let size : length mem ≡ 64 * length before = st.mirrors.size in
      let inside : n < length before = below before (x.1) in
      let room : 64 * n + 64 ≤ length mem = omega arith in
      subst (λ z. StandFor after z (spliced mem (64 * n + offset) bytes)) (sym same)
      (stand-after cache after before mem (spliced mem (64 * n + offset) bytes) n Write st inside (inr refl)
      (λ j ne. other_line mem n offset j bytes range room ne)
      (subst (λ (z : List ℕ). Mirrors (length before) after
      (after_use (lists_of cache mem) n (r.0.0) (spliced z (64 * n + offset) bytes))) (u.1) m))

  -- And so does a write of a whole line.
  pub whole-stands : (s t : S) (cache after : Contents) (n : ℕ) (value : Line) (mem : List ℕ)
      → n < lines s → length (value.0) ≡ 64
      → ((list : List (List ℕ)) → told s ≡ Some list → StandFor cache list mem)
      → Ends step (write_line_plan cache n value) s t after
      → (list : List (List ℕ)) → told t ≡ Some list → StandFor after list (spliced mem (64 * n) (value.0))
  whole-stands s t cache after n value mem lt whole stand run list e =
      let by_lists : Plan LineRequest (List ℕ) Sets Lines =
      write_whole_line (cache.ways) (lists_of cache mem) n (value.0) in
      let sets : Sets = map marks (cache.sets) in
      let below : (b : List (List ℕ)) → told s ≡ Some b → n < length b =
      λ b h. subst (λ z. n < z) (sym (told_lines s b h)) lt in
      let x = told-of (write_line_plan cache n value) by_lists
      (λ c left now. Mirrors c left (record { memory = mem; sets = now })) Mirrors s t after
      (λ b h. whole_alike (length b) cache (lists_of cache mem) n value ((stand b h).mirrors) (below b h) whole)
      run list e in
      let before : List (List ℕ) = x.0 in
      let st : StandFor cache before mem = stand before (x.1) in
      let r : (List Kept × List ℕ) × List (List ℕ) = used_of cache mem before n WholeWrite in
      let u = used-is cache before mem n WholeWrite st (below before (x.1)) in
      let split : served serve_lines by_lists before
      ≡ (after_use (lists_of cache mem) n (r.0.0) (spliced (r.0.1) (64 * n) (value.0)), r.1) =
      served-bind serve_lines (with_kept sets n) (use_set (cache.ways) (set_of sets n) mem
      (record { line = n; kind = WholeWrite }))
      (λ r. Done (after_use (lists_of cache mem) n (r.0) (spliced (r.1) (64 * n) (value.0)))) before in
      let m : Mirrors (length before) after
      (after_use (lists_of cache mem) n (r.0.0) (spliced (r.0.1) (64 * n) (value.0))) =
      subst (λ (z : Lines × List (List ℕ)). Mirrors (length before) after (z.0)) split (x.2) in
      let same : list ≡ r.1 = x.3 ∙ ap (λ (z : Lines × List (List ℕ)). z.1) split in
      let size : length mem ≡ 64 * length before = st.mirrors.size in
      let inside : n < length before = below before (x.1) in
      let room : 64 * n + 64 ≤ length mem = omega arith in
      subst (λ z. StandFor after z (spliced mem (64 * n) (value.0))) (sym same)
      (stand-after cache after before mem (spliced mem (64 * n) (value.0)) n WholeWrite st inside (inr refl)
      (λ j ne. other-patched mem n j (value.0) whole room ne)
      (subst (λ (z : List ℕ). Mirrors (length before) after
      (after_use (lists_of cache mem) n (r.0.0) (spliced z (64 * n) (value.0)))) (u.1) m))

-- ---- the one list
-- A cache that holds nothing stands with its store for the list of bytes of which the store's lines are the parts.
pub stand-start : (sets ways : ℕ) (list : List (List ℕ)) (mem : List ℕ) → 0 < sets → 0 < ways
    → length mem ≡ 64 * length list → ((n : ℕ) → n < length list → get_or list n [] ≡ line_in mem n)
    → StandFor (record { ways = ways; sets = replicate sets [] }) list mem
stand-start sets ways list mem some room size each =
    let m = empty-mirrors (length list) sets ways mem some room size in
    record {
      mirrors = subst (λ (z : Sets). Mirrors (length list) (record { ways = ways; sets = replicate sets [] })
          (record { memory = mem; sets = z })) m.is m;
      each = λ n lt. inr (each n lt);
    }

-- Each line of the list is the held one, or else the store's.
stands-for : (count : ℕ) (cache : Contents) (list : List (List ℕ)) (mem : List ℕ) (n : ℕ) (found : Option Held)
    → Mirrors count cache (lists_of cache mem) → find_line n (held_in cache n) ≡ found
    → Holds (marks (held_in cache n)) mem list n
    → line_in mem n ≡ option_map_or (λ (h : Held). h.value.0) found (get_or list n [])
stands-for count cache list mem n (Some h) m e holds =
    let some : 0 < length (cache.sets) = m.some in
    (hit (length (cache.sets)) (n % length (cache.sets)) count n mem (held_in cache n) h e
    (m.each (n % length (cache.sets)) (omega arith))).6
stands-for count cache list mem n None m e holds =
    let out = unkept n (held_in cache n)
    (miss (length (cache.sets)) (n % length (cache.sets)) count n (held_in cache n) e) in
    elim holds [ inl d ↦ cc | inr h ↦ sym h ]

pub one-list : (cache : Contents) (list : List (List ℕ)) (mem : List ℕ) (n : ℕ) → StandFor cache list mem
    → n < length list
    → line_in mem n
    ≡ option_map_or (λ (h : Held). h.value.0) (find_line n (held_in cache n)) (get_or list n [])
one-list cache list mem n st lt =
    stands-for (length list) cache list mem n (find_line n (held_in cache n)) st.mirrors refl
    (subst (λ z. Holds z mem list n) (set_of_is (length list) cache n st.mirrors.some) (st.each n lt))
