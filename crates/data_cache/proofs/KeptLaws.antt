-- A set of a cache and its lists go on alike.
use Rattle.std.proofs.Common.{zero, suc, ◌≡◌, ℕ, ◌+◌, ◌-◌, ◌*◌, ◌%◌, ◌<◌, ◌≤◌, Bool, true, false, cond, not, ◌==◌, ◌||◌}
use Rattle.std.proofs.Common.{◌&&◌, if◌then◌else◌, List, [], ◌∷◌, Option, Some, None, length, take, slice_get}
use Rattle.std.proofs.Common.{slice_set, refl, sym, ap, subst, ◌∙◌, arith, inl, inr, eqb-true, eq-eqb, length-take}
use Rattle.std.proofs.Common.{length-set}
use Rattle.std.proofs.lemmas.List.{map-set, take-map, take-set, length-map}
use Rattle.std.proofs.Math.Seq.{map-set_same}
use Rattle.std.proofs.lemmas.Bool.Decides.{eqb_tells}
use Rattle.std.proofs.lemmas.Option.{slice_get-map, get_or_from_slice_get}
use Rattle.std.specs.Option.{option_map}
use Rattle.asc_base.specs.declared.block.Line.{Line}
use Rattle.request_plan.specs.Plan.{Plan, Done, Ask, bind, Alike}
use Rattle.rv32_core.specs.Access.{spliced, length-spliced}
use Rattle.rv32_core.specs.LineList.{LineKind, WholeWrite}
use Rattle.data_cache.specs.Lines.{LineRequest, Fetch, Store, IsLineAnswer}
use Rattle.data_cache.specs.CacheLists.{Kept, changes, needs, keeps, keeps_dirty, others, set_after, victim, line_in}
use Rattle.data_cache.specs.CacheLists.{stored, set_settled, ask_all, use_set}
use Rattle.data_cache.specs.Contents.{find_line, without, settled, obtained, obtain, replaced, replace}
use Rattle.data_cache.specs.Mirror.{marks, pairs, NotIn, Fit}
use Rattle.data_cache.specs.declared.set.Held.{Held}
use Rattle.data_cache.proofs.Parts.{line-patched, other-patched}

-- another line is as it was
abbrev pub Same : ℕ → List ℕ → List ℕ → Type 0
Same n mem now = (length now ≡ length mem) × ((m : ℕ) → (m ≡ n → ⊥) → line_in now m ≡ line_in mem m)

-- the first one is line n
abbrev pub First : ℕ → List Held → Type 0
First n [] = ⊥
First n (h ∷ hs) = h.line ≡ n

abbrev pub mark : Held → Kept
mark h = record { line = h.line; dirty = h.dirty }

pub or_false : (b : Bool) → (b || false) ≡ b
or_false true = refl
or_false false = refl

pub or_true : (b : Bool) → (b || true) ≡ true
or_true true = refl
or_true false = refl

eqb-false : (a b : ℕ) → (a ≡ b → ⊥) → (a == b) ≡ false
eqb-false a b ne = elim (eqb_tells a b) [ inl h ↦ absurd (ne h.1) | inr h ↦ h.0 ]

get-past : {X : Type 0} (xs : List X) (i : ℕ) → length xs ≤ i → slice_get xs i ≡ None
get-past [] i h = refl
get-past (x ∷ xs) zero h = absurd (omega arith)
get-past (x ∷ xs) (suc i) h = get-past xs i (omega arith)

take-long : {X : Type 0} (i : ℕ) (xs : List X) → length xs ≤ i → take i xs ≡ xs
take-long zero [] h = refl
take-long zero (x ∷ xs) h = absurd (omega arith)
take-long (suc i) [] h = refl
take-long (suc i) (x ∷ xs) h = ap (λ l. x ∷ l) (take-long i xs (omega arith))

take-first : {X : Type 0} (i : ℕ) (x : X) (xs : List X) → 0 < i → take i (x ∷ xs) ≡ x ∷ take (i - 1) xs
take-first zero x xs h = absurd (omega arith)
take-first (suc i) x xs h = ap (λ k. x ∷ take k xs) (let e : i ≡ suc i - 1 = omega arith in e)

-- ---- a line that isn't in a set
-- what its lists say of it
abbrev Unkept : ℕ → List Held → Type 0
Unkept n l = (keeps (marks l) n ≡ false) × (keeps_dirty (marks l) n ≡ false) × (others (marks l) n ≡ marks l)

unkept-at : (n : ℕ) (w : Held) (ws : List Held) (b : Bool) → b ≡ false → Unkept n ws
    → ((b || keeps (marks ws) n) ≡ false) × (((b && w.dirty) || keeps_dirty (marks ws) n) ≡ false)
    × (cond (not b) (mark w ∷ others (marks ws) n) (others (marks ws) n) ≡ mark w ∷ marks ws)
unkept-at n w ws true e r = cc
unkept-at n w ws false e r = (r.0, r.1, ap (λ (z : List Kept). mark w ∷ z) (r.2))

pub unkept : (n : ℕ) (l : List Held) → NotIn n (pairs l) → Unkept n l
unkept n [] h = (refl, refl, refl)
unkept n (w ∷ ws) h = unkept-at n w ws (w.line == n) (eqb-false (w.line) n (h.0)) (unkept n ws (h.1))

without-at : (n m : ℕ) (w : Held) (ws : List Held) (b : Bool) → NotIn m (pairs (w ∷ ws))
    → NotIn m (pairs (without n ws))
    → NotIn m (pairs (cond b ws (w ∷ without n ws)))
without-at n m w ws true h r = h.1
without-at n m w ws false h r = (h.0, r)

pub NotIn-without : (n m : ℕ) (l : List Held) → NotIn m (pairs l) → NotIn m (pairs (without n l))
NotIn-without n m [] h = h
NotIn-without n m (w ∷ ws) h = without-at n m w ws (w.line == n) h (NotIn-without n m ws (h.1))

pub NotIn-take : (i m : ℕ) (ps : List (ℕ × List ℕ)) → NotIn m ps → NotIn m (take i ps)
NotIn-take zero m ps h = tt
NotIn-take (suc i) m [] h = tt
NotIn-take (suc i) m (p ∷ ps) h = (h.0, NotIn-take i m ps (h.1))

module _ (sets k lines : ℕ) where
  pub Fit-other : (n : ℕ) (mem now : List ℕ) (ps : List (ℕ × List ℕ)) → ((m : ℕ) → (m ≡ n → ⊥)
      → line_in now m ≡ line_in mem m)
      → NotIn n ps → Fit sets k lines mem ps → Fit sets k lines now ps
  Fit-other n mem now [] same out f = tt
  Fit-other n mem now (p ∷ ps) same out f =
      (f.0, f.1, same (p.0) (out.0) ∙ f.2, f.3, Fit-other n mem now ps same (out.1) (f.4))

  pub Fit-take : (i : ℕ) (mem : List ℕ) (ps : List (ℕ × List ℕ)) → Fit sets k lines mem ps
      → Fit sets k lines mem (take i ps)
  Fit-take zero mem ps f = tt
  Fit-take (suc i) mem [] f = tt
  Fit-take (suc i) mem (p ∷ ps) f = (f.0, f.1, f.2, NotIn-take i (p.0) ps (f.3), Fit-take i mem ps (f.4))

  pub Fit-elsewhere : (n : ℕ) (mem : List ℕ) (ps : List (ℕ × List ℕ)) → (n % sets ≡ k → ⊥)
      → Fit sets k lines mem ps → NotIn n ps
  Fit-elsewhere n mem [] ne f = tt
  Fit-elsewhere n mem (p ∷ ps) ne f = ((λ e. ne (ap (λ z. z % sets) (sym e) ∙ f.0)), Fit-elsewhere n mem ps ne (f.4))

  pub Fit-at : (i : ℕ) (mem : List ℕ) (ps : List (ℕ × List ℕ)) (p : ℕ × List ℕ) → slice_get ps i ≡ Some p
      → Fit sets k lines mem ps → line_in mem (p.0) ≡ p.1
  Fit-at i mem [] p e f = cc
  Fit-at zero mem (q ∷ ps) p e f =
      let same : q ≡ p = cc in
      ap (λ (z : ℕ × List ℕ). line_in mem (z.0)) (sym same) ∙ f.2 ∙ ap (λ (z : ℕ × List ℕ). z.1) same
  Fit-at (suc i) mem (q ∷ ps) p e f = Fit-at i mem ps p e (f.4)

  -- ---- a line that is found
  abbrev pub Hit : ℕ → List ℕ → List Held → Held → Type 0
  Hit n mem l h =
      (h.line ≡ n) × (keeps (marks l) n ≡ true) × (keeps_dirty (marks l) n ≡ h.dirty)
      × (others (marks l) n ≡ marks (without n l)) × (n % sets ≡ k) × (n < lines) × (line_in mem n ≡ h.value.0)
      × NotIn n (pairs (without n l)) × Fit sets k lines mem (pairs (without n l))
      × (suc (length (without n l)) ≡ length l)

  hit-at : (n : ℕ) (mem : List ℕ) (w : Held) (ws : List Held) (h : Held) (b : Bool) → (w.line == n) ≡ b
      → cond b (Some w) (find_line n ws) ≡ Some h → Fit sets k lines mem (pairs (w ∷ ws))
      → (find_line n ws ≡ Some h → Hit n mem ws h)
      → (h.line ≡ n) × ((b || keeps (marks ws) n) ≡ true) × (((b && w.dirty) || keeps_dirty (marks ws) n) ≡ h.dirty)
      × (cond (not b) (mark w ∷ others (marks ws) n) (others (marks ws) n) ≡ marks (cond b ws (w ∷ without n ws)))
      × (n % sets ≡ k) × (n < lines) × (line_in mem n ≡ h.value.0) × NotIn n (pairs (cond b ws (w ∷ without n ws)))
      × Fit sets k lines mem (pairs (cond b ws (w ∷ without n ws)))
      × (suc (length (cond b ws (w ∷ without n ws))) ≡ suc (length ws))
  hit-at n mem w ws h true t e f ih =
      let is : w ≡ h = cc in
      let ln : w.line ≡ n = eqb-true (w.line) n t in
      let out : NotIn n (pairs ws) = subst (λ z. NotIn z (pairs ws)) ln (f.3) in
      let none = unkept n ws out in (
        ap (λ (z : Held). z.line) (sym is) ∙ ln,
        refl,
        ap (λ z. w.dirty || z) (none.1) ∙ or_false (w.dirty) ∙ ap (λ (z : Held). z.dirty) is,
        none.2,
        ap (λ z. z % sets) (sym ln) ∙ f.0,
        subst (λ z. z < lines) ln (f.1),
        ap (line_in mem) (sym ln) ∙ f.2 ∙ ap (λ (z : Held). z.value.0) is,
        out,
        f.4,
        refl,
      )
  hit-at n mem w ws h false t e f ih =
      let r : Hit n mem ws h = ih e in
      let ne : w.line ≡ n → ⊥ = λ q. (let y : (w.line == n) ≡ true = eq-eqb (w.line) n q in cc) in (
        r.0,
        r.1,
        r.2,
        ap (λ (ms : List Kept). mark w ∷ ms) (r.3),
        r.4,
        r.5,
        r.6,
        (ne, r.7),
        (f.0, f.1, f.2, NotIn-without n (w.line) ws (f.3), r.8),
        ap suc (r.9),
      )

  pub hit : (n : ℕ) (mem : List ℕ) (l : List Held) (h : Held) → find_line n l ≡ Some h
      → Fit sets k lines mem (pairs l) → Hit n mem l h
  hit n mem [] h e f = cc
  hit n mem (w ∷ ws) h e f = hit-at n mem w ws h (w.line == n) refl e f (λ q. hit n mem ws h q (f.4))

  miss-at : (n : ℕ) (w : Held) (ws : List Held) (b : Bool) → (w.line == n) ≡ b → cond b (Some w) (find_line n ws) ≡ None
      → (find_line n ws ≡ None → NotIn n (pairs ws)) → NotIn n (pairs (w ∷ ws))
  miss-at n w ws true t e ih = cc
  miss-at n w ws false t e ih = ((λ q. (let y : (w.line == n) ≡ true = eq-eqb (w.line) n q in cc)), ih e)

  pub miss : (n : ℕ) (l : List Held) → find_line n l ≡ None → NotIn n (pairs l)
  miss n [] e = tt
  miss n (w ∷ ws) e = miss-at n w ws (w.line == n) refl e (miss n ws)

  -- ---- a use on a set
  -- the use of a line, by its victim, by whether it is fetched, and by the set after it
  abbrev uses_at : ℕ → ℕ → List Kept → List ℕ → Option Kept → Bool → List Kept
      → Plan LineRequest (List ℕ) (List Kept) (List Kept × List ℕ)
  uses_at ways n ms mem v test a =
      bind (λ left. left) (ask_all ms mem (stored mem v))
      (λ now. bind (λ left. left) (ask_all (set_settled ways ms v) now (if test then Fetch n ∷ [] else []))
      (λ brought. Done (a, brought)))

  use_is : (ways n : ℕ) (ms : List Kept) (mem : List ℕ) (kind : LineKind) (v : Option Kept) (test : Bool)
      (a : List Kept)
      → victim ways ms n ≡ v → (needs kind && not (keeps ms n)) ≡ test
      → set_after ways ms (record { line = n; kind = kind }) ≡ a
      → use_set ways ms mem (record { line = n; kind = kind }) ≡ uses_at ways n ms mem v test a
  use_is ways n ms mem kind v test a one two three =
      ap (λ z. uses_at ways n ms mem z (needs kind && not (keeps ms n)) (set_after ways ms
      (record { line = n; kind = kind }))) one
      ∙ ap (λ z. uses_at ways n ms mem v z (set_after ways ms (record { line = n; kind = kind }))) two
      ∙ ap (λ z. uses_at ways n ms mem v test z) three

  -- a set and its lists at a stop
  abbrev pub SOut : List Held → List Held → List Kept → Type 0
  SOut l s ms = (ms ≡ marks s) × (pairs s ≡ pairs l) × (length s ≡ length l)

  -- the first one is dirty if it was, or if the use changes it
  abbrev pub used_by : LineKind → List Kept → List Kept
  used_by kind [] = []
  used_by kind (m ∷ ms) = record m { dirty = m.dirty || changes kind } ∷ ms

  -- a set with the line first, its lists, and the list of bytes beside them
  abbrev pub OOut : LineKind → ℕ → ℕ → List ℕ → List Held → List Kept × List ℕ → Type 0
  OOut kind ways n mem l r =
      First n l × (r.0 ≡ used_by kind (marks l)) × Fit sets k lines (r.1) (pairs l) × Same n mem (r.1)
      × (length l ≤ ways)

  -- the set after a use of a line that isn't kept
  after-miss : (ways n : ℕ) (ms : List Kept) (kind : LineKind) → 0 < ways → keeps_dirty ms n ≡ false → others ms n ≡ ms
      → set_after ways ms (record { line = n; kind = kind })
      ≡ record { line = n; dirty = changes kind } ∷ take (ways - 1) ms
  after-miss ways n ms kind some clean all =
      ap (λ b. take ways (record { line = n; dirty = b || changes kind } ∷ others ms n)) clean
      ∙ ap (λ (l : List Kept). take ways (record { line = n; dirty = changes kind } ∷ l)) all
      ∙ take-first ways (record { line = n; dirty = changes kind }) ms some

  -- and of one that is
  after-hit : (ways n : ℕ) (ms rest : List Kept) (kind : LineKind) (d : Bool) → suc (length rest) ≤ ways
      → keeps_dirty ms n ≡ d → others ms n ≡ rest
      → set_after ways ms (record { line = n; kind = kind }) ≡ record { line = n; dirty = d || changes kind } ∷ rest
  after-hit ways n ms rest kind d fits dirty all =
      ap (λ b. take ways (record { line = n; dirty = b || changes kind } ∷ others ms n)) dirty
      ∙ ap (λ (l : List Kept). take ways (record { line = n; dirty = d || changes kind } ∷ l)) all
      ∙ take-long ways (record { line = n; dirty = d || changes kind } ∷ rest) fits

  -- after a fetch the line is first, and its bytes have their place
  brought : (kind : LineKind) (ways n : ℕ) (mem bytes : List ℕ) (l s : List Held) → 0 < ways → n % sets ≡ k → n < lines
      → length mem ≡ 64 * lines → length bytes ≡ 64 → Fit sets k lines mem (pairs l) → NotIn n (pairs l)
      → take (ways - 1) s ≡ take (ways - 1) l
      → OOut kind ways n mem (record { line = n; dirty = false; value = record { 0 = bytes } } ∷ take (ways - 1) s)
      (record { line = n; dirty = changes kind } ∷ take (ways - 1) (marks l), spliced mem (64 * n) bytes)
  brought kind ways n mem bytes l s some at lt size long f out same =
      let room : 64 * n + 64 ≤ length mem = omega arith in
      let kept : pairs (take (ways - 1) s) ≡ take (ways - 1) (pairs l) =
      ap pairs same ∙ sym (take-map (λ (h : Held). (h.line, h.value.0)) (ways - 1) l) in
      let marked : take (ways - 1) (marks l) ≡ marks (take (ways - 1) s) =
      take-map mark (ways - 1) l ∙ ap marks (sym same) in
      let other : (m : ℕ) → (m ≡ n → ⊥) → line_in (spliced mem (64 * n) bytes) m ≡ line_in mem m =
      λ m ne. other-patched mem n m bytes long room ne in
      let short : length (take (ways - 1) s) ≤ ways - 1 = simp length-take (omega arith) in (
        refl,
        ap (λ (ms : List Kept). record { line = n; dirty = changes kind } ∷ ms) marked,
        (
          at,
          lt,
          line-patched mem n bytes long room,
          subst (NotIn n) (sym kept) (NotIn-take (ways - 1) n (pairs l) out),
          subst (Fit sets k lines (spliced mem (64 * n) bytes)) (sym kept)
              (Fit-other n mem (spliced mem (64 * n) bytes) (take (ways - 1) (pairs l)) other
              (NotIn-take (ways - 1) n (pairs l) out) (Fit-take (ways - 1) mem (pairs l) f)),
        ),
        (length-spliced mem (64 * n) bytes (omega arith), other),
        (let all : suc (length (take (ways - 1) s)) ≤ ways = omega arith in all),
      )

  -- the last of a set is clean
  cleaned : (ways : ℕ) (l : List Held) (last : Held) → slice_get l (ways - 1) ≡ Some last
      → SOut l (slice_set l (ways - 1) (record last { dirty = false }))
      (slice_set (marks l) (ways - 1) (record { line = last.line; dirty = false }))
  cleaned ways l last e = (
    sym (map-set mark l (ways - 1) (record last { dirty = false })),
    map-set_same (λ (h : Held). (h.line, h.value.0)) l (ways - 1) (record last { dirty = false }) last
        (ap (λ (h : Held). (h.line, h.value.0)) (sym (get_or_from_slice_get l (ways - 1) last last e))),
    length-set l (ways - 1) (record last { dirty = false }),
  )

  -- the last of a set is settled, and then each goes on
  settles : {A : Type 0} {D : Type 0} (Out : A → D
      → Type 0) (ways : ℕ) (mem : List ℕ) (l : List Held) (last : Held) (b : Bool)
      (next : List Held → Plan LineRequest (List ℕ) (List Held) A)
      (go : List Kept → List ℕ → Plan LineRequest (List ℕ) (List Kept) D)
      → slice_get l (ways - 1) ≡ Some last → line_in mem (last.line) ≡ last.value.0
      → ((s : List Held) (ms : List Kept) → SOut l s ms → take (ways - 1) s ≡ take (ways - 1) l
      → Alike IsLineAnswer (SOut l) Out (next s) (go ms mem))
      → Alike IsLineAnswer (SOut l) Out
      (bind (λ s. s) (cond b (Ask (Store (last.line) (last.value.0)) l (λ _. Done (slice_set l (ways - 1)
      (record last { dirty = false })))) (Done l)) next)
      (bind (λ left. left) (ask_all (marks l) mem (if b then Store (last.line) (line_in mem (last.line)) ∷ [] else []))
      (λ now. go (if b then slice_set (marks l) (ways - 1)
      (record { line = last.line; dirty = false }) else marks l) now))
  settles Out ways mem l last false next go e fit each = each l (marks l) (refl, refl, refl) refl
  settles Out ways mem l last true next go e fit each = (
    ap (Store (last.line)) (sym fit),
    (refl, refl, refl),
    λ bytes fine. each (slice_set l (ways - 1) (record last { dirty = false }))
        (slice_set (marks l) (ways - 1) (record { line = last.line; dirty = false })) (cleaned ways l last e)
        (take-set l (ways - 1) (record last { dirty = false })),
  )

  -- a use that fetches its line
  fetches : (kind : LineKind) (ways n : ℕ) (mem : List ℕ) (l : List Held) (last : Option Held)
      → slice_get l (ways - 1) ≡ last
      → 0 < ways → n % sets ≡ k → n < lines → length mem ≡ 64 * lines → Fit sets k lines mem (pairs l)
      → NotIn n (pairs l)
      → Alike IsLineAnswer (SOut l) (OOut kind ways n mem)
      (bind (λ s. s) (settled ways l last) (λ s. Ask (Fetch n) s
      (λ bytes. Done (record { line = n; dirty = false; value = record { 0 = bytes } } ∷ take (ways - 1) s))))
      (uses_at ways n (marks l) mem (option_map mark last) true (record { line = n; dirty = changes kind } ∷ take
      (ways - 1) (marks l)))
  fetches kind ways n mem l None e some at lt size f out =
      (refl, (refl, refl, refl), λ bytes fine. brought kind ways n mem bytes l l some at lt size (fine.0) f out refl)
  fetches kind ways n mem l (Some last) e some at lt size f out =
      settles (OOut kind ways n mem) ways mem l last (last.dirty)
      (λ s. Ask (Fetch n) s (λ bytes. Done (record { line = n; dirty = false; value = record { 0 = bytes } } ∷ take
      (ways - 1) s)))
      (λ ms now. bind (λ left. left) (ask_all ms now (Fetch n ∷ []))
      (λ brought. Done (record { line = n; dirty = changes kind } ∷ take (ways - 1) (marks l), brought)))
      e
      (Fit-at (ways - 1) mem (pairs l) (last.line, last.value.0)
      (slice_get-map (λ (h : Held). (h.line, h.value.0)) l (ways - 1)
      ∙ ap (option_map (λ (h : Held). (h.line, h.value.0))) e) f)
      (λ s ms x same. (refl, x, λ bytes fine. brought kind ways n mem bytes l s some at lt size (fine.0) f out same))

  obtain-by : (kind : LineKind) (ways n : ℕ) (mem : List ℕ) (l : List Held) (found : Option Held)
      → find_line n l ≡ found
      → needs kind ≡ true → 0 < ways → length l ≤ ways → n % sets ≡ k → n < lines → length mem ≡ 64 * lines
      → Fit sets k lines mem (pairs l)
      → Alike IsLineAnswer (SOut l) (OOut kind ways n mem) (obtained ways l n found)
      (use_set ways (marks l) mem (record { line = n; kind = kind }))
  obtain-by kind ways n mem l (Some h) e need some fits at lt size f =
      let r : Hit n mem l h = hit n mem l h e f in
      let few : length (marks (without n l)) ≡ length (without n l) = length-map (without n l) mark in
      let kept : length (without n l) ≤ ways - 1 = omega (arith, r.9) in
      let none : victim ways (marks l) n ≡ None =
      ap (λ (ms : List Kept). slice_get ms (ways - 1)) (r.3)
      ∙ get-past (marks (without n l)) (ways - 1) (omega (arith, few, kept)) in
      let no : (needs kind && not (keeps (marks l) n)) ≡ false = ap (λ b. needs kind && not b) (r.1)
      ∙ ap (λ b. b && false) need in
      let after = after-hit ways n (marks l) (marks (without n l)) kind (h.dirty) (omega (arith, few, kept, some))
      (r.2) (r.3) in
      subst (λ p. Alike IsLineAnswer (SOut l) (OOut kind ways n mem) (obtained ways l n (Some h)) p)
      (sym (use_is ways n (marks l) mem kind None false _ none no after)) (
        r.0,
        ap (λ z. record { line = z; dirty = h.dirty || changes kind } ∷ marks (without n l)) (sym (r.0)),
        (
          ap (λ z. z % sets) (r.0) ∙ at,
          subst (λ z. z < lines) (sym (r.0)) lt,
          ap (line_in mem) (r.0) ∙ r.6,
          subst (λ z. NotIn z (pairs (without n l))) (sym (r.0)) (r.7),
          r.8,
        ),
        (refl, λ m ne. refl),
        (let all : suc (length (without n l)) ≤ ways = omega (arith, r.9, fits) in all),
      )
  obtain-by kind ways n mem l None e need some fits at lt size f =
      let out : NotIn n (pairs l) = miss n l e in
      let r = unkept n l out in
      let last : victim ways (marks l) n ≡ option_map mark (slice_get l (ways - 1)) =
      ap (λ (ms : List Kept). slice_get ms (ways - 1)) (r.2) ∙ slice_get-map mark l (ways - 1) in
      let yes : (needs kind && not (keeps (marks l) n)) ≡ true = ap (λ b. needs kind && not b) (r.0)
      ∙ ap (λ b. b && true) need in
      subst (λ p. Alike IsLineAnswer (SOut l) (OOut kind ways n mem) (obtained ways l n None) p)
      (sym (use_is ways n (marks l) mem kind _ true _ last yes (after-miss ways n (marks l) kind some (r.1) (r.2))))
      (fetches kind ways n mem l (slice_get l (ways - 1)) refl some at lt size f out)

  -- A use that needs its line's bytes is made alike.
  pub obtain_alike : (kind : LineKind) (ways n : ℕ) (mem : List ℕ) (l : List Held)
      → needs kind ≡ true → 0 < ways → length l ≤ ways → n % sets ≡ k → n < lines → length mem ≡ 64 * lines
      → Fit sets k lines mem (pairs l)
      → Alike IsLineAnswer (SOut l) (OOut kind ways n mem) (obtain ways l n)
      (use_set ways (marks l) mem (record { line = n; kind = kind }))
  obtain_alike kind ways n mem l need some fits at lt size f =
      obtain-by kind ways n mem l (find_line n l) refl need some fits at lt size f

  -- a set with a new line first, its lists, and the list of bytes before it has it
  abbrev pub WOut : ℕ → ℕ → List ℕ → Line → List Held → List Kept × List ℕ → Type 0
  WOut ways n mem value l r =
      (r.0 ≡ marks l) × (r.1 ≡ mem) × Fit sets k lines (spliced mem (64 * n) (value.0)) (pairs l) × (length l ≤ ways)

  -- a new line is first, before lines that are others
  put_in : (ways n : ℕ) (mem : List ℕ) (value : Line) (rest : List Held) (ms : List Kept) (b : Bool) → b ≡ true
      → n % sets ≡ k → n < lines
      → length mem ≡ 64 * lines → length (value.0) ≡ 64 → ms ≡ marks rest → NotIn n (pairs rest)
      → Fit sets k lines mem (pairs rest)
      → suc (length rest) ≤ ways
      → WOut ways n mem value (record { line = n; dirty = true; value = value } ∷ rest)
      (record { line = n; dirty = b } ∷ ms, mem)
  put_in ways n mem value rest ms b dirty at lt size long is out f fits =
      let room : 64 * n + 64 ≤ length mem = omega arith in
      let other : (m : ℕ) → (m ≡ n → ⊥) → line_in (spliced mem (64 * n) (value.0)) m ≡ line_in mem m =
      λ m ne. other-patched mem n m (value.0) long room ne in (
        ap (λ z. record { line = n; dirty = z } ∷ ms) dirty
            ∙ ap (λ (l : List Kept). record { line = n; dirty = true } ∷ l) is,
        refl,
        (
          at,
          lt,
          line-patched mem n (value.0) long room,
          out,
          Fit-other n mem (spliced mem (64 * n) (value.0))
              (pairs rest) other out f,
        ),
        fits,
      )

  -- the same in a set whose last found no room
  put_first : (ways n : ℕ) (mem : List ℕ) (value : Line) (l s : List Held) → 0 < ways → n % sets ≡ k → n < lines
      → length mem ≡ 64 * lines → length (value.0) ≡ 64 → Fit sets k lines mem (pairs l) → NotIn n (pairs l)
      → take (ways - 1) s ≡ take (ways - 1) l
      → WOut ways n mem value (record { line = n; dirty = true; value = value } ∷ take (ways - 1) s)
      (record { line = n; dirty = true } ∷ take (ways - 1) (marks l), mem)
  put_first ways n mem value l s some at lt size long f out same =
      let kept : pairs (take (ways - 1) s) ≡ take (ways - 1) (pairs l) =
      ap pairs same ∙ sym (take-map (λ (h : Held). (h.line, h.value.0)) (ways - 1) l) in
      let short : length (take (ways - 1) s) ≤ ways - 1 = simp length-take (omega arith) in
      put_in ways n mem value (take (ways - 1) s) (take (ways - 1) (marks l)) true refl at lt size long
      (take-map mark (ways - 1) l ∙ ap marks (sym same))
      (subst (NotIn n) (sym kept) (NotIn-take (ways - 1) n (pairs l) out))
      (subst (Fit sets k lines mem) (sym kept) (Fit-take (ways - 1) mem (pairs l) f)) (omega arith)

  -- a line is put that the set doesn't keep
  puts : (ways n : ℕ) (mem : List ℕ) (value : Line) (l : List Held) (last : Option Held) → slice_get l (ways - 1) ≡ last
      → 0 < ways → n % sets ≡ k → n < lines → length mem ≡ 64 * lines → length (value.0) ≡ 64
      → Fit sets k lines mem (pairs l) → NotIn n (pairs l)
      → Alike IsLineAnswer (SOut l) (WOut ways n mem value)
      (bind (λ s. s) (settled ways l last) (λ s. Done (record { line = n; dirty = true; value = value } ∷ take
      (ways - 1) s)))
      (uses_at ways n (marks l) mem (option_map mark last) false (record { line = n; dirty = true } ∷ take
      (ways - 1) (marks l)))
  puts ways n mem value l None e some at lt size long f out = put_first ways n mem value l l some at lt
      size long f out refl
  puts ways n mem value l (Some last) e some at lt size long f out =
      settles (WOut ways n mem value) ways mem l last (last.dirty)
      (λ s. Done (record { line = n; dirty = true; value = value } ∷ take (ways - 1) s))
      (λ ms now. bind (λ left. left) (ask_all ms now [])
      (λ brought. Done (record { line = n; dirty = true } ∷ take (ways - 1) (marks l), brought)))
      e
      (Fit-at (ways - 1) mem (pairs l) (last.line, last.value.0)
      (slice_get-map (λ (h : Held). (h.line, h.value.0)) l (ways - 1)
      ∙ ap (option_map (λ (h : Held). (h.line, h.value.0))) e) f)
      (λ s ms x same. put_first ways n mem value l s some at lt size long f out same)

  replace-by : (ways n : ℕ) (mem : List ℕ) (value : Line) (l : List Held) (found : Option Held) → find_line n l ≡ found
      → 0 < ways → length l ≤ ways → n % sets ≡ k → n < lines → length mem ≡ 64 * lines → length (value.0) ≡ 64
      → Fit sets k lines mem (pairs l)
      → Alike IsLineAnswer (SOut l) (WOut ways n mem value) (replaced ways l n value found)
      (use_set ways (marks l) mem (record { line = n; kind = WholeWrite }))
  replace-by ways n mem value l (Some h) e some fits at lt size long f =
      let r : Hit n mem l h = hit n mem l h e f in
      let few : length (marks (without n l)) ≡ length (without n l) = length-map (without n l) mark in
      let kept : length (without n l) ≤ ways - 1 = omega (arith, r.9) in
      let none : victim ways (marks l) n ≡ None =
      ap (λ (ms : List Kept). slice_get ms (ways - 1)) (r.3)
      ∙ get-past (marks (without n l)) (ways - 1) (omega (arith, few, kept)) in
      let after = after-hit ways n (marks l) (marks (without n l)) WholeWrite (h.dirty) (omega
      (arith, few, kept, some)) (r.2) (r.3) in
      subst (λ p. Alike IsLineAnswer (SOut l) (WOut ways n mem value) (replaced ways l n value (Some h)) p)
      (sym (use_is ways n (marks l) mem WholeWrite None false _ none refl after))
      (put_in ways n mem value (without n l) (marks (without n l)) (h.dirty || true) (or_true
      (h.dirty)) at lt size long refl (r.7) (r.8)
      (omega (arith, r.9, fits)))
  replace-by ways n mem value l None e some fits at lt size long f =
      let out : NotIn n (pairs l) = miss n l e in
      let r = unkept n l out in
      let last : victim ways (marks l) n ≡ option_map mark (slice_get l (ways - 1)) =
      ap (λ (ms : List Kept). slice_get ms (ways - 1)) (r.2) ∙ slice_get-map mark l (ways - 1) in
      subst (λ p. Alike IsLineAnswer (SOut l) (WOut ways n mem value) (replaced ways l n value None) p)
      (sym (use_is ways n (marks l) mem WholeWrite _ false _ last refl (after-miss ways n (marks l) WholeWrite some
      (r.1) (r.2))))
      (puts ways n mem value l (slice_get l (ways - 1)) refl some at lt size long f out)

  -- A write of a whole line is made alike.
  pub replace_alike : (ways n : ℕ) (mem : List ℕ) (value : Line) (l : List Held)
      → 0 < ways → length l ≤ ways → n % sets ≡ k → n < lines → length mem ≡ 64 * lines → length (value.0) ≡ 64
      → Fit sets k lines mem (pairs l)
      → Alike IsLineAnswer (SOut l) (WOut ways n mem value) (replace ways l n value)
      (use_set ways (marks l) mem (record { line = n; kind = WholeWrite }))
  replace_alike ways n mem value l some fits at lt size long f =
      replace-by ways n mem value l (find_line n l) refl some fits at lt size long f
