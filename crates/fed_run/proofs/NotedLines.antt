-- A chain of a store's steps that notes the lines it answers: its plan is run on exactly these, and they are lines.
use Rattle.std.proofs.Common.{◌≡◌, ℕ, ◌==◌, Bool, true, false, if◌then◌else◌, List, [], ◌∷◌, ◌++◌, Some, None, Result}
use Rattle.std.proofs.Common.{Ok, length, refl, sym, ap, subst, inl, inr, ◌∙◌, eq-eqb}
use Rattle.std.proofs.Common.{append_assoc, append-nil}
use Rattle.request_plan.specs.Plan.{Plan, Done, Ask, Ends, Stops}
use Rattle.request_plan.specs.Course.{Course, Finished, Starved, Astray, after_read, after_source, after_course, course}
use Rattle.request_plan.specs.Laws.{NotesAnswers, StopsUnnoted}
use Rattle.data_cache.specs.Lines.{LineRequest, Fetch, Store, IsLineAnswer}
use Rattle.fed_run.specs.Answered.{line_source, AreLines}
use Rattle.fed_run.specs.Fed.{NotedLine}
use Rattle.fed_run.proofs.Feeds.{AreLines-append}

-- ---- plans that always want a line
-- a course that is starved
abbrev pub IsStarved : {Q B A : Type 0} → Course NotedLine Q B A → Type 0
IsStarved (Finished a items) = ⊥
IsStarved (Starved q b) = Unit {0}
IsStarved Astray = ⊥

-- Wherever it is stopped, a fetch was still to come: with no line more the plan is starved.
abbrev pub Wants : {B A : Type 0} → Plan LineRequest (List ℕ) B A → Type 0
Wants (Done a) = Unit {0}
Wants (Ask q b k) = IsStarved (course line_source (Ask q b k) []) × ((x : List ℕ) → Wants (k x))

pub starved-after : {Q B C A D : Type 0} (put : B → C) (go : A → List NotedLine → Course NotedLine Q C D)
    (c : Course NotedLine Q B A) → IsStarved c → IsStarved (after_course put go c)
starved-after put go (Finished a items) h = absurd h
starved-after put go (Starved q b) h = tt
starved-after put go Astray h = absurd h

-- ---- what is read from a noted line
-- from a line's own note its bytes are read
pub own-read : (line : ℕ) (bytes : List ℕ) → (if line == line then Some bytes else None) ≡ Some bytes
own-read line bytes = ap (λ (b : Bool). if b then Some bytes else None) (eq-eqb line line refl)

if-some : (b : Bool) (bytes x : List ℕ) → (if b then Some bytes else None) ≡ Some x → bytes ≡ x
if-some false bytes x e = Prim.cc
if-some true bytes x e = Prim.cc

-- and nothing else
read-is : (line : ℕ) (x : List ℕ) (noted : NotedLine)
    → (if noted.line == line then Some noted.bytes else None) ≡ Some x → noted.bytes ≡ x
read-is line x noted e = if-some (noted.line == line) noted.bytes x e

-- ---- chains
noted-append : (before middle after first rest : List NotedLine)
    → middle ≡ before ++ first → after ≡ middle ++ rest → after ≡ before ++ (first ++ rest)
noted-append before middle after first rest one other = other ∙ ap (λ l. l ++ rest) one ∙ append_assoc before first rest

module _ {S E : Type 0} (step : S → LineRequest → Result (List ℕ) E → S → Type 0) (noted : S → List NotedLine)
    (notes : NotesAnswers step line_source noted)
    (answers : (s t : S) (q : LineRequest) (bytes : List ℕ) → step s q (Ok bytes) t → IsLineAnswer q bytes) where
  -- an answered request
  one : {B A : Type 0} (q : LineRequest) (b : B) (go : List ℕ → List NotedLine → Course NotedLine LineRequest B A)
      (s t : S) (x : List ℕ) → step s q (Ok x) t
      → (lines : List NotedLine) × (noted t ≡ noted s ++ lines) × AreLines lines
      × ((rest : List NotedLine) → after_source q b go (line_source q) (lines ++ rest) ≡ go x rest)
  one (Fetch n) b go s t x h =
      let note = notes s t (Fetch n) x h in
      let is : (note.0).bytes ≡ x = read-is n x (note.0) (note.2) in (
        note.0 ∷ [],
        note.1,
        (ap length is ∙ (answers s t (Fetch n) x h).0, tt),
        λ rest. ap (after_read (λ z. go z rest)) (note.2),
      )
  one (Store n value) b go s t x h =
      let note = notes s t (Store n value) x h in
      ([], note.0 ∙ sym (append-nil (noted s)), tt, λ rest. ap (λ z. go z rest) (sym note.1))

  pub Ends-lines : {B A : Type 0} (p : Plan LineRequest (List ℕ) B A) (s t : S) (a : A) → Ends step p s t a
      → (lines : List NotedLine) × (noted t ≡ noted s ++ lines) × AreLines lines
      × ((more : List NotedLine)
      → ◌≡◌ {A = Course NotedLine LineRequest B A} (course line_source p (lines ++ more)) (Finished a more))
  Ends-lines (Done x) s t a h =
      ([], ap noted h.1 ∙ sym (append-nil (noted s)), tt, λ more. ap (λ z. Finished z more) (sym h.0))
  Ends-lines {B} {A} (Ask q b k) s t a h =
      let go : List ℕ → List NotedLine → Course NotedLine LineRequest B A = λ x rest. course line_source (k x) rest in
      let first = one q b go s (h.1) (h.0) (h.2) in
      let rest = Ends-lines (k (h.0)) (h.1) t a (h.3) in (
        first.0 ++ rest.0,
        noted-append (noted s) (noted (h.1)) (noted t) (first.0) (rest.0) (first.1) (rest.1),
        AreLines-append (first.0) (rest.0) (first.2) (rest.2),
        λ more. ap (after_source q b go (line_source q)) (append_assoc (first.0) (rest.0) more)
            ∙ first.3 (rest.0 ++ more)
            ∙ rest.3 more,
      )

  pub Stops-lines : StopsUnnoted step noted
      → {B A : Type 0} (p : Plan LineRequest (List ℕ) B A) (s t : S) (e : E) (b : B) → Wants p → Stops step p s t e b
      → (lines : List NotedLine) × (noted t ≡ noted s ++ lines) × AreLines lines
      × IsStarved (course line_source p lines)
  Stops-lines same (Done x) s t e b wants h = absurd h
  Stops-lines same (Ask q c k) s t e b wants (inl h) =
      ([], same s t q e (h.0) ∙ sym (append-nil (noted s)), tt, wants.0)
  Stops-lines same {B} {A} (Ask q c k) s t e b wants (inr h) =
      let go : List ℕ → List NotedLine → Course NotedLine LineRequest B A = λ x rest. course line_source (k x) rest in
      let first = one q c go s (h.1) (h.0) (h.2) in
      let rest = Stops-lines same (k (h.0)) (h.1) t e b (wants.1 (h.0)) (h.3) in (
        first.0 ++ rest.0,
        noted-append (noted s) (noted (h.1)) (noted t) (first.0) (rest.0) (first.1) (rest.1),
        AreLines-append (first.0) (rest.0) (first.2) (rest.2),
        subst IsStarved (sym (first.3 (rest.0))) (rest.3),
      )
