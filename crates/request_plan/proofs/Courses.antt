-- Chains whose states note items: the plan is run on exactly the items that were noted.
use Rattle.std.proofs.Common.{◌≡◌, List, [], ◌∷◌, ◌++◌, Option, Some, None, Result, refl, sym, ap, subst, inl, inr, ◌∙◌}
use Rattle.std.proofs.Common.{append_assoc, append-nil}
use Rattle.request_plan.specs.Plan.{Plan, Done, Ask, Ends, Stops, bind}
use Rattle.request_plan.specs.Course.{Source, Known, Noted, Course, Finished, after_read, after_source, after_course}
use Rattle.request_plan.specs.Course.{course, Notes, UsesAll}
use Rattle.request_plan.specs.Laws.{NotesAnswers, StopsUnnoted}

-- what is noted at a request and what the rest notes are noted together
noted-append : {N : Type 0} (before middle after first rest : List N)
    → middle ≡ before ++ first → after ≡ middle ++ rest → after ≡ before ++ (first ++ rest)
noted-append before middle after first rest one other = other ∙ ap (λ l. l ++ rest) one ∙ append_assoc before first rest

-- the items that an answered request notes, and that a course reads its answer from them
after_source-notes : {N Q X B A : Type 0} (q : Q) (b : B) (go : X → List N → Course N Q B A)
    (source : Source N X) (before after : List N) (x : X)
    → Notes source before x after
    → (items : List N) × (after ≡ before ++ items)
    × ((rest : List N) → after_source q b go source (items ++ rest) ≡ go x rest)
after_source-notes q b go (Known y) before after x h =
    ([], h.0 ∙ sym (append-nil before), λ rest. ap (λ z. go z rest) (sym h.1))
after_source-notes q b go (Noted read) before after x h =
    (h.0 ∷ [], h.1, λ rest. ap (after_read (λ y. go y rest)) h.2)

-- on no item a plan is starved, or finishes
pub course-nil : {N Q X B A : Type 0} (source : Q → Source N X) (p : Plan Q X B A) → UsesAll (course source p [])
course-nil source (Done a) = refl
course-nil source (Ask q b k) =
    elim (source q) as (λ z. UsesAll (after_source q b (λ x rest. course source (k x) rest) z [])) [
      | Known x ↦ course-nil source (k x)
      | Noted read ↦ tt
    ]

-- what was read, and the next plan
bind-read : {N Q X B C A D : Type 0} (put : B → C) (go : A → List N → Course N Q C D) (f : X → Course N Q C D)
    (g : X → Course N Q B A)
    → ((x : X) → f x ≡ after_course put go (g x))
    → (r : Option X) → after_read f r ≡ after_course put go (after_read g r)
bind-read put go f g each None = refl
bind-read put go f g each (Some x) = each x

-- an answer, and the next plan
bind-source : {N Q X B C A D : Type 0} (put : B → C) (go : A → List N → Course N Q C D) (q : Q) (b : B)
    (f : X → List N → Course N Q C D) (g : X → List N → Course N Q B A)
    → ((x : X) (rest : List N) → f x rest ≡ after_course put go (g x rest))
    → (s : Source N X) (items : List N)
    → after_source q (put b) f s items ≡ after_course put go (after_source q b g s items)
bind-source put go q b f g each (Known x) items = each x items
bind-source put go q b f g each (Noted read) [] = refl
bind-source put go q b f g each (Noted read) (item ∷ items) =
    bind-read put go (λ x. f x items) (λ x. g x items) (λ x. each x items) (read item)

-- One plan after another runs on the items as the first does, and from there as the second.
pub course-bind : {N Q X B C A D : Type 0} (source : Q → Source N X) (put : B → C) (p : Plan Q X B A)
    (next : A → Plan Q X C D) (items : List N)
    → course source (bind put p next) items
    ≡ after_course put (λ a rest. course source (next a) rest) (course source p items)
course-bind source put (Done a) next items = refl
course-bind source put (Ask q b k) next items =
    bind-source put (λ a rest. course source (next a) rest) q b (λ x rest. course source (bind put (k x) next) rest)
    (λ x rest. course source (k x) rest) (λ x rest. course-bind source put (k x) next rest) (source q) items

module _ {S Q X E N : Type 0} (step : S → Q → Result X E → S → Type 0) (source : Q → Source N X) (noted : S → List N)
    (notes : NotesAnswers step source noted) where
  -- a chain's plan finishes on the items that were noted, and leaves any others over
  pub Ends-noted : {B A : Type 0} (p : Plan Q X B A) (s t : S) (a : A) → Ends step p s t a
      → (items : List N) × (noted t ≡ noted s ++ items)
      × ((more : List N) → ◌≡◌ {A = Course N Q B A} (course source p (items ++ more)) (Finished a more))
  Ends-noted (Done x) s t a h =
      ([], ap noted h.1 ∙ sym (append-nil (noted s)), λ more. ap (λ z. Finished z more) (sym h.0))
  Ends-noted {B} {A} (Ask q b k) s t a h =
      let go : X → List N → Course N Q B A = λ x rest. course source (k x) rest in
      let first = after_source-notes q b go (source q) (noted s) (noted (h.1)) (h.0) (notes s (h.1) q (h.0) (h.2)) in
      let rest = Ends-noted (k (h.0)) (h.1) t a (h.3) in (
        first.0 ++ rest.0,
        noted-append (noted s) (noted (h.1)) (noted t) (first.0) (rest.0) (first.1) (rest.1),
        λ more. ap (after_source q b go (source q)) (append_assoc (first.0) (rest.0) more)
            ∙ first.2 (rest.0 ++ more)
            ∙ rest.2 more,
      )

  -- a stopped chain's plan uses all items that were noted, where a stop notes none
  pub Stops-noted : StopsUnnoted step noted
      → {B A : Type 0} (p : Plan Q X B A) (s t : S) (e : E) (b : B) → Stops step p s t e b
      → (items : List N) × (noted t ≡ noted s ++ items) × UsesAll (course source p items)
  Stops-noted same (Done x) s t e b h = absurd h
  Stops-noted same (Ask q c k) s t e b (inl h) =
      ([], same s t q e (h.0) ∙ sym (append-nil (noted s)), course-nil source (Ask q c k))
  Stops-noted same {B} {A} (Ask q c k) s t e b (inr h) =
      let go : X → List N → Course N Q B A = λ x rest. course source (k x) rest in
      let first = after_source-notes q c go (source q) (noted s) (noted (h.1)) (h.0) (notes s (h.1) q (h.0) (h.2)) in
      let rest = Stops-noted same (k (h.0)) (h.1) t e b (h.3) in (
        first.0 ++ rest.0,
        noted-append (noted s) (noted (h.1)) (noted t) (first.0) (rest.0) (first.1) (rest.1),
        subst UsesAll (sym (first.2 (rest.0))) (rest.2),
      )
