-- Chains of which each step does what a server's turn says: what they note is the play of their plan, or a cut of it.
use Rattle.std.proofs.Common.{◌≡◌, List, [], ◌∷◌, ◌++◌, Result, Ok, Err, length, map, take, refl, sym, ap, subst, inl}
use Rattle.std.proofs.Common.{inr, ◌∙◌, append_assoc, append-nil, suc}
use Rattle.std.proofs.lemmas.List.{map-append}
use Rattle.std.proofs.lemmas.Grind.{flat_map-append}
use Rattle.std.specs.List.{flat_map}
use Rattle.request_plan.specs.Plan.{Plan, Done, Ask, Ends, Stops, bind}
use Rattle.request_plan.specs.Play.{Turn, Played, marked, bare, play, IsHalt, last_left, halt}
use Rattle.request_plan.specs.Laws.{StaysClean, TakesTurns, CutsTurns, EndsTurns, StaysQuiet}

-- the records that were marked
pub bare-marked : {R B : Type 0} (b : B) (rs : List R) → bare (marked b rs) ≡ rs
bare-marked b [] = refl
bare-marked b (r ∷ rs) = ap (λ l. r ∷ l) (bare-marked b rs)

-- the records of two parts
pub bare-append : {R B : Type 0} (xs ys : List (R × B)) → bare (xs ++ ys) ≡ bare xs ++ bare ys
bare-append {R} {B} xs ys = map-append (λ (r : R × B). r.0) xs ys

-- the records of a turn, and then those of the rest
bare-turn : {R B : Type 0} (b : B) (rs : List R) (more : List (R × B)) → bare (marked b rs ++ more) ≡ rs ++ bare more
bare-turn b rs more = bare-append (marked b rs) more ∙ ap (λ l. l ++ bare more) (bare-marked b rs)

-- what two parts note one after the other
noted-append : {R N : Type 0} (items : R → List N) (rs more : List R) (before middle after : List N)
    → middle ≡ before ++ flat_map items rs → after ≡ middle ++ flat_map items more
    → after ≡ before ++ flat_map items (rs ++ more)
noted-append items rs more before middle after one other =
    other
    ∙ ap (λ l. l ++ flat_map items more) one
    ∙ append_assoc before (flat_map items rs) (flat_map items more)
    ∙ ap (λ l. before ++ l) (sym (flat_map-append items rs more))

-- and what is noted after them
noted-some : {R N : Type 0} (items : R → List N) (rs more : List R) (some before middle after : List N)
    → middle ≡ before ++ flat_map items rs → after ≡ middle ++ flat_map items more ++ some
    → after ≡ before ++ flat_map items (rs ++ more) ++ some
noted-some items rs more some before middle after one other =
    other ∙ ap (λ l. l ++ some) (noted-append items rs more before middle (middle ++ flat_map items more) one refl)

-- What a stopped chain noted: the items of the records before one of the play's, and some for that one.
pub record IsCut {S R H B A E N : Type 0} (items : R → List N) (Part : E → S → R → List N → Type 0) (noted : S → List N)
    (whole : Played R H B A) (s t : S) (e : E) (left : B) : Type 0 where
  pub done : List R
  pub cut : R
  pub some : List N
  pub is : IsHalt whole done cut left
  pub notes : noted t ≡ noted s ++ flat_map items done ++ some
  pub part : Part e t cut some

-- What is clean at a chain's end was so at its start.
module _ {S Q X E : Type 0} (step : S → Q → Result X E → S → Type 0) (clean : S → Type 0)
    (stays : StaysClean step clean) where
  pub Ends-clean : {B A : Type 0} (p : Plan Q X B A) (s t : S) (a : A) → Ends step p s t a → clean t → clean s
  Ends-clean (Done x) s t a h c = subst clean h.1 c
  Ends-clean (Ask q b k) s t a h c = stays s (h.1) q (Ok (h.0)) (h.2) (Ends-clean (k (h.0)) (h.1) t a (h.3) c)

  -- and at a stopped chain's
  pub Stops-clean : {B A : Type 0} (p : Plan Q X B A) (s t : S) (e : E) (b : B)
      → Stops step p s t e b → clean t → clean s
  Stops-clean (Done x) s t e b h c = absurd h
  Stops-clean (Ask q b' k) s t e b (inl h) c = stays s t q (Err e) (h.0) c
  Stops-clean (Ask q b' k) s t e b (inr h) c =
      stays s (h.1) q (Ok (h.0)) (h.2) (Stops-clean (k (h.0)) (h.1) t e b (h.3) c)

-- A record notes items. What is clean at a step's end was so at its start; then the step is the server's turn.
module _ {S H Q X E R N : Type 0} (step : S → Q → Result X E → S → Type 0) (serve : H → Q → Turn R H X)
    (StandsFor : S → H → Type 0) (noted : S → List N) (items : R → List N) (clean : S → Type 0)
    (stays : StaysClean step clean) (turns : TakesTurns step serve StandsFor noted items clean) where
  -- a chain has the play's outcome, stands for what the play holds at its end, and noted the play's records
  pub Ends-follows : {B A : Type 0} (p : Plan Q X B A) (s t : S) (a : A) → Ends step p s t a → clean t
      → (h : H) → StandsFor s h
      → let whole = play serve p h in
      (a ≡ whole.outcome) × StandsFor t whole.held × (noted t ≡ noted s ++ flat_map items (bare (whole.records)))
  Ends-follows (Done x) s t a e c h r =
      (e.0, subst (λ (u : S). StandsFor u h) (sym e.1) r, ap noted e.1 ∙ sym (append-nil (noted s)))
  Ends-follows {B} {A} (Ask q b k) s t a e c h r =
      let turn = turns s (e.1) q (e.0) (e.2) (Ends-clean step clean stays (k (e.0)) (e.1) t a (e.3) c) h r in
      let records = (serve h q).records in
      let after = (serve h q).held in
      let chain : Ends step (k ((serve h q).answer)) (e.1) t a =
      subst (λ (p : Plan Q X B A). Ends step p (e.1) t a) (ap k turn.0) (e.3) in
      let rest = Ends-follows (k ((serve h q).answer)) (e.1) t a chain c after turn.1 in
      let next = play serve (k ((serve h q).answer)) after in (
        rest.0,
        rest.1,
        noted-append items records (bare (next.records)) (noted s) (noted (e.1)) (noted t) turn.2 rest.2
            ∙ ap (λ l. noted s ++ flat_map items l) (sym (bare-turn b records (next.records))),
      )

  -- a stopped chain noted a cut of the play
  pub Stops-follows : (Cuts : E → Type 0) (Part : E → S → R → List N → Type 0)
      → CutsTurns step serve StandsFor noted items Cuts Part clean
      → {B A : Type 0} (p : Plan Q X B A) (s t : S) (e : E) (b : B) → Stops step p s t e b → Cuts e → clean t
      → (h : H) → StandsFor s h → IsCut items Part noted (play serve p h) s t e b
  Stops-follows Cuts Part cuts (Done x) s t e b z l c h r = absurd z
  Stops-follows Cuts Part cuts (Ask q b' k) s t e b (inl z) l c h r =
      let broken = cuts s t q e (z.0) l c h r in
      let next = play serve (k ((serve h q).answer)) ((serve h q).held) in
      record {
        done = broken.0;
        cut = broken.1;
        some = broken.3;
        is = record {
          before = marked b' (broken.0);
          later = marked b' (broken.2) ++ next.records;
          parts =
              ap (λ l. marked b' l ++ next.records) (broken.4)
              ∙ ap (λ l. l ++ next.records) (map-append (λ (r : R). (r, b')) (broken.0) (broken.1 ∷ broken.2))
              ∙ append_assoc (marked b' (broken.0)) ((broken.1, b') ∷ marked b' (broken.2)) (next.records)
              ∙ ap (λ y. marked b' (broken.0) ++ (broken.1, y) ∷ (marked b' (broken.2) ++ next.records)) (sym z.1);
          are = sym (bare-marked b' (broken.0));
        };
        notes = broken.5;
        part = broken.6;
      }
  Stops-follows Cuts Part cuts {B} {A} (Ask q b' k) s t e b (inr z) l c h r =
      let turn = turns s (z.1) q (z.0) (z.2) (Stops-clean step clean stays (k (z.0)) (z.1) t e b (z.3) c) h r in
      let records = (serve h q).records in
      let after = (serve h q).held in
      let chain : Stops step (k ((serve h q).answer)) (z.1) t e b =
      subst (λ (p : Plan Q X B A). Stops step p (z.1) t e b) (ap k turn.0) (z.3) in
      let rest : IsCut items Part noted (play serve (k ((serve h q).answer)) after) (z.1) t e b =
      Stops-follows Cuts Part cuts (k ((serve h q).answer)) (z.1) t e b chain l c after turn.1 in
      record {
        done = records ++ rest.done;
        cut = rest.cut;
        some = rest.some;
        is = record {
          before = marked b' records ++ (rest.is).before;
          later = (rest.is).later;
          parts =
              ap (λ l. marked b' records ++ l) (rest.is).parts
              ∙ sym (append_assoc (marked b' records) (rest.is).before ((rest.cut, b) ∷ (rest.is).later));
          are =
              ap (λ l. records ++ l) (rest.is).are
              ∙ sym (bare-turn b' records (rest.is).before);
        };
        notes = noted-some items records rest.done rest.some (noted s) (noted (z.1)) (noted t) turn.2 rest.notes;
        part = rest.part;
      }

  -- a quiet server's play has no record
  quiet-play : (Quiet : H → Type 0) → StaysQuiet serve StandsFor Quiet
      → {B A : Type 0} (p : Plan Q X B A) (h : H) → Quiet h
      → (bare ((play serve p h).records) ≡ []) × ((t : S) → StandsFor t h → StandsFor t (play serve p h).held)
  quiet-play Quiet silent (Done a) h quiet = (refl, λ t r. r)
  quiet-play Quiet silent (Ask q b k) h quiet =
      let now = silent h q quiet in
      let rest = quiet-play Quiet silent (k ((serve h q).answer)) ((serve h q).held) now.1 in
      let more = (play serve (k ((serve h q).answer)) ((serve h q).held)).records in (
        bare-turn b ((serve h q).records) more ∙ ap (λ l. l ++ bare more) now.0 ∙ rest.0,
        λ t r. rest.1 t (now.2 t r),
      )

  -- a chain with a late stop noted the whole play
  pub Stops-late : (IsLate : E → Type 0) (Quiet : H → Type 0)
      → EndsTurns step serve StandsFor noted items IsLate Quiet clean → StaysQuiet serve StandsFor Quiet
      → {B A : Type 0} (p : Plan Q X B A) (s t : S) (e : E) (b : B) → Stops step p s t e b → IsLate e → clean t
      → (h : H) → StandsFor s h
      → let whole = play serve p h in
      StandsFor t whole.held × (noted t ≡ noted s ++ flat_map items (bare (whole.records)))
  Stops-late IsLate Quiet ends silent (Done x) s t e b z l c h r = absurd z
  Stops-late IsLate Quiet ends silent (Ask q b' k) s t e b (inl z) l c h r =
      let now = ends s t q e (z.0) l c h r in
      let rest = quiet-play Quiet silent (k ((serve h q).answer)) ((serve h q).held) now.0 in
      let records = (serve h q).records in
      let more = (play serve (k ((serve h q).answer)) ((serve h q).held)).records in (
        rest.1 t now.1,
        now.2
            ∙ ap (λ l. noted s ++ flat_map items l)
            (sym (bare-turn b' records more ∙ ap (λ l. records ++ l) rest.0 ∙ append-nil records)),
      )
  Stops-late IsLate Quiet ends silent {B} {A} (Ask q b' k) s t e b (inr z) l c h r =
      let turn = turns s (z.1) q (z.0) (z.2) (Stops-clean step clean stays (k (z.0)) (z.1) t e b (z.3) c) h r in
      let records = (serve h q).records in
      let after = (serve h q).held in
      let chain : Stops step (k ((serve h q).answer)) (z.1) t e b =
      subst (λ (p : Plan Q X B A). Stops step p (z.1) t e b) (ap k turn.0) (z.3) in
      let rest = Stops-late IsLate Quiet ends silent (k ((serve h q).answer)) (z.1) t e b chain l c after turn.1 in
      let more = (play serve (k ((serve h q).answer)) after).records in (
        rest.0,
        noted-append items records (bare more) (noted s) (noted (z.1)) (noted t) turn.2 rest.1
            ∙ ap (λ l. noted s ++ flat_map items l) (sym (bare-turn b' records more)),
      )

-- The records, each beside what is left, put as another plan has it.
abbrev pub put_all : {R B C : Type 0} → (B → C) → List (R × B) → List (R × C)
put_all put rs = map (λ r. (r.0, put (r.1))) rs

-- marking, and then putting
put_all-marked : {R B C : Type 0} (put : B → C) (b : B) (rs : List R) → put_all put (marked b rs) ≡ marked (put b) rs
put_all-marked put b [] = refl
put_all-marked put b (r ∷ rs) = ap (λ l. (r, put b) ∷ l) (put_all-marked put b rs)

-- a turn of the first plan, its rest, and the second
put_all-turn : {R B C : Type 0} (put : B → C) (b : B) (rs : List R) (rest : List (R × B)) (more : List (R × C))
    → marked (put b) rs ++ (put_all put rest ++ more) ≡ put_all put (marked b rs ++ rest) ++ more
put_all-turn put b rs rest more =
    sym (append_assoc (marked (put b) rs) (put_all put rest) more)
    ∙ ap (λ l. (l ++ put_all put rest) ++ more) (sym (put_all-marked put b rs))
    ∙ ap (λ l. l ++ more) (sym (map-append (λ r. (r.0, put (r.1))) (marked b rs) rest))

-- one plan after another is played from what the first holds at its end
pub play-bind : {R H Q X B C A D : Type 0} (serve : H → Q → Turn R H X) (put : B → C) (p : Plan Q X B A)
    (next : A → Plan Q X C D) (h : H)
    → let first = play serve p h in
    let second = play serve (next (first.outcome)) (first.held) in
    play serve (bind put p next) h ≡ record second { records = put_all put (first.records) ++ second.records }
play-bind serve put (Done a) next h = refl
play-bind {R} {H} {C} {D} serve put (Ask q b k) next h =
    let turn = serve h q in
    let first = play serve (k (turn.answer)) (turn.held) in
    let second = play serve (next (first.outcome)) (first.held) in
    ap (λ (z : Played R H C D). record z { records = marked (put b) (turn.records) ++ z.records })
    (play-bind serve put (k (turn.answer)) next (turn.held))
    ∙ ap (λ l. record second { records = l }) (put_all-turn put b (turn.records) (first.records) (second.records))

-- as many records
bare-length : {R B : Type 0} (rs : List (R × B)) → length (bare rs) ≡ length rs
bare-length [] = refl
bare-length (r ∷ rs) = ap suc (bare-length rs)

-- so many records up to the one that is cut
take-cut : {R B : Type 0} (before : List (R × B)) (c : R × B) (later : List (R × B))
    → take (suc (length before)) (before ++ c ∷ later) ≡ before ++ c ∷ []
take-cut [] c later = refl
take-cut (r ∷ rs) c later = ap (λ l. r ∷ l) (take-cut rs c later)

-- what the last record leaves
last_left-append : {R B : Type 0} (z b : B) (c : R) (before : List (R × B)) → last_left z (before ++ (c, b) ∷ []) ≡ b
last_left-append z b c [] = refl
last_left-append z b c (r ∷ rs) = last_left-append (r.1) b c rs

-- A cut of a play is its halt at the number of records up to that one.
pub halt_at : {R H B A : Type 0} (z : B) (whole : Played R H B A) (done : List R) (cut : R) (left : B)
    → IsHalt whole done cut left → halt z whole (suc (length done)) ≡ (done ++ cut ∷ [], left)
halt_at {R} {B} z whole done cut left h =
    let few : suc (length done) ≡ suc (length (h.before)) = ap suc (ap length h.are ∙ bare-length (h.before)) in
    let taken : take (suc (length done)) (whole.records) ≡ h.before ++ (cut, left) ∷ [] =
    ap (λ n. take n (whole.records)) few
    ∙ ap (take (suc (length (h.before)))) h.parts
    ∙ take-cut (h.before) (cut, left) (h.later) in
    ap (λ (l : List (R × B)). (bare l, last_left z l)) taken
    ∙ ap (λ (y : B). (bare (h.before ++ (cut, left) ∷ []), y)) (last_left-append z left cut (h.before))
    ∙ ap (λ (l : List R). (l, left)) (bare-append (h.before) ((cut, left) ∷ []) ∙ ap (λ l. l ++ cut ∷ []) (sym h.are))
