-- Plans that ask the same.
use Rattle.std.proofs.Common.{◌≡◌, Result, Ok, Err, refl, sym, subst, inl, inr}
use Rattle.request_plan.specs.Plan.{Plan, Done, Ask, Ends, Stops, bind, through, Asks, Outcomes, Alike}

-- The first parts are related, and the second are the same.
abbrev pub SameBeside : {H H' A : Type 0} → (H → H' → Type 0) → H × A → H' × A → Type 0
SameBeside I r r' = I (r.0) (r'.0) × (r.1 ≡ r'.1)

module _ {S Q X E : Type 0} (step : S → Q → Result X E → S → Type 0)
    (Fine : Q → X → Type 0) (fine : (s t : S) (q : Q) (x : X) → step s q (Ok x) t → Fine q x) where
  -- a chain of one plan is a chain of a plan alike
  pub Alike-ends : {B C A D : Type 0} (Left : B → C → Type 0) (Out : A → D → Type 0)
      (p : Plan Q X B A) (r : Plan Q X C D) (s t : S) (a : A)
      → Alike Fine Left Out p r → Ends step p s t a → (d : D) × Ends step r s t d × Out a d
  Alike-ends Left Out (Done x) (Done y) s t a w h = (y, (refl, h.1), subst (λ z. Out z y) (sym h.0) w)
  Alike-ends {D} Left Out (Ask q b k) (Ask r c l) s t a w h =
      let rest = Alike-ends Left Out (k (h.0)) (l (h.0)) (h.1) t a (w.2 (h.0) (fine s (h.1) q (h.0) (h.2))) (h.3) in
      (rest.0, (h.0, h.1, subst (λ (z : Q). step s z (Ok (h.0)) (h.1)) w.0 (h.2), rest.1), rest.2)
  Alike-ends Left Out (Done x) (Ask r c l) s t a w h = absurd w
  Alike-ends Left Out (Ask q b k) (Done y) s t a w h = absurd w

  -- a stop of one plan is a stop of a plan alike
  pub Alike-stops : {B C A D : Type 0} (Left : B → C → Type 0) (Out : A → D → Type 0)
      (p : Plan Q X B A) (r : Plan Q X C D) (s t : S) (e : E) (b : B)
      → Alike Fine Left Out p r → Stops step p s t e b → (c : C) × Stops step r s t e c × Left b c
  Alike-stops Left Out (Done x) r s t e b w h = absurd h
  Alike-stops Left Out (Ask q b' k) (Ask r c l) s t e b w (inl h) =
      (c, inl (subst (λ (z : Q). step s z (Err e) t) w.0 (h.0), refl), subst (λ z. Left z c) (sym h.1) (w.1))
  Alike-stops {C} Left Out (Ask q b' k) (Ask r c l) s t e b w (inr h) =
      let rest = Alike-stops Left Out (k (h.0)) (l (h.0)) (h.1) t e b (w.2 (h.0) (fine s (h.1) q (h.0) (h.2))) (h.3) in
      (rest.0, inr (h.0, h.1, subst (λ (z : Q). step s z (Ok (h.0)) (h.1)) w.0 (h.2), rest.1), rest.2)
  Alike-stops Left Out (Ask q b' k) (Done y) s t e b w h = absurd w

-- each request of both plans has P
pub Asks-bind : {Q X B C A D : Type 0} (P : Q → Type 0) (put : B → C) (p : Plan Q X B A) (next : A → Plan Q X C D)
    → Asks P p → ((a : A) → Asks P (next a)) → Asks P (bind put p next)
Asks-bind P put (Done a) next first each = each a
Asks-bind P put (Ask q b k) next first each = (first.0, λ x. Asks-bind P put (k x) next (first.1 x) each)

-- the same, where the second plan's requests rest on what each outcome of the first has
pub Asks-bind-where : {Q X B C A D : Type 0} (P : Q → Type 0) (Out : A → Type 0) (put : B → C) (p : Plan Q X B A)
    (next : A → Plan Q X C D)
    → Asks P p → Outcomes Out p → ((a : A) → Out a → Asks P (next a)) → Asks P (bind put p next)
Asks-bind-where P Out put (Done a) next first out each = each a out
Asks-bind-where P Out put (Ask q b k) next first out each =
    (first.0, λ x. Asks-bind-where P Out put (k x) next (first.1 x) (out x) each)

-- each request of a layer's plans has P, and so each of a plan through it
pub Asks-through : {H Q X R Y C : Type 0} (P : R → Type 0) (serve : H → Q → Plan R Y C (H × X))
    → ((h : H) (q : Q) → Asks P (serve h q))
    → {B A : Type 0} (p : Plan Q X B A) (h : H) → Asks P (through serve p h)
Asks-through P serve each (Done a) h = tt
Asks-through P serve each (Ask q b k) h =
    Asks-bind P (λ c. (c, b)) (serve h q) _ (each h q) (λ r. Asks-through P serve each (k (r.1)) (r.0))

module _ {Q X : Type 0} (Fine : Q → X → Type 0) where
  -- plans alike, one after another
  pub Alike-bind : {B B' C C' A A' D D' : Type 0}
      (Left : B → B' → Type 0) (Out : A → A' → Type 0) (Left' : C → C' → Type 0) (Out' : D → D' → Type 0)
      (put : B → C) (put' : B' → C') (p : Plan Q X B A) (r : Plan Q X B' A')
      (next : A → Plan Q X C D) (next' : A' → Plan Q X C' D')
      → ((b : B) (b' : B') → Left b b' → Left' (put b) (put' b'))
      → ((a : A) (a' : A') → Out a a' → Alike Fine Left' Out' (next a) (next' a'))
      → Alike Fine Left Out p r → Alike Fine Left' Out' (bind put p next) (bind put' r next')
  Alike-bind Left Out Left' Out' put put' (Done x) (Done y) next next' left out w = out x y w
  Alike-bind Left Out Left' Out' put put' (Ask q b k) (Ask r c l) next next' left out w =
      (w.0, left b c (w.1), λ x f. Alike-bind Left Out Left' Out' put put' (k x) (l x) next next' left out (w.2 x f))
  Alike-bind Left Out Left' Out' put put' (Done x) (Ask r c l) next next' left out w = absurd w
  Alike-bind Left Out Left' Out' put put' (Ask q b k) (Done y) next next' left out w = absurd w

  -- a plan of requests that have May, through two layers that are alike at such requests
  pub Alike-through : {P Y C C' H H' : Type 0} (I : H → H' → Type 0) (L : C → C' → Type 0) (May : P → Type 0)
      (serve : H → P → Plan Q X C (H × Y)) (serve' : H' → P → Plan Q X C' (H' × Y))
      → ((h : H) (h' : H') (q : P) → I h h' → May q → Alike Fine L (SameBeside I) (serve h q) (serve' h' q))
      → {B A : Type 0} (p : Plan P Y B A) → Asks May p → (h : H) (h' : H') → I h h'
      → Alike Fine (SameBeside {A = B} L) (SameBeside {A = A} I) (through serve p h) (through serve' p h')
  Alike-through I L May serve serve' each (Done x) asks h h' i = (i, refl)
  Alike-through {Y} {C} {C'} {H} {H'} I L May serve serve' each {B} {A} (Ask q b k) asks h h' i =
      let Left : C × B → C' × B → Type 0 = SameBeside L in
      let Out : H × A → H' × A → Type 0 = SameBeside I in
      Alike-bind L (SameBeside I) Left Out (λ c. (c, b)) (λ c. (c, b)) (serve h q) (serve' h' q) _ _
      (λ c c' l. (l, refl))
      (λ r r' o. subst
      (λ y. Alike Fine Left Out (through serve (k (r.1)) (r.0)) (through serve' (k y) (r'.0))) o.1
      (Alike-through I L May serve serve' each (k (r.1)) (asks.1 (r.1)) (r.0) (r'.0) (o.0)))
      (each h h' q i (asks.0))
