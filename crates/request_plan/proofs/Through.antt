-- A layer T whose every step is a chain of steps of what is below it: its chains are chains of what is below.
use Rattle.std.proofs.Common.{◌⊎◌, Result, Err, refl, sym, ap, subst, inl, inr}
use Rattle.request_plan.specs.Plan.{Plan, Done, Ask, Ends, Stops, through, Reply, Refuses, Gives, Refused, Ended}
use Rattle.request_plan.specs.Plan.{caught, ComesTo}
use Rattle.request_plan.specs.Laws.{EndsBelow, StopsBelow, GivesBelow, RefusesBelow}
use Rattle.request_plan.proofs.Chains.{Ends-bind, Stops-bind, Stops-bind-next}

-- a layer that answers every request, or is stopped where what is below it is
module _ {S Q X P Y E T H C : Type 0}
    (step : S → P → Result Y E → S → Type 0)
    (upper : T → Q → Result X E → T → Type 0)
    (below : T → S) (held : T → H)
    (serve : H → Q → Plan P Y C (H × X))
    (ends : EndsBelow step upper below held serve) where
  -- a chain of the layer
  pub Ends-through : {B A : Type 0} (p : Plan Q X B A) (s t : T) (a : A)
      → Ends upper p s t a → Ends step (through serve p (held s)) (below s) (below t) (held t, a)
  Ends-through (Done x) s t a h = (cc, ap below h.1)
  Ends-through (Ask q b k) s t a h =
      Ends-bind step _ (serve (held s) q) _ (below s) (below (h.1)) (below t) (held (h.1), h.0) _
      (ends s (h.1) q (h.0) (h.2)) (Ends-through (k (h.0)) (h.1) t a (h.3))

  -- a stop of the layer
  pub Stops-through : (left : T → C) → StopsBelow step upper below held left serve
      → {B A : Type 0} (p : Plan Q X B A) (s t : T) (e : E) (b : B)
      → Stops upper p s t e b → Stops step (through serve p (held s)) (below s) (below t) e (left t, b)
  Stops-through left stops (Done x) s t e b h = absurd h
  Stops-through left stops (Ask q c k) s t e b (inl h) =
      subst (λ y. Stops step (through serve (Ask q c k) (held s)) (below s) (below t) e (left t, y)) (sym h.1)
      (Stops-bind step _ (serve (held s) q) _ (below s) (below t) e (left t) (stops s t q e (h.0)))
  Stops-through left stops (Ask q c k) s t e b (inr h) =
      Stops-bind-next step _ (serve (held s) q) _ (below s) (below (h.1)) (below t) (held (h.1), h.0) e _
      (ends s (h.1) q (h.0) (h.2)) (Stops-through left stops (k (h.0)) (h.1) t e b (h.3))

-- a layer that may also refuse a request: where it answers with a stop, that is a refusal of its plan, or a stop below
module _ {S Q X P Y E F T H C L : Type 0}
    (step : S → P → Result Y F → S → Type 0)
    (upper : T → Q → Result X E → T → Type 0)
    (below : T → S) (held : T → H)
    (serve : H → Q → Plan P Y C (Reply L H X))
    (ends : GivesBelow step upper below held serve) where
  -- a chain of the layer
  pub Ends-caught : {B A : Type 0} (p : Plan Q X B A) (s t : T) (a : A)
      → Ends upper p s t a → Ends step (caught serve p (held s)) (below s) (below t) (Ended (held t) a)
  Ends-caught (Done x) s t a h = (cc, ap below h.1)
  Ends-caught (Ask q b k) s t a h =
      Ends-bind step _ (serve (held s) q) _ (below s) (below (h.1)) (below t) (Gives (held (h.1)) (h.0)) _
      (ends s (h.1) q (h.0) (h.2)) (Ends-caught (k (h.0)) (h.1) t a (h.3))

  -- a stop of the layer that is a refusal
  pub Stops-refused : (t : T) (e : E) (l : L)
      → ((s : T) (q : Q) → upper s q (Err e) t → Ends step (serve (held s) q) (below s) (below t) (Refuses l))
      → {B A : Type 0} (p : Plan Q X B A) (s : T) (b : B)
      → Stops upper p s t e b → Ends step (caught serve p (held s)) (below s) (below t) (Refused l b)
  Stops-refused t e l each (Done x) s b h = absurd h
  Stops-refused t e l each (Ask q c k) s b (inl h) =
      subst (λ y. Ends step (caught serve (Ask q c k) (held s)) (below s) (below t) (Refused l y)) (sym h.1)
      (Ends-bind step _ (serve (held s) q) _ (below s) (below t) (below t) (Refuses l) _ (each s q (h.0)) (refl, refl))
  Stops-refused t e l each (Ask q c k) s b (inr h) =
      Ends-bind step _ (serve (held s) q) _ (below s) (below (h.1)) (below t) (Gives (held (h.1)) (h.0)) _
      (ends s (h.1) q (h.0) (h.2)) (Stops-refused t e l each (k (h.0)) (h.1) b (h.3))

  -- a stop of the layer that is a stop below
  pub Stops-caught : (left : T → C) (e : E) (f : F)
      → ((s t : T) (q : Q) → upper s q (Err e) t → Stops step (serve (held s) q) (below s) (below t) f (left t))
      → {B A : Type 0} (p : Plan Q X B A) (s t : T) (b : B)
      → Stops upper p s t e b → Stops step (caught serve p (held s)) (below s) (below t) f (left t, b)
  Stops-caught left e f each (Done x) s t b h = absurd h
  Stops-caught left e f each (Ask q c k) s t b (inl h) =
      subst (λ y. Stops step (caught serve (Ask q c k) (held s)) (below s) (below t) f (left t, y)) (sym h.1)
      (Stops-bind step _ (serve (held s) q) _ (below s) (below t) f (left t) (each s t q (h.0)))
  Stops-caught left e f each (Ask q c k) s t b (inr h) =
      Stops-bind-next step _ (serve (held s) q) _ (below s) (below (h.1)) (below t) (Gives (held (h.1)) (h.0)) f _
      (ends s (h.1) q (h.0) (h.2)) (Stops-caught left e f each (k (h.0)) (h.1) t b (h.3))

  -- a stop of the layer is a refusal, or a stop below
  pub Stops-either : (left : T → C) (refusal : E → L) (cause : E → F)
      → RefusesBelow step upper below held left refusal cause serve
      → {B A : Type 0} (p : Plan Q X B A) (s t : T) (e : E) (b : B) → Stops upper p s t e b
      → Ends step (caught serve p (held s)) (below s) (below t) (Refused (refusal e) b)
      ⊎ Stops step (caught serve p (held s)) (below s) (below t) (cause e) (left t, b)
  Stops-either left refusal cause each (Done x) s t e b h = absurd h
  Stops-either left refusal cause each (Ask q c k) s t e b (inl h) =
      elim (each s t q e (h.0)) [
        | inl refused ↦ inl (
            subst (λ y. Ends step (caught serve (Ask q c k) (held s)) (below s) (below t) (Refused (refusal e) y))
            (sym h.1)
            (Ends-bind step _ (serve (held s) q) _ (below s) (below t) (below t) (Refuses (refusal e)) _ refused
            (refl, refl))
            )
        | inr stopped ↦ inr (
            subst (λ y. Stops step (caught serve (Ask q c k) (held s)) (below s) (below t) (cause e) (left t, y))
            (sym h.1)
            (Stops-bind step _ (serve (held s) q) _ (below s) (below t) (cause e) (left t) stopped)
            )
      ]
  Stops-either left refusal cause each (Ask q c k) s t e b (inr h) =
      elim (Stops-either left refusal cause each (k (h.0)) (h.1) t e b (h.3)) [
        | inl refused ↦ inl (
            Ends-bind step _ (serve (held s) q) _ (below s) (below (h.1)) (below t) (Gives (held (h.1)) (h.0)) _
            (ends s (h.1) q (h.0) (h.2)) refused
            )
        | inr stopped ↦ inr (
            Stops-bind-next step _ (serve (held s) q) _ (below s) (below (h.1)) (below t) (Gives (held (h.1)) (h.0))
            (cause e) _
            (ends s (h.1) q (h.0) (h.2)) stopped
            )
      ]

-- A layer that is defined by its plans: each request comes to what its plan comes to.
module _ {S Q X P Y E : Type 0} (step : S → P → Result Y E → S → Type 0)
    (serve : Q → Plan P Y (Unit {0}) (Reply E (Unit {0}) X)) where
  -- its steps
  abbrev pub Comes : S → Q → Result X E → S → Type 0
  Comes old q answer new = ComesTo step (serve q) old answer new

  -- the layer as one that holds nothing
  abbrev pub serve_held : Unit {0} → Q → Plan P Y (Unit {0}) (Reply E (Unit {0}) X)
  serve_held held q = serve q

  -- what a chain of it ends with, the plan through it ends with below
  pub chain_below : {B A : Type 0} (p : Plan Q X B A) (s t : S) (a : A) → Ends Comes p s t a
      → Ends step (caught serve_held p tt) s t (Ended tt a)
  chain_below p s t a ends =
      Ends-caught step Comes (λ x. x) (λ _. tt) serve_held (λ s t q x h. h) p s t a ends

  -- a stop of it is a refusal of that plan, or a stop of it
  pub stop_below : {B A : Type 0} (p : Plan Q X B A) (s t : S) (e : E) (b : B) → Stops Comes p s t e b
      → Ends step (caught serve_held p tt) s t (Refused e b) ⊎ Stops step (caught serve_held p tt) s t e (tt, b)
  stop_below p s t e b stops =
      Stops-either step Comes (λ x. x) (λ _. tt) serve_held (λ s t q x h. h) (λ _. tt) (λ e. e) (λ e. e)
      (λ s t q e h. h) p s t e b stops
