-- Chains whose states tell what is served from.
use Rattle.std.proofs.Common.{◌≡◌, Result, Option, Some, sym, ap, ◌∙◌}
use Rattle.request_plan.specs.Plan.{Plan, Done, Ask, Ends}
use Rattle.request_plan.specs.Play.{served}
use Rattle.request_plan.specs.Laws.{Tells}

module _ {S Q X E H : Type 0} (step : S → Q → Result X E → S → Type 0) (told : S → Option H) (serve : H → Q → X × H)
    (tells : Tells step told serve) where
  -- where a chain's end is told, its start was told, and its plan is served from there to the end
  pub Ends-told : {B A : Type 0} (p : Plan Q X B A) (s t : S) (a : A) → Ends step p s t a
      → (h' : H) → told t ≡ Some h' → (h : H) × (told s ≡ Some h) × (served serve p h ≡ (a, h'))
  Ends-told {A} (Done x) s t a h h' e =
      (h', ap told (sym h.1) ∙ e, (let same : a ≡ x = h.0 in ap (λ (z : A). (z, h')) (sym same)))
  Ends-told (Ask q b k) s t a h h' e =
      let rest = Ends-told (k (h.0)) (h.1) t a (h.3) h' e in
      let first = tells s (h.1) q (h.0) (h.2) (rest.0) (rest.1) in
      (first.0, first.1, ap (λ (r : X × H). served serve (k (r.0)) (r.1)) first.2 ∙ rest.2)
