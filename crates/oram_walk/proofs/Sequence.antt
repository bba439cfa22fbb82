-- One plan of a front end after another.
use Rattle.std.proofs.Common.{Result}
use Rattle.asc_base.specs.declared.stop.Stop.{Stop}
use Rattle.request_plan.specs.Plan.{Ends, Stops}
use Rattle.request_plan.proofs.Chains.{Ends-bind, Stops-bind, Stops-bind-next}
use Rattle.oram_walk.specs.Front.{FrontState}
use Rattle.oram_walk.specs.Plans.{FrontPlan, on}
use Rattle.oram_walk.specs.Request.{Request}
use Rattle.oram_walk.specs.declared.slots.Seen.{Seen}

module _ {S : Type 0} (step : S → Request → Result Seen Stop → S → Type 0) where
  pub ends_on : {A B : Type 0} (plan : FrontPlan A) (next : FrontState → A → FrontPlan B)
      (s m t : S) (now : FrontState) (a : A) (d : FrontState × B)
      → Ends step plan s m (now, a) → Ends step (next now a) m t d → Ends step (on plan next) s t d
  ends_on plan next s m t now a d =
      Ends-bind step (λ (state : FrontState). state) plan (λ (x, y). next x y) s m t (now, a) d

  pub stops_on : {A B : Type 0} (plan : FrontPlan A) (next : FrontState → A → FrontPlan B)
      (s t : S) (stop : Stop) (left : FrontState)
      → Stops step plan s t stop left → Stops step (on plan next) s t stop left
  stops_on plan next s t stop left =
      Stops-bind step (λ (state : FrontState). state) plan (λ (x, y). next x y) s t stop left

  pub stops_on_next : {A B : Type 0} (plan : FrontPlan A) (next : FrontState → A → FrontPlan B)
      (s m t : S) (now : FrontState) (a : A) (stop : Stop) (left : FrontState)
      → Ends step plan s m (now, a) → Stops step (next now a) m t stop left → Stops step (on plan next) s t stop left
  stops_on_next plan next s m t now a stop left =
      Stops-bind-next step (λ (state : FrontState). state) plan (λ (x, y). next x y) s m t (now, a) stop left
