-- What is held after a request: what is held after its walk, by the requests alone.
use Rattle.std.proofs.Common.{◌≡◌, ℕ, List, Result, refl, ◌∙◌}
use Rattle.request_plan.specs.Plan.{Ends, Outcomes, Ask, Done}
use Rattle.request_plan.proofs.Keeps.{Ends-has, Outcomes-bind}
use Rattle.asc_base.specs.declared.block.Line.{Line}
use Rattle.asc_base.specs.declared.stop.Stop.{Stop}
use Rattle.posmap_lookaside.specs.Held.{addresses_of}
use Rattle.posmap_lookaside.specs.Walk.{held_after}
use Rattle.oram_walk.specs.Front.{FrontState, IsAfter, sizes_of}
use Rattle.oram_walk.specs.Plans.{request_plan, fetch_plan, store_plan}
use Rattle.oram_walk.specs.Request.{Request, Answer}
use Rattle.oram_walk.specs.declared.slots.Purpose.{Purpose}
use Rattle.oram_walk.specs.declared.slots.Purpose.TheVariants.{Keep, Replace}
use Rattle.oram_walk.specs.declared.slots.Seen.{Seen}
use Rattle.oram_walk.proofs.Held.{walk_held, Holds, Outcomes-all, request_plan-holds}
use Rattle.oram_walk.proofs.WalkLists.{walk_climbs}

-- after a request
pub request_after : (state : FrontState) (asked line : ℕ) (purpose : Purpose)
    → Outcomes (λ (r : FrontState × Seen). IsAfter state line (r.0))
    (request_plan state asked (record { 0 = line }) purpose)
request_after state asked line purpose =
    Outcomes-all (λ (r : FrontState × Seen). Holds state list (r.0)) (λ r. IsAfter state line (r.0))
    (λ r h. record { shape = h.shape; ic = h.ic; plb = h.plb; held = h.held ∙ climbs })
    (request_plan state asked (record { 0 = line }) purpose)
    (request_plan-holds state asked (record { 0 = line }) purpose)
  where
    list : List ℕ
    list = walk_held state.shape state.plb state.shape.layers (addresses_of state.held) (record { 0 = line })

    climbs : list ≡ held_after (sizes_of state) (addresses_of state.held) line
    climbs = walk_climbs state.shape (sizes_of state) refl refl state.plb state.shape.layers
        (addresses_of state.held) line

-- after a fetch, and after a store
pub fetch_after : (state : FrontState) (asked line : ℕ)
    → Outcomes (λ (r : FrontState × Seen). IsAfter state line (r.0)) (fetch_plan state asked line)
fetch_after state asked line =
    Outcomes-bind (λ (r : FrontState × Seen). IsAfter state line (r.0))
    (λ (r : FrontState × Seen). IsAfter state line (r.0)) (λ (now : FrontState). now)
    (request_plan state asked (record { 0 = line }) Keep)
    (λ (now, seen). Ask (Answer line seen.line) now (λ _. Done (now, seen)))
    (request_after state asked line Keep) (λ r after answer. after)

pub store_after : (state : FrontState) (asked line : ℕ) (value : Line)
    → Outcomes (λ (r : FrontState × ℕ). IsAfter state line (r.0)) (store_plan state asked line value)
store_after state asked line value =
    Outcomes-bind (λ (r : FrontState × Seen). IsAfter state line (r.0))
    (λ (r : FrontState × ℕ). IsAfter state line (r.0)) (λ (now : FrontState). now)
    (request_plan state asked (record { 0 = line }) (Replace value)) (λ (now, seen). Done (now, seen.end))
    (request_after state asked line (Replace value)) (λ r after. after)

-- after a chain of a request
pub request_held : {S : Type 0} (step : S → Request → Result Seen Stop → S → Type 0) (state now : FrontState)
    (asked line : ℕ) (purpose : Purpose) (seen : Seen) (s t : S)
    → Ends step (request_plan state asked (record { 0 = line }) purpose) s t (now, seen) → IsAfter state line now
request_held step state now asked line purpose seen s t ends =
    Ends-has step (λ (r : FrontState × Seen). IsAfter state line (r.0))
    (request_plan state asked (record { 0 = line }) purpose) (request_after state asked line purpose) s t
    (now, seen) ends
