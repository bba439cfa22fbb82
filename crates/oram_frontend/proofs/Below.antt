-- A chain of steps of slots as a chain of the steps below them, and what it keeps.
use Rattle.std.proofs.Common.{Result, Ok, Err, MatchResult, OnOk, inl, inr, sym, ap, subst}
use Rattle.request_plan.specs.Plan.{Plan, Done, Ask, Ends, Stops}
use Rattle.asc_base.specs.declared.stop.Stop.{Stop}
use Rattle.oram_walk.specs.Request.{Request, Slot, Append, Answer, Room, Steps}
use Rattle.oram_walk.specs.declared.slots.Seen.{Seen}

-- one fact more on either answer
pub both_with : {A E X : Type 0} (P : A → Type 0) (Q : E → Type 0) (result : Result A E)
    → MatchResult result P Q → X → MatchResult result (λ a. P a × X) (λ e. Q e × X)
both_with P Q (Ok a) h x = (h, x)
both_with P Q (Err e) h x = (h, x)

-- and from facts on an Ok
pub ok_with : {A E X Y Z : Type 0} (result : Result A E) → OnOk result X → OnOk result Y → (X → Y → Z) → OnOk result Z
ok_with (Ok a) x y both = both x y
ok_with (Err e) x y both = tt

module _ {T S : Type 0} (step : T → Request → Result Seen Stop → T → Type 0)
    (lower : S → Request → Result Seen Stop → S → Type 0) (below : T → S) (Holds : T → Type 0)
    (each : (s t : T) (q : Request) (a : Result Seen Stop) → Holds s → step s q a t
    → lower (below s) q a (below t) × Holds t) where
  one_below : (s t : T) (q : Request) (a : Result Seen Stop) → Holds s → Steps step s q a t
      → Steps lower (below s) q a (below t) × Holds t
  one_below s t (Slot access) a h one = each s t (Slot access) a h one
  one_below s t (Append message) a h one = each s t (Append message) a h one
  one_below s t (Answer line value) a h one = each s t (Answer line value) a h one
  one_below s t Room (Ok seen) h one = ((one.0, ap below one.1), subst Holds (sym one.1) h)
  one_below s t Room (Err stop) h one = ((one.0, ap below one.1), subst Holds (sym one.1) h)

  pub ends_below : {B A : Type 0} (plan : Plan Request Seen B A) (s t : T) (outcome : A) → Holds s
      → Ends (Steps step) plan s t outcome → Ends (Steps lower) plan (below s) (below t) outcome × Holds t
  ends_below (Done a) s t outcome h ends = ((ends.0, ap below ends.1), subst Holds (sym ends.1) h)
  ends_below (Ask q b k) s t outcome h ends =
      let (x, mid, one, rest) = ends in
      let (first, holds) = one_below s mid q (Ok x) h one in
      let (later, still) = ends_below (k x) mid t outcome holds rest in
      ((x, below mid, first, later), still)

  pub stops_below : {B A : Type 0} (plan : Plan Request Seen B A) (s t : T) (stop : Stop) (left : B) → Holds s
      → Stops (Steps step) plan s t stop left → Stops (Steps lower) plan (below s) (below t) stop left × Holds t
  stops_below (Done a) s t stop left h stops = absurd stops
  stops_below (Ask q b k) s t stop left h (inl one) =
      let (first, holds) = one_below s t q (Err stop) h one.0 in (inl (first, one.1), holds)
  stops_below (Ask q b k) s t stop left h (inr later) =
      let (x, mid, one, rest) = later in
      let (first, holds) = one_below s mid q (Ok x) h one in
      let (last, still) = stops_below (k x) mid t stop left holds rest in
      (inr (x, below mid, first, last), still)
