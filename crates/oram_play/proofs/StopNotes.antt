-- The answers before a stop in a run of a plan, which can be noted.
use Rattle.std.proofs.Common.{◌++◌, ℕ, [], ◌∷◌, refl, ap, ◌∙◌, subst, append-nil, append_assoc, inl, inr}
use Rattle.request_plan.specs.Plan.{Done, Ask, Stops}
use Rattle.asc_base.specs.declared.stop.Stop.{Stop}
use Rattle.oram_contents.specs.Entries.{Keys}
use Rattle.oram_frontend.specs.Access.{SlotStep}
use Rattle.oram_lines.specs.Noted.{Answers, NotedState, StopsAt}
use Rattle.oram_walk.specs.Front.{FrontState}
use Rattle.oram_walk.specs.Plans.{FrontPlan}
use Rattle.oram_walk.specs.Request.{Request, Slot, Append, Answer, Room, Steps}
use Rattle.rate_enforcer.specs.PortStep.{PortState}

module _ (keys : Keys) (levels : ℕ) where
  -- what was answered up to the stop
  abbrev pub answers_before : {A : Type 0} (plan : FrontPlan A) (s t : PortState) (stop : Stop) (left : FrontState)
      → Stops (Steps (SlotStep keys levels)) plan s t stop left → Answers
  answers_before (Done a) s t stop left stops = []
  answers_before (Ask (Slot access) b k) s t stop left (inl one) = []
  answers_before (Ask (Slot access) b k) s t stop left (inr (x, mid, one, rest)) =
      (Slot access, x) ∷ answers_before (k x) mid t stop left rest
  answers_before (Ask (Append message) b k) s t stop left (inl one) = []
  answers_before (Ask (Append message) b k) s t stop left (inr (x, mid, one, rest)) =
      (Append message, x) ∷ answers_before (k x) mid t stop left rest
  answers_before (Ask (Answer line value) b k) s t stop left (inl one) = []
  answers_before (Ask (Answer line value) b k) s t stop left (inr (x, mid, one, rest)) =
      (Answer line value, x) ∷ answers_before (k x) mid t stop left rest
  answers_before (Ask Room b k) s t stop left (inl one) = []
  answers_before (Ask Room b k) s t stop left (inr (x, mid, one, rest)) = answers_before (k x) mid t stop left rest

  -- the port and the request at which it stopped
  abbrev pub port_before : {A : Type 0} (plan : FrontPlan A) (s t : PortState) (stop : Stop) (left : FrontState)
      → Stops (Steps (SlotStep keys levels)) plan s t stop left → PortState
  port_before (Done a) s t stop left stops = s
  port_before (Ask q b k) s t stop left (inl one) = s
  port_before (Ask q b k) s t stop left (inr (x, mid, one, rest)) = port_before (k x) mid t stop left rest

  abbrev pub request_before : {A : Type 0} (plan : FrontPlan A) (s t : PortState) (stop : Stop) (left : FrontState)
      → Stops (Steps (SlotStep keys levels)) plan s t stop left → Request
  request_before (Done a) s t stop left stops = Room
  request_before (Ask q b k) s t stop left (inl one) = q
  request_before (Ask q b k) s t stop left (inr (x, mid, one, rest)) = request_before (k x) mid t stop left rest

  abbrev at : PortState → Answers → NotedState
  at s answers = record { port = s; answers = answers }

  -- it is a run in which they are noted, up to there
  pub noted_before : {A : Type 0} (plan : FrontPlan A) (s t : PortState) (before : Answers) (stop : Stop)
      (left : FrontState) → (stops : Stops (Steps (SlotStep keys levels)) plan s t stop left)
      → Stops (Steps (StopsAt keys levels (port_before plan s t stop left stops)
      (request_before plan s t stop left stops))) plan (at s before)
      (at t (before ++ answers_before plan s t stop left stops)) stop left
  noted_before (Done a) s t before stop left stops = absurd stops
  noted_before (Ask (Slot access) b k) s t before stop left (inl one) =
      inl (((one.0, append-nil before), refl, refl), one.1)
  noted_before (Ask (Slot access) b k) s t before stop left (inr (x, mid, one, rest)) =
      let more = answers_before (k x) mid t stop left rest in
      let now : Answers = before ++ (Slot access, x) ∷ [] in
      inr (
        x,
        at mid now,
        (one, refl),
        subst (λ l. Stops (Steps (StopsAt keys levels (port_before (k x) mid t stop left rest)
            (request_before (k x) mid t stop left rest))) (k x) (at mid now) (at t l) stop left)
            (append_assoc before ((Slot access, x) ∷ []) more) (noted_before (k x) mid t now stop left rest),
      )
  noted_before (Ask (Append message) b k) s t before stop left (inl one) =
      inl (((one.0, append-nil before), refl, refl), one.1)
  noted_before (Ask (Append message) b k) s t before stop left (inr (x, mid, one, rest)) =
      let more = answers_before (k x) mid t stop left rest in
      let now : Answers = before ++ (Append message, x) ∷ [] in
      inr (
        x,
        at mid now,
        (one, refl),
        subst (λ l. Stops (Steps (StopsAt keys levels (port_before (k x) mid t stop left rest)
            (request_before (k x) mid t stop left rest))) (k x) (at mid now) (at t l) stop left)
            (append_assoc before ((Append message, x) ∷ []) more) (noted_before (k x) mid t now stop left rest),
      )
  noted_before (Ask (Answer line value) b k) s t before stop left (inl one) =
      inl (((one.0, append-nil before), refl, refl), one.1)
  noted_before (Ask (Answer line value) b k) s t before stop left (inr (x, mid, one, rest)) =
      let more = answers_before (k x) mid t stop left rest in
      let now : Answers = before ++ (Answer line value, x) ∷ [] in
      inr (
        x,
        at mid now,
        (one, refl),
        subst (λ l. Stops (Steps (StopsAt keys levels (port_before (k x) mid t stop left rest)
            (request_before (k x) mid t stop left rest))) (k x) (at mid now) (at t l) stop left)
            (append_assoc before ((Answer line value, x) ∷ []) more) (noted_before (k x) mid t now stop left rest),
      )
  noted_before (Ask Room b k) s t before stop left (inl one) =
      inl (
        (one.0.0, ap (λ l. at t l) (append-nil before) ∙ ap (λ (u : PortState). at u before) one.0.1),
        one.1,
      )
  noted_before (Ask Room b k) s t before stop left (inr (x, mid, one, rest)) =
      inr (
        x,
        at mid before,
        (one.0, ap (λ (u : PortState). at u before) one.1),
        noted_before (k x) mid t before stop left rest,
      )
