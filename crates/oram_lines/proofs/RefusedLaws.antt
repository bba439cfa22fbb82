-- Runs that are stopped, where it is known which request was refused, and at which port: that for room too.
use Rattle.std.proofs.Common.{◌≡◌, ◌⊎◌, inl, inr, ℕ, Err, refl, ap}
use Rattle.request_plan.specs.Plan.{Plan, Done, Ask, Ends, Stops}
use Rattle.asc_base.specs.declared.stop.Stop.{Stop}
use Rattle.asc_base.specs.declared.stop.Stop.TheVariants.{NoMemory}
use Rattle.oram_contents.specs.Entries.{Keys}
use Rattle.oram_frontend.specs.Access.{SlotStep}
use Rattle.oram_walk.specs.Request.{Request, Slot, Append, Answer, Room, Steps}
use Rattle.oram_walk.specs.declared.slots.Seen.{Seen}
use Rattle.rate_enforcer.specs.PortStep.{PortState}
use Rattle.oram_lines.specs.Noted.{Answers, NotedState, NotedStep, StopsAt, RefusesAt}
use Rattle.oram_lines.proofs.NotedLaws.{at, step_noted, step_from, step_bare}

module _ (keys : Keys) (levels : ℕ) where
  -- what ended before the refusal
  pub ends_before : (mid : PortState) (last : Request) {B A : Type 0} (plan : Plan Request Seen B A) (s t : NotedState)
      (x : A) → Ends (RefusesAt keys levels mid last) plan s t x → Ends (Steps (NotedStep keys levels)) plan s t x
  ends_before mid last (Done a) s t x ends = ends
  ends_before mid last (Ask q b k) s t x (seen, m, one, rest) =
      (seen, m, one, ends_before mid last (k seen) m t x rest)

  refusal_bare : (s t : NotedState) (request : Request) (stop : Stop)
      → Steps (NotedStep keys levels) s request (Err stop) t
      → Steps (SlotStep keys levels) s.port request (Err stop) t.port
  refusal_bare s t (Slot access) stop one = one.0
  refusal_bare s t (Append message) stop one = one.0
  refusal_bare s t (Answer line value) stop one = one.0
  refusal_bare s t Room stop one = (one.0, ap (λ (y : NotedState). y.port) one.1)

  -- the same run where nothing is noted
  pub refused_bare : (mid : PortState) (last : Request) {B A : Type 0} (plan : Plan Request Seen B A)
      (s t : NotedState) (stop : Stop) (left : B) → Stops (RefusesAt keys levels mid last) plan s t stop left
      → Stops (Steps (SlotStep keys levels)) plan s.port t.port stop left
  refused_bare mid last (Done a) s t stop left stops = absurd stops
  refused_bare mid last (Ask q b k) s t stop left (inl (one, is)) = inl (refusal_bare s t q stop one.0, is)
  refused_bare mid last (Ask q b k) s t stop left (inr (seen, m, one, rest)) =
      inr (seen, m.port, step_bare keys levels s m q seen one, refused_bare mid last (k seen) m t stop left rest)

  refusal_noted : (s t : PortState) (before : Answers) (request : Request) (stop : Stop)
      → Steps (SlotStep keys levels) s request (Err stop) t
      → Steps (NotedStep keys levels) (at keys levels s before) request (Err stop) (at keys levels t before)
  refusal_noted s t before (Slot access) stop one = (one, refl)
  refusal_noted s t before (Append message) stop one = (one, refl)
  refusal_noted s t before (Answer line value) stop one = (one, refl)
  refusal_noted s t before Room stop one = (one.0, ap (λ (y : PortState). at keys levels y before) one.1)

  -- each run that is stopped is one
  pub refused_noted : {B A : Type 0} (plan : Plan Request Seen B A) (s t : PortState) (before : Answers) (stop : Stop)
      (left : B) → Stops (Steps (SlotStep keys levels)) plan s t stop left
      → (answers : Answers) × (mid : PortState) × (last : Request)
      × Stops (RefusesAt keys levels mid last) plan (at keys levels s before) (at keys levels t answers) stop left
  refused_noted (Done a) s t before stop left stops = absurd stops
  refused_noted (Ask q b k) s t before stop left (inl (one, is)) =
      (before, s, q, inl ((refusal_noted s t before q stop one, refl, refl), is))
  refused_noted (Ask q b k) s t before stop left (inr (seen, m, one, rest)) =
      let (middle, first) = step_noted keys levels s m before q seen one in
      let (answers, mid, last, later) = refused_noted (k seen) m t middle stop left rest in
      (answers, mid, last, inr (seen, at keys levels m middle, first, later))

  -- Where a run stops at a request of the slots, it is that one which was refused; else it was for want of memory.
  abbrev RefusedIn : {B A : Type 0} → Plan Request Seen B A → NotedState → NotedState → Stop → B → PortState → Request
      → Type 0
  RefusedIn plan s t stop left mid last = (from : PortState) × (there : Request)
      × Stops (RefusesAt keys levels from there) plan s t stop left
      × (((from ≡ mid) × (there ≡ last)) ⊎ (stop ≡ NoMemory))

  here : {B A : Type 0} (mid : PortState) (last q : Request) (b : B) (k : Seen → Plan Request Seen B A)
      (s t : NotedState) (stop : Stop) (left : B) → Steps (StopsAt keys levels mid last) s q (Err stop) t → left ≡ b
      → RefusedIn (Ask q b k) s t stop left mid last
  here mid last (Slot access) b k s t stop left one is =
      (s.port, Slot access, inl ((one.0, refl, refl), is), inl (one.1, one.2))
  here mid last (Append message) b k s t stop left one is =
      (s.port, Append message, inl ((one.0, refl, refl), is), inl (one.1, one.2))
  here mid last (Answer line value) b k s t stop left one is =
      (s.port, Answer line value, inl ((one.0, refl, refl), is), inl (one.1, one.2))
  here mid last Room b k s t stop left one is = (s.port, Room, inl ((one, refl, refl), is), inr one.0)

  pub refused_at : (mid : PortState) (last : Request) {B A : Type 0} (plan : Plan Request Seen B A) (s t : NotedState)
      (stop : Stop) (left : B) → Stops (Steps (StopsAt keys levels mid last)) plan s t stop left
      → RefusedIn plan s t stop left mid last
  refused_at mid last (Done a) s t stop left stops = absurd stops
  refused_at mid last (Ask q b k) s t stop left (inl (one, is)) = here mid last q b k s t stop left one is
  refused_at mid last (Ask q b k) s t stop left (inr (seen, m, one, rest)) =
      let (from, there, later, which) = refused_at mid last (k seen) m t stop left rest in
      (from, there, inr (seen, m, step_from keys levels mid last s m q seen one, later), which)
