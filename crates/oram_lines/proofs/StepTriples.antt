-- What a walk's plans come to, each from a state that stands for counters and lines: to one that does, or a forgery.
use Rattle.std.proofs.Common.{◌≡◌, ◌<◌, ◌≤◌, ◌+◌, ◌^◌, ◌⊎◌, inl, inr, ℕ, Option, None, Some}
use Rattle.std.proofs.Common.{count_by, refl, sym, ap, ◌∙◌, subst, arith}
use Rattle.request_plan.specs.Plan.{Ends}
use Rattle.request_plan.proofs.Chains.{Ends-unbind}
use Rattle.asc_base.specs.Has.{Has}
use Rattle.asc_base.specs.TreeShape.{parent_of}
use Rattle.asc_base.specs.declared.block.Address.{Address}
use Rattle.asc_base.specs.declared.block.Line.{Line}
use Rattle.bus_watch.specs.Log.{LogLists}
use Rattle.oram_contents.specs.Contents.{Contents}
use Rattle.oram_contents.specs.Counts.{Ghost, line_at, put_at}
use Rattle.oram_contents.specs.Decided.{draws}
use Rattle.oram_contents.specs.Entries.{Keys, AreKeys, real}
use Rattle.oram_contents.specs.Forgery.{Forgery}
use Rattle.oram_contents.specs.Groups.{AreSmall}
use Rattle.oram_contents.specs.Provenance.{Sound}
use Rattle.oram_contents.specs.Slots.{MayRise, done, refilled}
use Rattle.oram_contents.proofs.InsertSteps.{pend_sound}
use Rattle.asc_base.specs.Shape.{parent_in}
use Rattle.oram_walk.specs.Front.{FrontState, counter_in, stepped, stepped_by, stepped_under, group_at, full_parent}
use Rattle.posmap_counters.specs.Group.{GroupState}
use Rattle.oram_walk.specs.Plans.{FrontPlan, on, step_plan}
use Rattle.oram_walk.specs.Request.{Steps}
use Rattle.oram_walk.specs.declared.slots.Access.{Access}
use Rattle.oram_walk.specs.declared.slots.Purpose.{Purpose}
use Rattle.oram_walk.specs.declared.slots.Purpose.TheVariants.{Refill, Keep, Replace}
use Rattle.oram_walk.specs.declared.slots.Seen.{Seen}
use Rattle.rate_enforcer.specs.PortStep.{PortState, Resting, contents}
use Rattle.asc_base.proofs.ShapeFacts.{shape_layered}
use Rattle.epoch_learner.proofs.StandLaws.{stands_apart}
use Rattle.oram_frontend.proofs.SlotLaws.{served_slot}
use Rattle.oram_frontend.specs.Slots.{IsServedSlot, Keeps}
use Rattle.oram_lines.specs.Standing.{IsKnown, Undrawn, IsShown, StandsFor, IsCalm, FitsPurpose, after_access, later}
use Rattle.oram_lines.specs.Noted.{NotedState, NotedStep}
use Rattle.oram_lines.specs.Shown.{ParentFirst}
use Rattle.oram_lines.proofs.GrowLaws.{forgery_walk}
use Rattle.oram_lines.proofs.KnownLaws.{served_right, undrawn}
use Rattle.oram_lines.proofs.NotedLaws.{StandsNoted, ends_bare, slot_noted}
use Rattle.oram_lines.proofs.ShownLaws.{step_shown}

module _ (keys : Keys) (lawful : AreKeys keys) (levels : ℕ) where
  -- the invariant doesn't speak of the step that the chip is ahead
  ahead_sound : (log : LogLists) (g : Ghost) (now : Contents) (ahead : Option ℕ) → Sound keys log g now
      → Sound keys log (record g { stepped = ahead }) now
  ahead_sound log g now ahead s = record {
    fresh = s.fresh;
    last = s.last;
    once = s.once;
    blank = s.blank;
    drawn = s.drawn;
    dummies = s.dummies;
    away = s.away;
    at_hand = s.at_hand;
    in_tree = s.in_tree;
  }

  -- a block waits for its slot
  pub waiting : (g : Ghost) (s : PortState) (a : ℕ) (ahead : Option ℕ) → g.pend ≡ None → IsKnown keys g s
      → IsKnown keys (record g { pend = Some a; stepped = ahead }) s
  waiting g s a ahead free known = record {
    fits = known.fits;
    sound = ahead_sound s.tap.log (record g { pend = Some a }) (contents s) ahead
        (pend_sound keys lawful s.tap.log g (contents s) a free known.sound);
    always = known.always;
    closed = known.closed;
    dummies = known.dummies;
    drawn = known.drawn;
    points = known.points;
    forms = known.forms;
    home = known.home;
    bytes = known.bytes;
  }

  -- after an access of any purpose the counters are these, and nothing else of the chip changed
  pub purposes : (g : Ghost) (access : Access) (purpose : Purpose) (P : Ghost → Type 0)
      → ((h : Ghost) → h.count ≡ put_at g.count access.address.0 access.next → h.held ≡ g.held → h.stepped ≡ None
      → h.pend ≡ None → h.move ≡ g.move → P h) → P (after_access keys.shape g access purpose)
  purposes g access Refill P each = each (refilled g access.address.0 access.next) refl refl refl refl refl
  purposes g access Keep P each =
      each (done g access.address.0 access.next (line_at keys.shape g access.address.0)) refl refl refl refl refl
  purposes g access (Replace value) P each =
      each (done g access.address.0 access.next value.0) refl refl refl refl refl

  -- an access that is served draws a point
  pub draws_more : (g h : Ghost) (access : Access) (seen : Seen) (old new : PortState) → IsKnown keys g old
      → IsServedSlot keys access seen old new → IsKnown keys h new
      → count_by draws old.tap.log.events + 1 ≤ count_by draws new.tap.log.events
  draws_more g h access seen old new before x after =
      omega (arith, before.drawn, after.drawn, x.dummies, x.real)

  -- the port has done few slots
  pub few_draws : (notes : ℕ) (g : Ghost) (s : PortState) → IsKnown keys g s → Resting notes levels s
      → count_by draws s.tap.log.events < 2 ^ 40
  few_draws notes g s known r =
      let is = r.stands.step.follows.is_of.is_config in
      let apart = stands_apart r.stands in
      let small = (shape_layered s.clock.config.shape is.is_shape).levels_to in
      omega (arith, known.drawn, r.dummies, r.real, r.in_time, apart.1, is.time.1, small)

  -- an access of a purpose is the same whether the block waited or not
  pub same_after : (g : Ghost) (k : ℕ) (access : Access) (pend ahead : Option ℕ) (purpose : Purpose)
      → after_access keys.shape (later (record g { pend = pend; stepped = ahead }) k) access purpose
      ≡ after_access keys.shape (later g k) access purpose
  same_after g k access pend ahead Refill = refl
  same_after g k access pend ahead Keep = refl
  same_after g k access pend ahead (Replace value) = refl

  -- a parent on chip is away from hand and tree
  pub parent_away : (g : Ghost) (a p : ℕ) → ParentFirst keys g a
      → parent_of keys.shape.lines keys.shape.layers a ≡ Some p
      → Has p g.held
  parent_away g a p first up = let (rest, is) = first p up in subst (Has p) (sym is) (inl refl)

  -- what is known after an access was served
  module _ (front : FrontState) (g : Ghost) (access : Access) (seen : Seen) (s t : PortState) (notes : ℕ) where
    pub served_stands : (later_front : FrontState) (pend ahead : Option ℕ) (x : IsServedSlot keys access seen s t)
        → IsKnown keys (record g { pend = pend; stepped = ahead }) s → Keeps keys levels (notes + 1) s t
        → ((h : Ghost) → h.count ≡ put_at g.count access.address.0 access.next → h.held ≡ g.held → h.stepped ≡ None
        → h.pend ≡ None → h.move ≡ g.move → IsShown keys later_front h)
        → ((log : LogLists) → count_by draws s.tap.log.events + 1 ≤ count_by draws log.events
        → AreSmall keys.shape later_front.ic log (put_at g.count access.address.0 access.next))
        → IsKnown keys (after_access keys.shape (later (record g { pend = pend; stepped = ahead }) x.passed) access
        access.purpose) t
        → StandsFor keys levels 1 later_front (after_access keys.shape (later g x.passed) access access.purpose) t
    served_stands later_front pend ahead x before keeps shown small after = record {
      known = subst (λ (h : Ghost). IsKnown keys h t) (same_after g x.passed access pend ahead access.purpose) after;
      shown = purposes (later g x.passed) access access.purpose (λ h. IsShown keys later_front h) shown;
      small = purposes (later g x.passed) access access.purpose
          (λ h. AreSmall keys.shape later_front.ic t.tap.log h.count)
          (λ h count held stepped pend move. subst (AreSmall keys.shape later_front.ic t.tap.log) (sym count)
          (small t.tap.log (draws_more _ _ access seen s t before x after)));
      rests = (keeps.rests.0, omega (arith, keeps.rests.1), keeps.rests.2);
    }

  -- a step keeps the bits of own counts
  stepped_ic : (front : FrontState) (a : Address) → (stepped front a).ic ≡ front.ic
  stepped_ic front a = by_parent (parent_in front.shape a)
    where
      by_group : (p : Address) (o : Option GroupState) → (stepped_under front a p o).ic ≡ front.ic
      by_group p None = refl
      by_group p (Some group) = refl

      by_parent : (o : Option Address) → (stepped_by front a o).ic ≡ front.ic
      by_parent None = refl
      by_parent (Some p) = by_group p (group_at front.held p)

-- The same where a request began with the lines of a memory, and each of its answers is noted.
module _ (keys : Keys) (lawful : AreKeys keys) (levels : ℕ) (began : ℕ → Line) where
  -- Wherever a plan ends from a state, this holds, or the log shows a forgery.
  abbrev pub Comes : {A : Type 0} → FrontPlan A → NotedState → (FrontState → A → NotedState → Type 0) → Type 0
  Comes {A} plan s Post = (t : NotedState) (front : FrontState) (x : A)
      → Ends (Steps (NotedStep keys levels)) plan s t (front, x) → Forgery keys t.port.tap.log ⊎ Post front x t

  -- one plan after another
  pub comes_on : {A B : Type 0} (plan : FrontPlan A) (next : FrontState → A → FrontPlan B) (s : NotedState)
      (Mid : FrontState → A → NotedState → Type 0) (Post : FrontState → B → NotedState → Type 0)
      → Comes plan s Mid
      → ((front : FrontState) (x : A) (m : NotedState) → Mid front x m → Comes (next front x) m Post)
      → Comes (on plan next) s Post
  comes_on plan next s Mid Post first later t front y ends =
      let (r, m, one, rest) = Ends-unbind (Steps (NotedStep keys levels)) (λ (state : FrontState). state) plan
      (λ (state, a). next state a) s t (front, y) ends in
      elim (first m r.0 r.1 one) [
        | inl forged ↦ inl (forgery_walk keys levels (next r.0 r.1) m.port t.port (front, y)
            (ends_bare keys levels (next r.0 r.1) m t (front, y) rest) forged)
        | inr mid ↦ later r.0 r.1 m mid t front y rest
      ]

  -- An access that is asked for, whose parent has room for it.
  pub step_comes : (front : FrontState) (g : Ghost) (s : NotedState) (asked : ℕ) (a : Address) (purpose : Purpose)
      → StandsNoted keys levels began 0 front g s → IsCalm g → a.0 < keys.shape.total → ParentFirst keys g a.0
      → (Has a.0 g.held → ⊥) → full_parent front a ≡ None → FitsPurpose keys.shape a.0 purpose
      → Comes (step_plan front asked a purpose) s (λ later_front seen t. (k : ℕ) × (later_front ≡ stepped front a)
      × StandsNoted keys levels began 1 (stepped front a) (after_access keys.shape (later g k)
      (record {
        asked = asked;
        address = a;
        counter = counter_in front a;
        next = counter_in (stepped front a) a;
        purpose = purpose;
      }) purpose) t × (seen.line.0 ≡ line_at keys.shape g a.0))
  step_comes front g s asked a purpose st calm inside first unheld room fits t now seen
      (x, mid, one, (is, same)) =
      let (notes, least, rests) = st.port.rests in
      let stp = step_shown keys lawful front g s.port.tap.log a st.port.shown st.port.small
      (few_draws keys lawful levels notes g s.port st.port.known rests) inside calm.stepped calm.pend calm.move first
      unheld room in
      let access : Access = record {
        asked = asked;
        address = a;
        counter = counter_in front a;
        next = counter_in (stepped front a) a;
        purpose = purpose;
      } in
      let g1 : Ghost = record g { pend = Some a.0; stepped = Some a.0 } in
      let (served, keeps) = served_slot keys levels notes access x s.port mid.port st.port.known.fits rests one.0 in
      let known1 = waiting keys lawful levels g s.port a.0 (Some a.0) calm.pend st.port.known in
      let rises : MayRise keys g1 a.0 access.next = record {
        inside = inside;
        up = stp.rises;
        parent = λ p up. inl (parent_away keys lawful levels g a.0 p first up);
      } in
      elim (served_right keys lawful g1 access x s.port mid.port levels (notes + 1) known1 served keeps calm.flight refl
      stp.counter rises unheld
      (subst (λ c. Undrawn s.port.tap.log.events (real a.0 c)) (sym stp.counter)
      (undrawn keys g s.port a.0 calm.pend st.port.known))
      fits) [
        | inl forged ↦ inl (subst (λ (y : NotedState). Forgery keys y.port.tap.log) (sym same) forged)
        | inr both ↦ inr (
          served.passed,
          ap (λ (p : FrontState × Seen). p.0) is,
          subst (λ (y : NotedState). StandsNoted keys levels began 1 (stepped front a)
              (after_access keys.shape (later g served.passed) access purpose) y) (sym same) (record {
                port = served_stands keys lawful levels front g access x s.port mid.port notes (stepped front a)
                    (Some a.0) (Some a.0) served known1 keeps
                    (λ h count held ahead pend move. stp.taken h count held ahead pend (move ∙ calm.move))
                    (λ log more. subst (λ (n : ℕ). AreSmall keys.shape n log (put_at g.count a.0 access.next))
                    (sym (stepped_ic keys lawful levels front a)) (stp.small log more)) both.0;
                noted = slot_noted keys lawful began g s mid access x served.passed st.noted one.1 calm.flight
                    (λ p up. parent_away keys lawful levels g a.0 p first up) inside unheld fits both.1;
              }),
          ap (λ (p : FrontState × Seen). p.1.line.0) is ∙ both.1,
        )
      ]
