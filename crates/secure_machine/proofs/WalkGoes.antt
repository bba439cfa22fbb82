-- What the walks of a front end leave, however they go.
use Rattle.std.proofs.Common.{◌≡◌, ◌≤◌, ◌+◌, ◌<◌, ℕ, zero, suc, Option, None, Some, Ok, refl, sym, subst, inl, inr}
use Rattle.std.proofs.Common.{arith, is_some, Bool, true, false}
use Rattle.std.specs.Option.{option_map_or}
use Rattle.request_plan.specs.Plan.{Plan, Done, Ask, Ends, Stops, bind}
use Rattle.asc_base.specs.Shape.{parent_in, children_in}
use Rattle.asc_base.specs.declared.block.Address.{Address}
use Rattle.asc_base.specs.declared.stop.Stop.{Stop}
use Rattle.asc_base.specs.declared.stop.Stop.TheVariants.{NoMemory}
use Rattle.oram_contents.specs.Entries.{Keys}
use Rattle.oram_frontend.specs.Access.{SlotStep}
use Rattle.oram_frontend.specs.Slots.{FitKeys, Keeps}
use Rattle.oram_frontend.proofs.SlotLaws.{served_slot, served_append, served_answer}
use Rattle.oram_walk.specs.Front.{FrontState, full_parent, with_held}
use Rattle.oram_walk.specs.Plans.{FrontPlan, on, child_by, child_plan, children_plan, family_plan, full_plan}
use Rattle.oram_walk.specs.Plans.{group_plan, visit_plan, append_plan, hold_plan, refill_plan, found_plan, walk_plan}
use Rattle.oram_walk.specs.Plans.{request_plan}
use Rattle.oram_walk.specs.Request.{Request, Slot, Append, Answer, Room, Steps}
use Rattle.oram_walk.specs.declared.slots.Access.{Access}
use Rattle.oram_walk.specs.declared.slots.Purpose.{Purpose}
use Rattle.oram_walk.specs.declared.slots.Seen.{Seen}
use Rattle.posmap_counters.specs.Group.{GroupState}
use Rattle.posmap_lookaside.specs.Held.{held_at, promoted}
use Rattle.posmap_lookaside.specs.declared.held.Held.{Held}
use Rattle.rate_enforcer.proofs.StateLaws.{rests_less}
use Rattle.rate_enforcer.specs.PortStep.{PortState, Resting}
use Rattle.secure_machine.specs.Goes.{Goes, Breaks}
use Rattle.secure_machine.proofs.PortGoes.{goes_none, goes_then, breaks_then, plan_goes}
use Rattle.secure_machine.proofs.SlotGoes.{slot_breaks, append_breaks, answer_breaks, room_breaks}
use Rattle.oram_frontend.specs.Access.{serve_plan}

-- A plan appends and answers only behind a slot, one time each; it is told whether it begins behind one, and what is
-- known of that at its end.
abbrev pub Fits : {B A : Type 0} → Bool → (Bool → Type 0) → Plan Request Seen B A → Type 0
Fits behind P (Done a) = P behind
Fits behind P (Ask (Slot access) b k) = (x : Seen) → Fits true P (k x)
Fits behind P (Ask (Append message) b k) = (behind ≡ true) × ((x : Seen) → Fits false P (k x))
Fits behind P (Ask (Answer line value) b k) = (behind ≡ true) × ((x : Seen) → Fits false P (k x))
Fits behind P (Ask Room b k) = (x : Seen) → Fits behind P (k x)

-- nothing is known, and it ends behind a slot
abbrev pub Any : Bool → Type 0
Any behind = Unit {0}

abbrev pub Behind : Bool → Type 0
Behind behind = behind ≡ true

pub fits_bind : {B C A D : Type 0} (P Q : Bool → Type 0) (put : B → C) (p : Plan Request Seen B A)
    (next : A → Plan Request Seen C D) (behind : Bool) → Fits behind P p
    → ((a : A) (b : Bool) → P b → Fits b Q (next a)) → Fits behind Q (bind put p next)
fits_bind P Q put (Done a) next behind h each = each a behind h
fits_bind P Q put (Ask (Slot access) b k) next behind h each = λ x. fits_bind P Q put (k x) next true (h x) each
fits_bind P Q put (Ask (Append message) b k) next behind h each =
    (h.0, λ x. fits_bind P Q put (k x) next false (h.1 x) each)
fits_bind P Q put (Ask (Answer line value) b k) next behind h each =
    (h.0, λ x. fits_bind P Q put (k x) next false (h.1 x) each)
fits_bind P Q put (Ask Room b k) next behind h each = λ x. fits_bind P Q put (k x) next behind (h x) each

child_fits : (held behind : Bool) (state : FrontState) (access : Access)
    → Fits behind Any (child_by held state access)
child_fits true behind state access = tt
child_fits false behind state access = λ x. tt

children_fits : (group : GroupState) (first child left : ℕ) (state : FrontState) (asked : ℕ) (behind : Bool)
    → Fits behind Any (children_plan group first child left state asked)
children_fits group first child zero state asked behind = tt
children_fits group first child (suc left) state asked behind =
    fits_bind Any Any _ (child_plan state asked _ _ _) _ behind (child_fits _ behind _ _)
    (λ a b h. children_fits group first (child + 1) left a.0 a.1 b)

family_fits : (group : GroupState) (family : Option (Address × ℕ)) (state : FrontState) (asked : ℕ) (behind : Bool)
    → Fits behind Any (family_plan group family state asked)
family_fits group None state asked behind = tt
family_fits group (Some (first, number)) state asked behind = children_fits group first.0 0 number state asked behind

full_fits : (state : FrontState) (asked : ℕ) (full : Option (Address × GroupState)) (behind : Bool)
    → Fits behind Any (full_plan state asked full)
full_fits state asked None behind = tt
full_fits state asked (Some (parent, group)) behind =
    fits_bind Any Any _ (family_plan group (children_in state.shape parent) state asked) _ behind
    (family_fits group (children_in state.shape parent) state asked behind) (λ a b h. tt)

visit_fits : (state : FrontState) (asked : ℕ) (address : Address) (purpose : Purpose) (behind : Bool)
    → Fits behind Behind (visit_plan state asked address purpose)
visit_fits state asked address purpose behind =
    fits_bind Any Behind _ (group_plan state asked address) _ behind
    (full_fits state asked (full_parent state address) behind) (λ a b h. λ x. refl)

append_fits : (last : Option Held) (state : FrontState) (behind : Bool) → behind ≡ true
    → Fits behind Any (append_plan last state)
append_fits None state behind is = tt
append_fits (Some last) state behind is = (is, λ x. tt)

hold_fits : (state : FrontState) (held : Held) (behind : Bool) → behind ≡ true → Fits behind Any (hold_plan state held)
hold_fits state held behind is = λ x. append_fits _ _ behind is

refill_fits : (state : FrontState) (asked : ℕ) (address : Address) (behind : Bool)
    → Fits behind Any (refill_plan state asked address)
refill_fits state asked address behind =
    fits_bind Behind Any _ (visit_plan state asked address _) _ behind (visit_fits state asked address _ behind)
    (λ a b h. fits_bind Any Any _ (hold_plan a.0 _) _ b (hold_fits a.0 _ b h) (λ c d g. tt))

found_fits : (found behind : Bool) (state : FrontState) (asked : ℕ) (rest : FrontPlan ℕ) → Fits behind Any rest
    → Fits behind Any (found_plan found state asked rest)
found_fits true behind state asked rest h = tt
found_fits false behind state asked rest h = h

parent_fits : (above : ℕ) (state : FrontState) (asked : ℕ) (parent : Option Address) (behind : Bool)
    → ((state : FrontState) (asked : ℕ) (address : Address) (behind : Bool)
    → Fits behind Any (walk_plan above state asked address))
    → Fits behind Any (option_map_or (λ (parent : Address).
    let now = with_held state (promoted state.held parent) in
    found_plan (is_some (held_at state.held parent)) now asked
    (on (walk_plan above now asked parent) (λ later end. refill_plan later end parent)))
    parent (Done (state, asked)))
parent_fits above state asked None behind walk = tt
parent_fits above state asked (Some parent) behind walk =
    found_fits (is_some (held_at state.held parent)) behind _ asked _
    (fits_bind Any Any _ (walk_plan above _ asked parent) _ behind (walk _ asked parent behind)
    (λ a b h. refill_fits a.0 a.1 parent b))

walk_fits : (above : ℕ) (state : FrontState) (asked : ℕ) (address : Address) (behind : Bool)
    → Fits behind Any (walk_plan above state asked address)
walk_fits zero state asked address behind = tt
walk_fits (suc above) state asked address behind =
    parent_fits above state asked (parent_in state.shape address) behind (walk_fits above)

pub request_fits : (state : FrontState) (asked : ℕ) (address : Address) (purpose : Purpose) (behind : Bool)
    → Fits behind Behind (request_plan state asked address purpose)
request_fits state asked address purpose behind =
    fits_bind Any Behind _ (walk_plan state.shape.layers state asked address) _ behind
    (walk_fits state.shape.layers state asked address behind) (λ a b h. visit_fits a.0 a.1 address purpose b)

-- ---- chains
-- how many notes are left behind a slot, at least
abbrev need : Bool → ℕ
need true = 1
need false = 0

module _ (keys : Keys) (levels : ℕ) (first : PortState) where
  -- what is known along a walk that began at a port
  pub record Walked (behind : Bool) (s : PortState) : Type 0 where
    pub fits : FitKeys keys s
    pub goes : Goes first s
    pub notes : ℕ
    pub enough : need behind ≤ notes
    pub rests : Resting notes levels s
    pub more : need behind + first.clock.real ≤ s.clock.real

  pub walked_none : FitKeys keys first → Resting 0 levels first → Walked false first
  walked_none fits rests = record {
    fits = fits;
    goes = goes_none first;
    notes = 0;
    enough = omega arith;
    rests = rests;
    more = omega arith;
  }

  walked_slot : (behind : Bool) (access : Access) (seen : Seen) (s t : PortState) → Walked behind s
      → SlotStep keys levels s (Slot access) (Ok seen) t → Walked true t
  walked_slot behind access seen s t w one =
      let (slot, keeps) = served_slot keys levels w.notes access seen s t w.fits w.rests one in
      record {
        fits = keeps.fits;
        goes = goes_then w.goes (plan_goes keys.leaf_of levels (serve_plan keys (Slot access)) s t _ one);
        notes = keeps.rests.0;
        enough = omega (arith, keeps.rests.1);
        rests = keeps.rests.2;
        more = omega (arith, slot.real, w.more);
      }

  -- room for a note
  behind_rests : (behind : Bool) (s : PortState) → behind ≡ true → Walked behind s → Resting 1 levels s
  behind_rests true s is w = rests_less 1 w.enough w.rests
  behind_rests false s is w = absurd cc

  behind_more : (behind : Bool) (s : PortState) → Walked behind s → first.clock.real ≤ s.clock.real
  behind_more behind s w = omega (arith, w.more)

  -- behind a slot there is one more than before
  pub behind_took : (behind : Bool) → behind ≡ true → (s : PortState) → Walked behind s
      → first.clock.real < s.clock.real
  behind_took true is s w = omega (arith, w.more)
  behind_took false is s w = absurd cc

  walked_noted : (behind : Bool) (s t : PortState) → Walked behind s → Keeps keys levels 0 s t → Goes s t
      → Walked false t
  walked_noted behind s t w keeps goes = record {
    fits = keeps.fits;
    goes = goes_then w.goes goes;
    notes = keeps.rests.0;
    enough = omega arith;
    rests = keeps.rests.2;
    more = omega (arith, goes.real, behind_more behind s w);
  }

  pub walk_ends : {B A : Type 0} (P : Bool → Type 0) (plan : Plan Request Seen B A) (behind : Bool)
      → Fits behind P plan → (s t : PortState) (outcome : A) → Walked behind s
      → Ends (Steps (SlotStep keys levels)) plan s t outcome → (b : Bool) × P b × Walked b t
  walk_ends P (Done a) behind h s t outcome w ends = (behind, h, subst (Walked behind) (sym ends.1) w)
  walk_ends P (Ask (Slot access) b k) behind h s t outcome w (x, mid, one, rest) =
      walk_ends P (k x) true (h x) mid t outcome (walked_slot behind access x s mid w one) rest
  walk_ends P (Ask (Append message) b k) behind h s t outcome w (x, mid, one, rest) =
      let (append, keeps) = served_append keys levels 0 message x s mid w.fits (behind_rests behind s h.0 w) one in
      walk_ends P (k x) false (h.1 x) mid t outcome
      (walked_noted behind s mid w keeps
      (plan_goes keys.leaf_of levels (serve_plan keys (Append message)) s mid _ one)) rest
  walk_ends P (Ask (Answer line value) b k) behind h s t outcome w (x, mid, one, rest) =
      let (answer, keeps) = served_answer keys levels 0 line value x s mid w.fits (behind_rests behind s h.0 w) one in
      walk_ends P (k x) false (h.1 x) mid t outcome
      (walked_noted behind s mid w keeps
      (plan_goes keys.leaf_of levels (serve_plan keys (Answer line value)) s mid _ one)) rest
  walk_ends P (Ask Room b k) behind h s t outcome w (x, mid, one, rest) =
      walk_ends P (k x) behind (h x) mid t outcome (subst (Walked behind) (sym one.1) w) rest

  walk_rests : (behind : Bool) (s : PortState) → Walked behind s → Resting 0 levels s
  walk_rests behind s w = rests_less 0 (omega arith) w.rests

  pub walk_stops : {B A : Type 0} (P : Bool → Type 0) (plan : Plan Request Seen B A) (behind : Bool)
      → Fits behind P plan → (s t : PortState) (stop : Stop) (left : B) → Walked behind s
      → Stops (Steps (SlotStep keys levels)) plan s t stop left → Breaks stop first t
  walk_stops P (Done a) behind h s t stop left w stops = absurd stops
  walk_stops P (Ask (Slot access) b k) behind h s t stop left w (inl one) =
      breaks_then w.goes (slot_breaks keys levels access stop s t (walk_rests behind s w) one.0)
  walk_stops P (Ask (Slot access) b k) behind h s t stop left w (inr (x, mid, one, rest)) =
      walk_stops P (k x) true (h x) mid t stop left (walked_slot behind access x s mid w one) rest
  walk_stops P (Ask (Append message) b k) behind h s t stop left w (inl one) =
      breaks_then w.goes (append_breaks keys levels message stop s t (behind_rests behind s h.0 w) one.0)
  walk_stops P (Ask (Append message) b k) behind h s t stop left w (inr (x, mid, one, rest)) =
      let (append, keeps) = served_append keys levels 0 message x s mid w.fits (behind_rests behind s h.0 w) one in
      walk_stops P (k x) false (h.1 x) mid t stop left
      (walked_noted behind s mid w keeps
      (plan_goes keys.leaf_of levels (serve_plan keys (Append message)) s mid _ one)) rest
  walk_stops P (Ask (Answer line value) b k) behind h s t stop left w (inl one) =
      absurd (answer_breaks keys levels line value stop s t one.0)
  walk_stops P (Ask (Answer line value) b k) behind h s t stop left w (inr (x, mid, one, rest)) =
      let (answer, keeps) = served_answer keys levels 0 line value x s mid w.fits (behind_rests behind s h.0 w) one in
      walk_stops P (k x) false (h.1 x) mid t stop left
      (walked_noted behind s mid w keeps
      (plan_goes keys.leaf_of levels (serve_plan keys (Answer line value)) s mid _ one)) rest
  walk_stops P (Ask Room b k) behind h s t stop left w (inl ((is, same), put)) =
      subst (λ (e : Stop). Breaks e first t) (sym is)
      (subst (λ (u : PortState). Breaks NoMemory first u) (sym same)
      (breaks_then w.goes (room_breaks keys levels s (walk_rests behind s w))))
  walk_stops P (Ask Room b k) behind h s t stop left w (inr (x, mid, one, rest)) =
      walk_stops P (k x) behind (h x) mid t stop left (subst (Walked behind) (sym one.1) w) rest
