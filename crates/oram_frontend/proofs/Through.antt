-- A walk over the slots of a port, as a chain of the port's steps.
use Rattle.std.proofs.Common.{◌≡◌, ◌∙◌, ℕ, List, Result, Ok, Err, IfOk, IfErr, OnOk, refl, ap, subst}
use Rattle.request_plan.specs.Plan.{Plan, Ends, Stops}
use Rattle.asc_base.specs.declared.block.Point.{Point}
use Rattle.asc_base.specs.declared.stop.Stop.{Stop}
use Rattle.asc_outside.specs.Memory.{MemoryState}
use Rattle.bus_watch.specs.Log.{TapState}
use Rattle.oram_contents.specs.Entries.{Keys}
use Rattle.oram_walk.specs.Request.{Request, Steps}
use Rattle.oram_walk.specs.declared.slots.Seen.{Seen}
use Rattle.rate_enforcer.specs.PortStep.{PortState, port_of}
use Rattle.rate_enforcer.specs.Served.{keys_of}
use Rattle.rate_enforcer.specs.declared.port.Port.{Port}
use Rattle.oram_frontend.specs.Access.{SlotStep}
use Rattle.oram_frontend.specs.Same.{IsSameSlots}
use Rattle.oram_frontend.specs.declared.slots.PortSlots.{PortSlots}
use Rattle.oram_frontend.proofs.Below.{ends_below, stops_below}

-- what holds of either answer
pub by_result : {A E : Type 0} (R : Type 0) (P : A → Type 0) (Q : E → Type 0) (result : Result A E) → IfOk result P
    → IfErr result Q → ((a : A) → P a → R) → ((e : E) → Q e → R) → R
by_result R P Q (Ok a) ok err one other = one a ok
by_result R P Q (Err e) ok err one other = other e err

pub ok_so : {A E : Type 0} (P Q : A → Type 0) (result : Result A E) → IfOk result P → ((a : A) → P a → Q a)
    → IfOk result Q
ok_so P Q (Ok a) ok so = so a ok
ok_so P Q (Err e) ok so = tt

pub err_so : {A E : Type 0} (P Q : E → Type 0) (result : Result A E) → IfErr result P → ((e : E) → P e → Q e)
    → IfErr result Q
err_so P Q (Ok a) err so = tt
err_so P Q (Err e) err so = so e err

pub same_none : {M W L : Type 0} (s : PortSlots M W L) → IsSameSlots s s
same_none s = record {
  memory = refl;
  tap = refl;
  port = refl;
  tagger = refl;
  leaves = refl;
  config = refl;
  tree = record { shape = refl; stash = refl; key = refl };
}

same_then : {M W L : Type 0} {s t u : PortSlots M W L} → IsSameSlots s t → IsSameSlots t u → IsSameSlots s u
same_then a b = record {
  memory = b.memory ∙ a.memory;
  tap = b.tap ∙ a.tap;
  port = b.port ∙ a.port;
  tagger = b.tagger ∙ a.tagger;
  leaves = b.leaves ∙ a.leaves;
  config = b.config ∙ a.config;
  tree = record {
    shape = b.tree.shape ∙ a.tree.shape;
    stash = b.tree.stash ∙ a.tree.stash;
    key = b.tree.key ∙ a.tree.key;
  };
}

module _ {M W L : Type 0} (memory_of : M → MemoryState) (tap_of : W → TapState) (leaf_of : L → Point → ℕ)
    (levels_of : L → ℕ) where
  abbrev pub state_of : PortSlots M W L → PortState
  state_of s = port_of s.port.now.clock s.port.now.tree (memory_of s.memory.now) (tap_of s.tap.now)

  abbrev pub keys_in : PortSlots M W L → Keys
  keys_in s = keys_of s.port.now.tree s.tagger.now (leaf_of s.port.now.leaves)

  abbrev pub SlotsStep : PortSlots M W L → Request → Result Seen Stop → PortSlots M W L → Type 0
  SlotsStep old q a new =
      SlotStep (keys_in old) (levels_of old.port.now.leaves) (state_of old) q a (state_of new) × IsSameSlots old new

  keys_same : (first s : PortSlots M W L) → IsSameSlots first s → keys_in s ≡ keys_in first
  keys_same first s h = λ i. record {
    shape = h.tree.shape i;
    pads = h.tree.key i;
    tags = h.tagger i;
    leaf_of = leaf_of (h.leaves i);
  }

  each : (first s t : PortSlots M W L) (q : Request) (a : Result Seen Stop) → IsSameSlots first s → SlotsStep s q a t
      → SlotStep (keys_in first) (levels_of first.port.now.leaves) (state_of s) q a (state_of t) × IsSameSlots first t
  each first s t q a h one = (
    subst (λ k. SlotStep k (levels_of first.port.now.leaves) (state_of s) q a (state_of t)) (keys_same first s h)
        (subst (λ n. SlotStep (keys_in s) n (state_of s) q a (state_of t)) (ap levels_of h.leaves) one.0),
    same_then h one.1,
  )

  pub ends_through : {B A : Type 0} (plan : Plan Request Seen B A) (first t : PortSlots M W L) (outcome : A)
      → Ends (Steps SlotsStep) plan first t outcome
      → Ends (Steps (SlotStep (keys_in first) (levels_of first.port.now.leaves))) plan (state_of first) (state_of t)
      outcome × IsSameSlots first t
  ends_through plan first t outcome ends =
      ends_below SlotsStep (SlotStep (keys_in first) (levels_of first.port.now.leaves)) state_of (IsSameSlots first)
      (each first) plan first t outcome (same_none first) ends

  pub stops_through : {B A : Type 0} (plan : Plan Request Seen B A) (first t : PortSlots M W L) (stop : Stop) (left : B)
      → Stops (Steps SlotsStep) plan first t stop left
      → Stops (Steps (SlotStep (keys_in first) (levels_of first.port.now.leaves))) plan (state_of first) (state_of t)
      stop left × IsSameSlots first t
  stops_through plan first t stop left stops =
      stops_below SlotsStep (SlotStep (keys_in first) (levels_of first.port.now.leaves)) state_of (IsSameSlots first)
      (each first) plan first t stop left (same_none first) stops

  -- the same from what the slots were made of
  abbrev pub EndsFrom : {B A : Type 0} → Plan Request Seen B A → PortState → A → Port L → M → W → List ℕ → Type 0
  EndsFrom plan t outcome port m w tagger =
      Ends (Steps (SlotStep (keys_of port.tree tagger (leaf_of port.leaves)) (levels_of port.leaves))) plan
      (port_of port.clock port.tree (memory_of m) (tap_of w)) t outcome

  abbrev pub StopsFrom : {B A : Type 0} → Plan Request Seen B A → PortState → Stop → B → Port L → M → W
      → List ℕ → Type 0
  StopsFrom plan t stop left port m w tagger =
      Stops (Steps (SlotStep (keys_of port.tree tagger (leaf_of port.leaves)) (levels_of port.leaves))) plan
      (port_of port.clock port.tree (memory_of m) (tap_of w)) t stop left

  module _ (first : PortSlots M W L) (port : Port L) (m : M) (w : W) (tagger : List ℕ)
      (port_is : first.port.now ≡ port) (memory_is : first.memory.now ≡ m) (tap_is : first.tap.now ≡ w)
      (tagger_is : first.tagger.now ≡ tagger) where
    made : (F : Port L → M → W → List ℕ → Type 0)
        → F first.port.now first.memory.now first.tap.now first.tagger.now → F port m w tagger
    made F h = subst (λ x. F port m w x) tagger_is (subst (λ x. F port m x first.tagger.now) tap_is
        (subst (λ x. F port x first.tap.now first.tagger.now) memory_is
        (subst (λ x. F x first.memory.now first.tap.now first.tagger.now) port_is h)))

    pub ends_from : {B A : Type 0} (plan : Plan Request Seen B A) (t : PortSlots M W L) (outcome : A)
        → Ends (Steps SlotsStep) plan first t outcome → EndsFrom plan (state_of t) outcome port m w tagger
    ends_from plan t outcome ends = made (EndsFrom plan (state_of t) outcome) (ends_through plan first t outcome ends).0

    pub stops_from : {B A : Type 0} (plan : Plan Request Seen B A) (t : PortSlots M W L) (stop : Stop) (left : B)
        → Stops (Steps SlotsStep) plan first t stop left → StopsFrom plan (state_of t) stop left port m w tagger
    stops_from plan t stop left stops =
        made (StopsFrom plan (state_of t) stop left) (stops_through plan first t stop left stops).0

-- a fact that follows on an Ok
pub on_ok_so : {A E : Type 0} (result : Result A E) (X Y : Type 0) → OnOk result X → (X → Y) → OnOk result Y
on_ok_so (Ok a) X Y x so = so x
on_ok_so (Err e) X Y x so = tt
