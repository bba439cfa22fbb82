-- A dummy's slot, by what its calls leave.
use Rattle.std.proofs.Common.{◌≡◌, ◌+◌, ℕ, [], ◌∷◌, ◌++◌, None, Err, sym, ◌∙◌, ap, subst, append-nil, arith}
use Rattle.std.specs.Prelude.{⊤}
use Rattle.asc_base.specs.declared.block.Point.TheVariants.{Dummy}
use Rattle.asc_outside.specs.Memory.{MemoryState}
use Rattle.bus_watch.specs.Log.{LogLists, TapState}
use Rattle.bus_watch.specs.RunEnd.{RunEnd, end_at}
use Rattle.bus_watch.specs.declared.bus.Bus.{Bus}
use Rattle.bus_watch.specs.declared.log.Event.TheVariants.{Access, Drawn}
use Rattle.bus_watch.proofs.MadeLaws.{silent_events}
use Rattle.oram_contents.specs.Entries.{Keys}
use Rattle.oram_contents.specs.Slots.{drawn_events}
use Rattle.oram_contents.specs.Steps.{Adds}
use Rattle.unified_tree.specs.Cut.{CutWrite}
use Rattle.unified_tree.specs.Left.{LeftByWriteCut}
use Rattle.unified_tree.specs.Stops.{IfWritten}
use Rattle.unified_tree.specs.Tree.{TreeState}
use Rattle.unified_tree.specs.declared.stop.TreeStop.{TreeStop}
use Rattle.unified_tree.specs.declared.stop.TreeStop.TheVariants.{BadSlot, OffPath, Doubled, Full, Device, NoMemory}
use Rattle.unified_tree.proofs.Written.{sealed-start}

-- what is noted of a dummy's start
pub drawn_adds : (keys : Keys) (old new : LogLists) (start n leaf : ℕ) → keys.leaf_of (Dummy n) ≡ leaf
    → new.events ≡ old.events ++ Access start None ∷ Drawn (Dummy n) (record { 0 = leaf }) ∷ []
    → new.altered ≡ old.altered → Adds old new (drawn_events keys start None (Dummy n)) []
drawn_adds keys old new start n leaf leaf_is events altered = record {
  events_are = subst (λ x. new.events ≡ old.events ++ Access start None ∷ Drawn (Dummy n) (record { 0 = x }) ∷ [])
      (sym leaf_is) events;
  altered_are = altered ∙ sym (append-nil old.altered);
}

module _ {M W : Type 0} (memory_of : M → MemoryState) (tap_of : W → TapState) (keys : Keys) (start leaf : ℕ)
    (tree tree' : TreeState) (old new : Bus M W) (shape_is : keys.shape ≡ tree.shape) (pads_is : keys.pads ≡ tree.key)
    (altered : (tap_of new.tap.now).log.altered ≡ (tap_of old.tap.now).log.altered) (hand : tree'.hand ≡ tree.hand)
    (P P' : Type 0) (E : ℕ → Type 0) where
  abbrev Left : Type 0
  Left = (level : ℕ) × (used : ℕ)
      × LeftByWriteCut keys (tap_of old.tap.now) (tap_of new.tap.now) tree tree' leaf level used

  silent : (tap_of new.tap.now).log.events ≡ (tap_of old.tap.now).log.events
      → Adds (tap_of old.tap.now).log (tap_of new.tap.now).log [] []
  silent events = record {
    events_are = events ∙ sym (append-nil (tap_of old.tap.now).log.events);
    altered_are = altered ∙ sym (append-nil (tap_of old.tap.now).log.altered);
  }

  broken : {end : RunEnd} → CutWrite memory_of tap_of end start leaf tree tree' old new → Left
  broken cut = (
    cut.level,
    cut.level + 1,
    record {
      shape = shape_is;
      pads = pads_is;
      within = cut.within;
      silent = silent (silent_events cut.ran.made);
      hand = hand;
      mirror = cut.mirror;
      seed = cut.seed;
    },
  )

  -- what is left by a write that was refused
  pub write_left : (stop : TreeStop) → IfWritten (Err stop) P (λ _. new ≡ old)
      (λ cut. CutWrite memory_of tap_of (end_at cut) start leaf tree tree' old new)
      → IfWritten (Err stop) P' (λ held. E held × (tree'.seed ≡ tree.seed)) (λ _. ⊤) → Left
  write_left (BadSlot bucket slot) ran refused = absurd ran
  write_left (OffPath bucket slot) ran refused = absurd ran
  write_left (Doubled address) ran refused = absurd ran
  write_left (Full held) ran refused = (
    0,
    0,
    record {
      shape = shape_is;
      pads = pads_is;
      within = omega arith;
      silent = silent (ap (λ (b : Bus M W). (tap_of b.tap.now).log.events) ran);
      hand = hand;
      mirror = ap (λ (b : Bus M W). (tap_of b.tap.now).mirror) ran
          ∙ sym (sealed-start tree.key tree.shape.levels leaf tree.seed tree.hand (tap_of old.tap.now).mirror);
      seed = refused.1 ∙ omega arith;
    },
  )
  write_left Device ran refused = broken ran
  write_left NoMemory ran refused = broken ran
