-- Calls of a port as steps, over plain states.
use Rattle.std.proofs.Common.{◌≡◌, ◌<◌, ◌+◌, ◌-◌, ◌*◌, ◌⊎◌, ℕ, List, [], ◌∷◌, Option, Some, refl, sym, subst}
use Rattle.std.proofs.Common.{arith, append-nil, min}
use Rattle.asc_base.specs.declared.block.Point.{Point}
use Rattle.asc_base.specs.declared.stop.Stop.{Stop}
use Rattle.asc_base.specs.declared.stop.Stop.TheVariants.{Integrity, StashFull, TimeUp, Device, NoMemory}
use Rattle.asc_outside.specs.Memory.{MemoryState}
use Rattle.bus_watch.proofs.MadeLaws.{ready_after}
use Rattle.bus_watch.specs.declared.bus.Bus.{Bus}
use Rattle.bus_watch.specs.declared.log.Event.{Event}
use Rattle.bus_watch.specs.declared.log.Event.TheVariants.{Access, Drawn, Tagged, Accepted, Chosen, Answered}
use Rattle.bus_watch.specs.Log.{TapState}
use Rattle.bus_watch.specs.Made.{Made}
use Rattle.bus_watch.specs.Path.{reads}
use Rattle.bus_watch.specs.RunEnd.{RunEnd, Whole}
use Rattle.bus_schedule.specs.Shown.{AreSilent}
use Rattle.epoch_learner.proofs.StandLaws.{stands_ran, inside_ran}
use Rattle.epoch_learner.specs.Stands.{StandsIn}
use Rattle.oram_contents.specs.Entries.{Keys}
use Rattle.unified_tree.specs.Slot.{contents_of}
use Rattle.unified_tree.specs.Tree.{TreeState, IsSameTree}
use Rattle.unified_tree.specs.declared.stop.OpenPath.{OpenPath}
use Rattle.rate_enforcer.proofs.Breaks.{same_keys}
use Rattle.rate_enforcer.specs.Breaks.{ReadStops, PassesStop, AskedStops}
use Rattle.rate_enforcer.specs.PortStep.{PortState, port_of, contents, IsNote, Used, port_keys, OpenBreaks}
use Rattle.rate_enforcer.specs.Served.{keys_of, HavePassed}
use Rattle.rate_enforcer.specs.State.{Rests, Opens}
use Rattle.rate_enforcer.specs.Stops.{RanTo}
use Rattle.rate_enforcer.specs.declared.clock.Clock.{Clock}
use Rattle.rate_enforcer.specs.declared.port.OpenSlot.{OpenSlot}

-- a path is that of one slot alone
pub one_slot : (slot slot' : OpenSlot) (path : Option OpenPath)
    → path ≡ Some (record { start = slot.start; leaf = slot.leaf })
    → path ≡ Some (record { start = slot'.start; leaf = slot'.leaf }) → slot' ≡ slot
one_slot slot slot' path first second =
    let a : OpenPath = record { start = slot'.start; leaf = slot'.leaf } in
    let b : OpenPath = record { start = slot.start; leaf = slot.leaf } in
    let is : a ≡ b = cc in
    λ i. record { start = (is i).start; leaf = (is i).leaf }

-- so a slot that is open is the one whose path it is
pub of_slot : {notes levels : ℕ} {clock : Clock} {tree : TreeState} {m : MemoryState} {t : TapState}
    (slot slot' : OpenSlot) → tree.path ≡ Some (record { start = slot.start; leaf = slot.leaf })
    → Opens notes clock slot' tree levels m t → Opens notes clock slot tree levels m t
of_slot {notes} {levels} {clock} {tree} {m} {t} slot slot' path o =
    subst (λ (s : OpenSlot). Opens notes clock s tree levels m t) (one_slot slot slot' tree.path path o.is_open.path) o

-- the tree that was kept before it was put back
pub kept_as : (old mid new : TreeState) → IsSameTree old mid → new ≡ mid → IsSameTree old new
kept_as old mid new kept is = subst (λ (x : TreeState). IsSameTree old x) (sym is) kept

-- a run is a use
pub used_so : {M W : Type 0} (memory_of : M → MemoryState) (tap_of : W → TapState) {end : RunEnd} (a b : Bus M W)
    (clock clock' : Clock) (tree tree' : TreeState) → RanTo memory_of tap_of end a b
    → Used end (port_of clock tree (memory_of a.memory.now) (tap_of a.tap.now))
    (port_of clock' tree' (memory_of b.memory.now) (tap_of b.tap.now))
used_so memory_of tap_of a b clock clock' tree tree' r =
    record { moves = r.moves; events = r.events; made = r.ran.made }

-- the slot that was asked for stops after some dummies
pub asked_stops : (old mid new : TreeState) (tags : List ℕ) (leaf_of : Point → ℕ) (stop : Stop)
    (start start' first number asked : ℕ) (point : Point) (t t2 t3 : TapState) → IsSameTree old mid → start' ≡ start
    → HavePassed (keys_of old tags leaf_of) old.stash (number - first) t.log t2.log (contents_of old t)
    (contents_of mid t2) first
    → ReadStops (keys_of mid tags leaf_of) stop t2.log t3.log (contents_of mid t2) (contents_of new t3) start
    (Some asked) point
    → AskedStops (keys_of old tags leaf_of) old.stash stop t.log t3.log (contents_of old t) (contents_of new t3)
    start' first asked point
asked_stops old mid new tags leaf_of stop start start' first number asked point t t2 t3 kept is passed stops = record {
  done = number - first;
  mid = t2.log;
  between = contents_of mid t2;
  passed = passed.0;
  few = passed.1;
  stops = subst (λ n. ReadStops (keys_of old tags leaf_of) stop t2.log t3.log (contents_of mid t2)
      (contents_of new t3) n (Some asked) point) (sym is)
      (subst (λ (k : Keys). ReadStops k stop t2.log t3.log (contents_of mid t2) (contents_of new t3) start
      (Some asked) point) (same_keys old mid tags leaf_of kept) stops);
}

-- a stop but for want of time
pub open_breaks : (leaf_of : Point → ℕ) (levels asked : ℕ) (point : Point) (stop : Stop) (old new : PortState)
    (tags : List ℕ) → ((at : ℕ) → stop ≡ TimeUp at → ⊥)
    → (PassesStop (port_keys leaf_of levels old tags) old.tree.stash stop old.tap.log new.tap.log (contents old)
    (contents new) new.clock.next old.clock.dummies × (new.clock.next < min asked old.clock.config.time))
    ⊎ (AskedStops (port_keys leaf_of levels old tags) old.tree.stash stop old.tap.log new.tap.log (contents old)
    (contents new) new.clock.next old.clock.dummies asked point × (new.clock.next < old.clock.config.time))
    → OpenBreaks leaf_of levels asked point stop old new tags
open_breaks leaf_of levels asked point (Integrity evidence) old new tags never b = b
open_breaks leaf_of levels asked point (StashFull held) old new tags never b = b
open_breaks leaf_of levels asked point (TimeUp at) old new tags never b = absurd (never at refl)
open_breaks leaf_of levels asked point Device old new tags never b = b
open_breaks leaf_of levels asked point NoMemory old new tags never b = b

-- an event that is a note shows nothing of slots
note_silent : (event : Event) → IsNote event → AreSilent (event ∷ [])
note_silent (Access start asked) note = absurd note
note_silent (Drawn point leaf) note = absurd note
note_silent (Tagged message) note = record { starts = refl; leaves = refl; indices = refl }
note_silent (Accepted message tag) note = record { starts = refl; leaves = refl; indices = refl }
note_silent (Chosen index) note = absurd note
note_silent (Answered line value) note = record { starts = refl; leaves = refl; indices = refl }

-- a note in a slot
pub opens_noted : {notes levels : ℕ} {clock : Clock} {slot : OpenSlot} {tree : TreeState} {m m' : MemoryState}
    {t t' : TapState} (event : Event) → IsNote event → Made Whole [] (event ∷ []) m m' t t'
    → Opens (notes + 1) clock slot tree levels m t → Opens notes clock slot tree levels m' t'
opens_noted {notes} {levels} {clock} {slot} {tree} {m} {m'} {t} {t'} event note made o =
    let l = clock.config.shape.levels in
    record {
      going = o.going;
      is_open = o.is_open;
      leaf_in = o.leaf_in;
      done = o.done;
      stands = subst (λ ms. StandsIn clock.config o.done clock.next slot.leaf.0 ms clock.learner t'.log)
          (append-nil (reads l clock.next slot.leaf.0)) (inside_ran o.stands (note_silent event note) made);
      dummies = o.dummies;
      real = o.real;
      left = o.left;
      enough = o.enough;
      room = ready_after clock.config.shape.buckets (2 * (l + 1) * o.left + (l + 1)) (6 * o.left + (notes + 1 + 1))
          (2 * (l + 1) * o.left + (l + 1)) (6 * o.left + (notes + 1)) o.room made (omega arith) (omega arith);
      is_for = o.is_for;
    }

-- a note between two slots
pub rests_noted : {notes levels : ℕ} {clock : Clock} {tree : TreeState} {m m' : MemoryState} {t t' : TapState}
    (event : Event) → IsNote event → Made Whole [] (event ∷ []) m m' t t'
    → Rests (notes + 1) clock tree levels m t → Rests notes clock tree levels m' t'
rests_noted {notes} {levels} {clock} {tree} {m} {m'} {t} {t'} event note made r =
    let l = clock.config.shape.levels in
    record {
      going = r.going;
      done = r.done;
      stands = stands_ran r.stands (note_silent event note) made;
      in_time = r.in_time;
      dummies = r.dummies;
      real = r.real;
      left = r.left;
      enough = r.enough;
      room = ready_after clock.config.shape.buckets (2 * (l + 1) * r.left) (6 * r.left + (notes + 1))
          (2 * (l + 1) * r.left) (6 * r.left + notes) r.room made (omega arith) (omega arith);
      is_for = r.is_for;
      path = r.path;
      few = r.few;
    }
