-- How a slot that stops leaves log and contents, over plain trees, taps and buses.
use Rattle.std.proofs.Common.{◌≡◌, ◌<◌, ◌≤◌, ◌+◌, ◌-◌, ◌++◌, ℕ, List, [], length, Option, None}
use Rattle.std.proofs.Common.{Err, refl, sym, ap, subst, ◌∙◌, arith, append-nil, length-append, inr, false}
use Rattle.std.specs.List.{All}
use Rattle.std.specs.Prelude.{⊤}
use Rattle.asc_base.specs.declared.block.Leaf.{Leaf}
use Rattle.asc_base.specs.declared.block.Point.{Point}
use Rattle.asc_base.specs.declared.block.Point.TheVariants.{Dummy}
use Rattle.asc_base.specs.declared.stop.Evidence.{Evidence}
use Rattle.asc_base.specs.declared.stop.Evidence.TheVariants as evidence
use Rattle.asc_base.specs.declared.stop.Stop.{Stop}
use Rattle.asc_outside.specs.Memory.{MemoryState}
use Rattle.bus_watch.proofs.MadeLaws.{silent_events}
use Rattle.bus_watch.specs.declared.bus.Bus.{Bus}
use Rattle.bus_watch.specs.declared.log.Altered.{Altered}
use Rattle.bus_watch.specs.declared.log.Event.TheVariants.{Access, Drawn}
use Rattle.bus_watch.specs.Log.{LogLists, TapState, with_event}
use Rattle.bus_watch.specs.Made.{Ran}
use Rattle.bus_watch.specs.Path.{along, reads, reads_end, writes}
use Rattle.bus_watch.specs.RunEnd.{RunEnd, Whole, end_at}
use Rattle.oram_contents.specs.Entries.{Keys}
use Rattle.oram_contents.specs.PathRead.{path_read, replies}
use Rattle.oram_contents.specs.PathWritten.{rest_of}
use Rattle.oram_contents.specs.Slots.{IsRead}
use Rattle.unified_tree.specs.Cut.{CutRead, CutWrite}
use Rattle.unified_tree.specs.Slot.{contents_of, GainsNow, WasRead}
use Rattle.unified_tree.specs.Stops.{IfRead, IfWritten}
use Rattle.unified_tree.specs.Tree.{TreeState, IsSameTree}
use Rattle.unified_tree.specs.declared.stop.TreeStop.{TreeStop}
use Rattle.unified_tree.specs.declared.stop.TreeStop.TheVariants as tree
use Rattle.rate_enforcer.proofs.Contents.{two_events}
use Rattle.rate_enforcer.specs.Breaks.{Begins, ReadsBreak, IsRefused, ReadStops, WritesBreak, WriteStops}
use Rattle.rate_enforcer.specs.Breaks.{WritesOfDummyStop, DummyStops, PassesStop}
use Rattle.rate_enforcer.specs.Served.{keys_of, begin_events, HavePassed}
use Rattle.rate_enforcer.specs.Stops.{stop_after}

-- the contents of two trees and taps that agree
pub same_contents : (tree tree' : TreeState) (t t' : TapState) → tree'.hand ≡ tree.hand → t'.mirror ≡ t.mirror
    → tree'.seed ≡ tree.seed → contents_of tree' t' ≡ contents_of tree t
same_contents tree tree' t t' hand mirror seed = λ i. record { hand = hand i; mirror = mirror i; seed = seed i }

-- the keys of a tree that was kept
pub same_keys : (old mid : TreeState) (tags : List ℕ) (leaf_of : Point → ℕ) → IsSameTree old mid
    → keys_of mid tags leaf_of ≡ keys_of old tags leaf_of
same_keys old mid tags leaf_of kept = λ i. record {
  shape = kept.shape i;
  pads = kept.key i;
  tags = tags;
  leaf_of = leaf_of;
}

-- a path's read by a tree, a leaf and a mirror that are the same
same_read : (old mid : TreeState) (start leaf leaf' : ℕ) (m m' : List (List ℕ)) (altered : List Altered)
    → IsSameTree old mid → mid.hand ≡ old.hand → leaf ≡ leaf' → m' ≡ m
    → path_read mid.key mid.shape leaf (replies mid.shape.levels start leaf m' altered) mid.hand
    ≡ path_read old.key old.shape leaf' (replies old.shape.levels start leaf' m altered) old.hand
same_read old mid start leaf leaf' m m' altered kept hand is mirror =
    λ i. path_read (kept.key i) (kept.shape i) (is i)
    (replies (kept.shape i).levels start (is i) (mirror i) altered) (hand i)

-- the two events of a start, and altered replies after them
abbrev begins : (tags : List ℕ) (leaf_of : Point → ℕ) (old : TreeState) (start : ℕ) (asked : Option ℕ) (point : Point)
    (leaf : Leaf) (t t1 t2 t3 : TapState) → leaf.0 ≡ leaf_of point
    → t1.log ≡ with_event t.log (Access start asked) → t2.log ≡ with_event t1.log (Drawn point leaf)
    → t3.log.events ≡ t2.log.events → GainsNow t2.log t3.log
    → Begins (keys_of old tags leaf_of) t.log t3.log start asked point
begins tags leaf_of old start asked point leaf t t1 t2 t3 is first second silent gains =
    let events = two_events t t1 t2 t2 start asked point leaf (leaf_of point) is first second refl in
    let number : length t2.log.events ≡ length t.log.events + 2 =
    ap length events ∙ length-append t.log.events (begin_events start asked point (leaf_of point)) in
    record {
      altered = gains.altered;
      adds = record {
        events_are = silent ∙ events;
        altered_are = gains.gained ∙ ap (λ (x : LogLists). x.altered ++ gains.altered) second
            ∙ ap (λ (x : LogLists). x.altered ++ gains.altered) first;
      };
      noted = subst (λ n. All (λ (reply : Altered). reply.before ≡ n) gains.altered) number gains.noted;
    }

-- the moves after two events
same_moves : (start : ℕ) (asked : Option ℕ) (point : Point) (leaf : Leaf) (t t1 t2 : TapState)
    → t1.log ≡ with_event t.log (Access start asked) → t2.log ≡ with_event t1.log (Drawn point leaf)
    → t2.log.moves ≡ t.log.moves
same_moves start asked point leaf t t1 t2 first second =
    ap (λ (x : LogLists). x.moves) second ∙ ap (λ (x : LogLists). x.moves) first

module _ {M W : Type 0} (memory_of : M → MemoryState) (tap_of : W → TapState) where
  -- the moves of a path after the two events
  pub moves_read : (b c : Bus M W) (levels levels' start leaf' : ℕ) (asked : Option ℕ) (point : Point)
      (leaf : Leaf) (t t1 : TapState) → t1.log ≡ with_event t.log (Access start asked)
      → (tap_of b.tap.now).log ≡ with_event t1.log (Drawn point leaf) → levels ≡ levels' → leaf.0 ≡ leaf'
      → Ran memory_of tap_of Whole (reads levels start leaf.0) [] b c
      → (tap_of c.tap.now).log.moves ≡ t.log.moves ++ reads levels' start leaf'
  moves_read b c levels levels' start leaf' asked point leaf t t1 first second same is ran =
      ran.made.moves_are
      ∙ ap (λ ms. ms ++ reads levels start leaf.0)
      (same_moves start asked point leaf t t1 (tap_of b.tap.now) first second)
      ∙ ap (λ n. t.log.moves ++ reads n start leaf.0) same
      ∙ ap (λ n. t.log.moves ++ reads levels' start n) is

  -- a slot that stopped before its reads' end, or by what they gave
  module _ (b c : Bus M W) (tags : List ℕ) (leaf_of : Point → ℕ) (old mid new : TreeState) (start : ℕ)
      (asked : Option ℕ) (point : Point) (leaf : Leaf) (t t1 : TapState) (kept : IsSameTree old mid)
      (hand : mid.hand ≡ old.hand) (seed : new.seed ≡ old.seed) (is : leaf.0 ≡ leaf_of point)
      (first : t1.log ≡ with_event t.log (Access start asked))
      (second : (tap_of b.tap.now).log ≡ with_event t1.log (Drawn point leaf))
      (mirror : (tap_of b.tap.now).mirror ≡ t.mirror)
      (mirror' : (tap_of c.tap.now).mirror ≡ (tap_of b.tap.now).mirror) where
    refused : (e : Evidence) (altered : GainsNow (tap_of b.tap.now).log (tap_of c.tap.now).log)
        → Ran memory_of tap_of Whole (reads mid.shape.levels start leaf.0) [] b c
        → path_read mid.key mid.shape leaf.0
        (replies mid.shape.levels start leaf.0 (tap_of b.tap.now).mirror altered.altered) mid.hand ≡ Err e
        → IsRefused (keys_of old tags leaf_of) e t.log (tap_of c.tap.now).log (contents_of old t)
        (contents_of new (tap_of c.tap.now)) start asked point
    refused e gains ran says = record {
      begins = begins tags leaf_of old start asked point leaf t t1 (tap_of b.tap.now) (tap_of c.tap.now) is first
          second (silent_events ran.made) gains;
      moves = moves_read b c mid.shape.levels old.shape.levels start (leaf_of point) asked point leaf t t1 first
          second (ap (λ s. s.levels) kept.shape) is ran;
      says = sym (same_read old mid start leaf.0 (leaf_of point) t.mirror (tap_of b.tap.now).mirror gains.altered kept
          hand is mirror) ∙ says;
      mirror = mirror' ∙ mirror;
      seed = seed;
    }

    broke : (end : RunEnd) → GainsNow (tap_of b.tap.now).log (tap_of c.tap.now).log
        → CutRead memory_of tap_of end start leaf.0 mid new b c → new.hand ≡ mid.hand
        → ReadsBreak (keys_of old tags leaf_of) t.log (tap_of c.tap.now).log (contents_of old t)
        (contents_of new (tap_of c.tap.now)) start asked point
    broke end gains x still = record {
      begins = begins tags leaf_of old start asked point leaf t t1 (tap_of b.tap.now) (tap_of c.tap.now) is first
          second (silent_events x.ran.made) gains;
      level = x.level;
      within = subst (λ (n : ℕ). x.level ≤ n) (ap (λ s. s.levels) kept.shape) x.within;
      moves = x.ran.made.moves_are
          ∙ ap (λ ms. ms ++ along mid.shape.levels false start leaf.0 (x.level + 1))
          (same_moves start asked point leaf t t1 (tap_of b.tap.now) first second)
          ∙ ap (λ n. t.log.moves ++ along n false start leaf.0 (x.level + 1)) (ap (λ s. s.levels) kept.shape)
          ∙ ap (λ n. t.log.moves ++ along old.shape.levels false start n (x.level + 1)) is;
      after_is = same_contents old new t (tap_of c.tap.now) (still ∙ hand) (mirror' ∙ mirror) seed;
    }

    pub read_breaks : (stop : TreeStop) → GainsNow (tap_of b.tap.now).log (tap_of c.tap.now).log
        → IfRead (Err stop) (Ran memory_of tap_of Whole (reads mid.shape.levels start leaf.0) [] b c)
        (λ s. CutRead memory_of tap_of (end_at s) start leaf.0 mid new b c)
        → IfRead (Err stop) (WasRead mid.key mid.shape start leaf.0 (Err stop) (tap_of b.tap.now) (tap_of c.tap.now)
        mid.hand new.hand) (λ _. new.hand ≡ mid.hand)
        → ReadStops (keys_of old tags leaf_of) (stop_after stop) t.log (tap_of c.tap.now).log (contents_of old t)
        (contents_of new (tap_of c.tap.now)) start asked point
    read_breaks (tree.BadSlot bucket slot) gains ran was =
        refused (evidence.BadSlot bucket slot) was.gains ran was.says
    read_breaks (tree.OffPath bucket slot) gains ran was =
        refused (evidence.OffPath bucket slot) was.gains ran was.says
    read_breaks (tree.Doubled address) gains ran was = refused (evidence.Doubled address) was.gains ran was.says
    read_breaks (tree.Full held) gains ran was = absurd ran
    read_breaks tree.Device gains ran was = broke _ gains ran was
    read_breaks tree.NoMemory gains ran was = inr (broke _ gains ran was)

  -- a path that wasn't read notes no event
  pub read_silent : (b c : Bus M W) (start leaf : ℕ) (old new : TreeState) (stop : TreeStop)
      → IfRead (Err stop) (Ran memory_of tap_of Whole (reads old.shape.levels start leaf) [] b c)
      (λ s. CutRead memory_of tap_of (end_at s) start leaf old new b c)
      → (tap_of c.tap.now).log.events ≡ (tap_of b.tap.now).log.events
  read_silent b c start leaf old new (tree.BadSlot bucket slot) ran = silent_events ran.made
  read_silent b c start leaf old new (tree.OffPath bucket slot) ran = silent_events ran.made
  read_silent b c start leaf old new (tree.Doubled address) ran = silent_events ran.made
  read_silent b c start leaf old new (tree.Full held) ran = absurd ran
  read_silent b c start leaf old new tree.Device ran = silent_events ran.ran.made
  read_silent b c start leaf old new tree.NoMemory ran = silent_events ran.ran.made

  -- a path that wasn't written, or not to its end
  writes_broke : (b c : Bus M W) (tags : List ℕ) (leaf_of : Point → ℕ) (old new : TreeState) (start leaf : ℕ)
      (end : RunEnd) → (tap_of c.tap.now).log.altered ≡ (tap_of b.tap.now).log.altered → new.hand ≡ old.hand
      → rest_of old.shape.levels leaf old.hand ≤ old.stash
      → CutWrite memory_of tap_of end start leaf old new b c
      → WritesBreak (keys_of old tags leaf_of) old.stash start leaf (tap_of b.tap.now).log (tap_of c.tap.now).log
      (contents_of old (tap_of b.tap.now)) (contents_of new (tap_of c.tap.now))
  writes_broke b c tags leaf_of old new start leaf end altered hand fits x = record {
    fits = fits;
    level = x.level;
    within = x.within;
    moves = x.ran.made.moves_are;
    adds = record {
      events_are = x.ran.made.events_are;
      altered_are = altered ∙ sym (append-nil (tap_of b.tap.now).log.altered);
    };
    hand = hand;
    mirror = x.mirror;
    seed = x.seed;
  }

  pub write_breaks : (b c : Bus M W) (tags : List ℕ) (leaf_of : Point → ℕ) (old new : TreeState) (start leaf : ℕ)
      (stop : TreeStop) → (tap_of c.tap.now).log.altered ≡ (tap_of b.tap.now).log.altered → new.hand ≡ old.hand
      → IfWritten (Err stop) (Ran memory_of tap_of Whole (writes old.shape.levels start leaf) [] b c) (λ _. c ≡ b)
      (λ s. CutWrite memory_of tap_of (end_at s) start leaf old new b c)
      → IfWritten (Err stop) (rest_of old.shape.levels leaf old.hand ≤ old.stash)
      (λ held. (held ≡ rest_of old.shape.levels leaf old.hand) × (old.stash < held))
      (λ _. rest_of old.shape.levels leaf old.hand ≤ old.stash)
      → IfWritten (Err stop) (new.ended ≡ old.ended)
      (λ _. (new.ended ≡ reads_end old.shape.levels start) × (new.seed ≡ old.seed)) (λ _. ⊤)
      → WriteStops (keys_of old tags leaf_of) old.stash (stop_after stop) (tap_of b.tap.now).log
      (tap_of c.tap.now).log (contents_of old (tap_of b.tap.now)) (contents_of new (tap_of c.tap.now)) start leaf
  write_breaks b c tags leaf_of old new start leaf (tree.BadSlot bucket slot) altered hand ran full ended = absurd ran
  write_breaks b c tags leaf_of old new start leaf (tree.OffPath bucket slot) altered hand ran full ended = absurd ran
  write_breaks b c tags leaf_of old new start leaf (tree.Doubled address) altered hand ran full ended = absurd ran
  write_breaks b c tags leaf_of old new start leaf (tree.Full held) altered hand ran full ended = record {
    held_is = full.0;
    over = full.1;
    log = ap (λ (x : Bus M W). (tap_of x.tap.now).log) ran;
    after_is = same_contents old new (tap_of b.tap.now) (tap_of c.tap.now) hand
        (ap (λ (x : Bus M W). (tap_of x.tap.now).mirror) ran) ended.1;
  }
  write_breaks b c tags leaf_of old new start leaf tree.Device altered hand ran full ended =
      writes_broke b c tags leaf_of old new start leaf _ altered hand full ran
  write_breaks b c tags leaf_of old new start leaf tree.NoMemory altered hand ran full ended =
      writes_broke b c tags leaf_of old new start leaf _ altered hand full ran

-- a dummy whose writes stop
pub dummy_stops : (old mid new : TreeState) (tags : List ℕ) (leaf_of : Point → ℕ) (stop : Stop)
    (start number leaf : ℕ) (t t2 t3 : TapState) → IsSameTree old mid → leaf ≡ leaf_of (Dummy number)
    → mid.seed ≡ old.seed → t2.mirror ≡ t.mirror
    → IsRead (keys_of old tags leaf_of) t.log t2.log (contents_of old t) start (Dummy number) mid.hand
    → t2.log.events ≡ t.log.events ++ begin_events start None (Dummy number) (leaf_of (Dummy number))
    → t2.log.moves ≡ t.log.moves ++ reads old.shape.levels start (leaf_of (Dummy number))
    → WriteStops (keys_of mid tags leaf_of) mid.stash stop t2.log t3.log (contents_of mid t2) (contents_of new t3)
    start leaf
    → WritesOfDummyStop (keys_of old tags leaf_of) old.stash stop t.log t3.log (contents_of old t)
    (contents_of new t3) start number
dummy_stops old mid new tags leaf_of stop start number leaf t t2 t3 kept is seed mirror r noted moves writes = record {
  mid = t2.log;
  between = contents_of mid t2;
  read = record {
    asked = None;
    altered = r.altered;
    adds = record { events_are = noted; altered_are = r.adds.altered_are };
    noted = r.noted;
    read = r.read;
    of_shape = r.of_shape;
  };
  unasked = refl;
  moves = moves;
  between_is = λ i. record { hand = mid.hand; mirror = mirror i; seed = seed i };
  writes = subst (λ n. WriteStops (keys_of old tags leaf_of) old.stash stop t2.log t3.log (contents_of mid t2)
      (contents_of new t3) start n) is
      (subst (λ n. WriteStops (keys_of old tags leaf_of) n stop t2.log t3.log (contents_of mid t2)
      (contents_of new t3) start leaf) kept.stash
      (subst (λ (k : Keys). WriteStops k mid.stash stop t2.log t3.log (contents_of mid t2) (contents_of new t3)
      start leaf) (same_keys old mid tags leaf_of kept) writes));
}

-- some dummies pass, and the next one stops
pub passes_stop : (old mid new : TreeState) (tags : List ℕ) (leaf_of : Point → ℕ) (stop : Stop)
    (start start' first number : ℕ) (t t2 t3 : TapState) → IsSameTree old mid → first ≤ number → start' ≡ start
    → HavePassed (keys_of old tags leaf_of) old.stash (number - first) t.log t2.log (contents_of old t)
    (contents_of mid t2) first
    → DummyStops (keys_of mid tags leaf_of) mid.stash stop t2.log t3.log (contents_of mid t2) (contents_of new t3)
    start number
    → PassesStop (keys_of old tags leaf_of) old.stash stop t.log t3.log (contents_of old t) (contents_of new t3) start'
    first
passes_stop old mid new tags leaf_of stop start start' first number t t2 t3 kept less is passed stops =
    let at : number ≡ first + (number - first) = omega arith in
    record {
      done = number - first;
      mid = t2.log;
      between = contents_of mid t2;
      passed = passed.0;
      few = passed.1;
      stops = subst (λ n. DummyStops (keys_of old tags leaf_of) old.stash stop t2.log t3.log (contents_of mid t2)
          (contents_of new t3) start' n) at
          (subst (λ n. DummyStops (keys_of old tags leaf_of) old.stash stop t2.log t3.log (contents_of mid t2)
          (contents_of new t3) n number) (sym is)
          (subst (λ n. DummyStops (keys_of old tags leaf_of) n stop t2.log t3.log (contents_of mid t2)
          (contents_of new t3) start number) kept.stash
          (subst (λ (k : Keys). DummyStops k mid.stash stop t2.log t3.log (contents_of mid t2) (contents_of new t3)
          start number) (same_keys old mid tags leaf_of kept) stops)));
    }
