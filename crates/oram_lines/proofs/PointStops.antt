-- No point is drawn twice in a slot that is stopped either: neither in a dummy before it, nor in its own reads, nor
-- behind them.
use Rattle.std.proofs.Common.{◌≡◌, ◌<◌, ◌+◌, ◌-◌, ◌++◌, ◌⊎◌, inl, inr, ℕ, List, [], ◌∷◌, Option, None, Some, Err}
use Rattle.std.proofs.Common.{count_by, min, sym, ◌∙◌, subst, arith, append-nil}
use Rattle.request_plan.specs.Plan.{Ends, Stops}
use Rattle.request_plan.proofs.Chains.{Stops-unbind}
use Rattle.asc_base.proofs.Lookups.{count_by-cons}
use Rattle.asc_base.specs.Has.{Has}
use Rattle.asc_base.specs.declared.block.Counter.{Counter}
use Rattle.asc_base.specs.declared.block.Entry.{Entry}
use Rattle.asc_base.specs.declared.block.Leaf.{Leaf}
use Rattle.asc_base.specs.declared.block.Line.{Line}
use Rattle.asc_base.specs.declared.block.Message.{Message}
use Rattle.asc_base.specs.declared.block.Point.{Point}
use Rattle.asc_base.specs.declared.block.Point.TheVariants.{Dummy}
use Rattle.asc_base.specs.declared.stop.Evidence.{Evidence}
use Rattle.asc_base.specs.declared.stop.Stop.{Stop}
use Rattle.asc_base.specs.declared.stop.Stop.TheVariants.{Integrity, StashFull, TimeUp, Device, NoMemory}
use Rattle.bus_watch.specs.Log.{LogLists, TapState}
use Rattle.bus_watch.specs.declared.log.Event.{Event}
use Rattle.bus_watch.specs.declared.log.Event.TheVariants.{Drawn, Accepted, Tagged}
use Rattle.oram_contents.specs.Contents.{Contents}
use Rattle.oram_contents.specs.Counts.{Ghost}
use Rattle.oram_contents.specs.Decided.{draws}
use Rattle.oram_contents.specs.Entries.{Keys, AreKeys, real}
use Rattle.oram_contents.specs.Slots.{drawn_events}
use Rattle.oram_walk.specs.Request.{Slot, Append}
use Rattle.oram_walk.specs.declared.slots.Access.{Access}
use Rattle.oram_walk.specs.declared.slots.Purpose.{Purpose}
use Rattle.oram_walk.specs.declared.slots.Purpose.TheVariants.{Refill, Keep, Replace}
use Rattle.rate_enforcer.specs.Breaks.{ReadStops, WriteStops, DummyStops, PassesStop, AskedStops}
use Rattle.rate_enforcer.specs.PortStep.{PortState, PortStep, OpenStopped, OpenBreaks, HasNoted, Idle}
use Rattle.rate_enforcer.specs.PortStep.{contents}
use Rattle.rate_enforcer.specs.Served.{keys_of, IsServed}
use Rattle.oram_frontend.specs.Access.{SlotStep, accept_plan, put_plan, back_plan, judged_plan, close_plan, finish_plan}
use Rattle.oram_frontend.specs.Access.{found_line, found_message, next_message}
use Rattle.oram_lines.specs.Standing.{IsKnown, Undrawn, DrawnOnce}
use Rattle.oram_lines.proofs.HonestSlots.{accept_passes, back_passes, judged_refuses}
use Rattle.oram_lines.proofs.PointLaws.{passes_once, passes_has, slot_once, once_silent, silent_by}

-- the dummies that were drawn have lower numbers
abbrev Under : ℕ → List Event → Type 0
Under n events = (m : ℕ) (x : Leaf) → Has (Drawn (Dummy m) x) events → m < n

module _ (keys : Keys) where
  -- a slot of a point that wasn't drawn before begins
  begin_once : (events new : List Event) (start : ℕ) (asked : Option ℕ) (p : Point) → DrawnOnce events
      → Undrawn events p → new ≡ events ++ drawn_events keys start asked p → DrawnOnce new
  begin_once events new start asked p once free is =
      subst DrawnOnce (sym is) (slot_once keys events start asked p [] once free (λ q x has. has))

  -- it stops before or in its reads
  reads_once : (stop : Stop) (old new : LogLists) (now after : Contents) (start : ℕ) (asked : Option ℕ) (p : Point)
      → ReadStops keys stop old new now after start asked p → DrawnOnce old.events → Undrawn old.events p
      → DrawnOnce new.events
  reads_once (Integrity evidence) old new now after start asked p stops once free =
      begin_once old.events new.events start asked p once free stops.begins.adds.events_are
  reads_once (StashFull held) old new now after start asked p stops once free = absurd stops
  reads_once (TimeUp at) old new now after start asked p stops once free = absurd stops
  reads_once Device old new now after start asked p stops once free =
      begin_once old.events new.events start asked p once free stops.begins.adds.events_are
  reads_once NoMemory old new now after start asked p (inl stops) once free =
      subst (λ (l : LogLists). DrawnOnce l.events) (sym stops.0) once
  reads_once NoMemory old new now after start asked p (inr stops) once free =
      begin_once old.events new.events start asked p once free stops.begins.adds.events_are

  -- it stops behind them, where nothing is noted
  writes_once : (stash start leaf : ℕ) (stop : Stop) (old new : LogLists) (now after : Contents)
      → WriteStops keys stash stop old new now after start leaf → DrawnOnce old.events → DrawnOnce new.events
  writes_once stash start leaf (Integrity evidence) old new now after stops once = absurd stops
  writes_once stash start leaf (StashFull held) old new now after stops once =
      subst (λ (l : LogLists). DrawnOnce l.events) (sym stops.log) once
  writes_once stash start leaf (TimeUp at) old new now after stops once = absurd stops
  writes_once stash start leaf Device old new now after stops once =
      subst DrawnOnce (sym (stops.adds.events_are ∙ append-nil old.events)) once
  writes_once stash start leaf NoMemory old new now after stops once =
      subst DrawnOnce (sym (stops.adds.events_are ∙ append-nil old.events)) once

  -- a dummy stops, before which others passed
  passes_stop : (stash : ℕ) (stop : Stop) (old new : LogLists) (now after : Contents) (start n : ℕ)
      → PassesStop keys stash stop old new now after start n → DrawnOnce old.events → Under n old.events
      → DrawnOnce new.events
  passes_stop stash stop old new now after start n x once below = by_dummy x.stops
    where
      before : DrawnOnce x.mid.events × Under (n + x.done) x.mid.events
      before = passes_once keys x.done old x.mid now x.between n x.passed once below

      free : Undrawn x.mid.events (Dummy (n + x.done))
      free y has = absurd (let bad = before.1 (n + x.done) y has in omega (arith, bad))

      by_dummy : DummyStops keys stash stop x.mid new x.between after start (n + x.done) → DrawnOnce new.events
      by_dummy (inl reads) =
          reads_once stop x.mid new x.between after start None (Dummy (n + x.done)) reads before.0 free
      by_dummy (inr writes) =
          writes_once stash start (keys.leaf_of (Dummy (n + x.done))) stop writes.mid new writes.between after
          writes.writes
          (begin_once x.mid.events writes.mid.events start writes.read.asked (Dummy (n + x.done)) before.0 free
          writes.read.adds.events_are)

  -- the slot of a block stops in its reads, before which dummies passed
  asked_stop : (stash : ℕ) (stop : Stop) (old new : LogLists) (now after : Contents) (start n asked a : ℕ)
      (c : Counter) → AskedStops keys stash stop old new now after start n asked (real a c) → DrawnOnce old.events
      → Under n old.events → Undrawn old.events (real a c) → DrawnOnce new.events
  asked_stop stash stop old new now after start n asked a c x once below free =
      reads_once stop x.mid new x.between after start (Some asked) (real a c) x.stops
      (passes_once keys x.done old x.mid now x.between n x.passed once below).0
      (λ y has. free y (passes_has keys x.done old x.mid now x.between n x.passed a c y has))

  -- the slot of a block is open
  served_once : (stash : ℕ) (old new : PortState) (asked a : ℕ) (c : Counter)
      → IsServed keys stash old.tap.log new.tap.log (contents old) (contents new) old.clock.dummies new.clock asked
      (real a c) → DrawnOnce old.tap.log.events → Under old.clock.dummies old.tap.log.events
      → Undrawn old.tap.log.events (real a c) → DrawnOnce new.tap.log.events
  served_once stash old new asked a c x once below free =
      let k = new.clock.dummies - old.clock.dummies in
      begin_once x.mid.events new.tap.log.events new.clock.next (Some asked) (real a c)
      (passes_once keys k old.tap.log x.mid (contents old) x.between old.clock.dummies x.passed once below).0
      (λ y has. free y (passes_has keys k old.tap.log x.mid (contents old) x.between old.clock.dummies x.passed a c y
      has))
      x.noted

-- No point is drawn twice in the log of a port.
abbrev Once : PortState → Type 0
Once s = DrawnOnce s.tap.log.events

-- the same log
same_once : (s t : PortState) → t.tap ≡ s.tap → Once s → Once t
same_once s t is once = subst (λ (x : TapState). DrawnOnce x.log.events) (sym is) once

module _ (keys : Keys) (levels : ℕ) where
  -- an event that draws nothing is noted
  noted_once : (s t : PortState) (event : Event) → count_by draws (event ∷ []) ≡ 0
      → HasNoted keys.leaf_of levels event s t → Once s → Once t
  noted_once s t event quiet note once =
      subst (λ (l : LogLists). DrawnOnce l.events) (sym note.log)
      (once_silent s.tap.log.events (event ∷ []) once (silent_by (event ∷ []) quiet))

  accept_once : (access : Access) (found : Option Entry) (s t : PortState) (x : Unit {0})
      → Ends (PortStep keys.leaf_of levels) (accept_plan access found) s t x → Once s → Once t
  accept_once access None s t x ends once = subst Once (sym ends.1) once
  accept_once access (Some entry) s t x (said, m, one, (is, same)) once =
      subst Once (sym same) (noted_once s m (Accepted (found_message access entry.line) entry.tag)
      (count_by-cons draws (Accepted (found_message access entry.line) entry.tag) []) one.1 once)

  put_once : (message : Message) (s t : PortState) (x : Unit {0})
      → Ends (PortStep keys.leaf_of levels) (put_plan keys message) s t x → Once s → Once t
  put_once message s t x (said, m, one, (say, n, two, (is, same))) once =
      subst Once (sym same) (same_once m n two.1.others.tap
      (noted_once s m (Tagged message) (count_by-cons draws (Tagged message) []) one.1 once))

  back_once : (access : Access) (line : Line) (purpose : Purpose) (s t : PortState) (x : Unit {0})
      → Ends (PortStep keys.leaf_of levels) (back_plan keys access line purpose) s t x → Once s → Once t
  back_once access line Refill s t x ends once = subst Once (sym ends.1) once
  back_once access line Keep s t x ends once = put_once (next_message access line) s t x ends once
  back_once access line (Replace value) s t x ends once = put_once (next_message access value) s t x ends once

module _ (keys : Keys) (lawful : AreKeys keys) (levels : ℕ) where
  -- the dummies of a log that is known
  below_known : (g : Ghost) (s : PortState) → IsKnown keys g s → Under s.clock.dummies s.tap.log.events
  below_known g s known m x has = let less = known.sound.dummies m x has in omega (arith, less, known.dummies)

  -- the path can't be written
  close_stop : (line : Line) (s t : PortState) (stop : Stop)
      → Stops (PortStep keys.leaf_of levels) (close_plan keys line) s t stop tt → Once s → Once t
  close_stop line s t stop (inl one) once =
      writes_once (keys_of s.tree keys.tags keys.leaf_of) s.tree.stash one.0.path.start one.0.path.leaf.0 stop
      s.tap.log t.tap.log (contents s) (contents t) (one.0.breaks keys.tags) once
  close_stop line s t stop (inr (x, m, one, none)) once = absurd none

  -- the rest of a slot stops
  finish_stop : (access : Access) (found : Option Entry) (s t : PortState) (stop : Stop)
      → Stops (PortStep keys.leaf_of levels) (finish_plan keys access found) s t stop tt → Once s → Once t
  finish_stop access found s t stop stops once = elim (Stops-unbind (PortStep keys.leaf_of levels) (λ left. left)
      (accept_plan access found) _ s t stop tt stops) [
        | inl first ↦ absurd (accept_passes keys lawful levels access found s t stop first.1)
        | inr (x, m, first, rest) ↦ elim (Stops-unbind (PortStep keys.leaf_of levels) (λ left. left)
            (back_plan keys access (found_line found) access.purpose) _ m t stop tt rest) [
              | inl back ↦ absurd (back_passes keys lawful levels access (found_line found) access.purpose m t stop
                  back.1)
              | inr (y, n, back, close) ↦ close_stop (found_line found) n t stop close
                  (back_once keys levels access (found_line found) access.purpose m n y back
                  (accept_once keys levels access found s m x first once))
            ]
      ]

  judged_stop : (access : Access) (found : Option Entry) (verdict : Option Evidence) (s t : PortState) (stop : Stop)
      → Stops (PortStep keys.leaf_of levels) (judged_plan keys access found verdict) s t stop tt → Once s → Once t
  judged_stop access found (Some wrong) s t stop (inl one) once = absurd one.0
  judged_stop access found (Some wrong) s t stop (inr (x, m, one, none)) once = absurd none
  judged_stop access found None s t stop stops once = finish_stop access found s t stop stops once

  -- the keys of a port
  abbrev own : PortState → Keys
  own s = keys_of s.tree keys.tags keys.leaf_of

  -- the slot can't be opened
  open_stop : (g : Ghost) (s t : PortState) (asked a : ℕ) (c : Counter) (stop : Stop) → IsKnown keys g s
      → Undrawn s.tap.log.events (real a c) → OpenStopped keys.leaf_of levels asked (real a c) stop s t → Once t
  open_stop g s t asked a c stop known free x = by_stop stop (x.breaks keys.tags)
    where
      below : Under s.clock.dummies s.tap.log.events
      below = below_known g s known

      broken : (why : Stop)
          → (PassesStop (own s) s.tree.stash why s.tap.log t.tap.log (contents s) (contents t) t.clock.next
          s.clock.dummies × (t.clock.next < min asked s.clock.config.time))
          ⊎ (AskedStops (own s) s.tree.stash why s.tap.log t.tap.log (contents s) (contents t) t.clock.next
          s.clock.dummies asked (real a c) × (t.clock.next < s.clock.config.time)) → Once t
      broken why (inl (passes, early)) =
          passes_stop (own s) s.tree.stash why s.tap.log t.tap.log (contents s) (contents t) t.clock.next
          s.clock.dummies passes known.points below
      broken why (inr (slot, early)) =
          asked_stop (own s) s.tree.stash why s.tap.log t.tap.log (contents s) (contents t) t.clock.next
          s.clock.dummies asked a c slot known.points below free

      by_stop : (why : Stop) → OpenBreaks keys.leaf_of levels asked (real a c) why s t keys.tags → Once t
      by_stop (TimeUp at) (up, passed, more, few) =
          (passes_once (own s) (t.clock.dummies - s.clock.dummies) s.tap.log t.tap.log (contents s) (contents t)
          s.clock.dummies passed known.points below).0
      by_stop (Integrity evidence) breaks = broken (Integrity evidence) breaks
      by_stop (StashFull held) breaks = broken (StashFull held) breaks
      by_stop Device breaks = broken Device breaks
      by_stop NoMemory breaks = broken NoMemory breaks

  -- An access whose point wasn't drawn before is stopped.
  pub slot_stop : (g : Ghost) (access : Access) (s t : PortState) (stop : Stop) → IsKnown keys g s
      → Undrawn s.tap.log.events (real access.address.0 access.counter)
      → SlotStep keys levels s (Slot access) (Err stop) t → Once t
  slot_stop g access s t stop known free (inl (x, one, opened, (y, two, took, ends))) =
      let (wrong, is, tap) = judged_refuses keys lawful levels access y.found _ two t stop ends in
      same_once one t (tap ∙ took.1.others.tap)
      (served_once (own s) s.tree.stash s one access.asked access.address.0 access.counter
      (opened.1.served keys.tags) known.points (below_known g s known) free)
  slot_stop g access s t stop known free (inr (inl (inl had, left))) = subst Once (sym had.1) known.points
  slot_stop g access s t stop known free (inr (inl (inr broken, left))) =
      open_stop g s t access.asked access.address.0 access.counter stop known free broken
  slot_stop g access s t stop known free (inr (inr (x, one, opened, inl taken))) = absurd taken.0
  slot_stop g access s t stop known free (inr (inr (x, one, opened, inr (y, two, took, stops)))) =
      judged_stop access y.found _ two t stop stops
      (same_once one two took.1.others.tap
      (served_once (own s) s.tree.stash s one access.asked access.address.0 access.counter
      (opened.1.served keys.tags) known.points (below_known g s known) free))

  tagged_once : (message : Message) (s t : PortState) → HasNoted keys.leaf_of levels (Tagged message) s t → Once s
      → Once t
  tagged_once message s t = noted_once keys levels s t (Tagged message) (count_by-cons draws (Tagged message) [])

  -- A displaced block is refused.
  pub append_stop : (g : Ghost) (message : Message) (s t : PortState) (stop : Stop) → IsKnown keys g s
      → SlotStep keys levels s (Append message) (Err stop) t → Once t
  append_stop g message s t stop known (inl (x, one, note, (y, two, join, (is, same)))) = absurd (cc)
  append_stop g message s t stop known (inr (inl noted)) = absurd noted.0
  append_stop g message s t stop known (inr (inr (x, one, note, inl (inl had, left)))) =
      subst Once (sym had.1) (tagged_once message s one note.1 known.points)
  append_stop g message s t stop known (inr (inr (x, one, note, inl (inr broken, left)))) =
      same_once one t broken.tap (tagged_once message s one note.1 known.points)
  append_stop g message s t stop known (inr (inr (x, one, note, inr (y, two, join, none)))) = absurd none

  -- A dummy up to a time stops.
  pub idle_stop : (g : Ghost) (s t : PortState) (time : ℕ) (stop : Stop) → IsKnown keys g s
      → PortStep keys.leaf_of levels s (Idle time) (Err stop) t → Once t
  idle_stop g s t time stop known (inl had) = subst Once (sym had.1) known.points
  idle_stop g s t time stop known (inr x) =
      passes_stop (own s) s.tree.stash stop s.tap.log t.tap.log (contents s) (contents t) t.clock.next s.clock.dummies
      (x.breaks keys.tags) known.points (below_known g s known)
