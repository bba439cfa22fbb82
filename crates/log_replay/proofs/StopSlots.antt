-- What a stopped access leaves, from the port's calls that it is made of.
use Rattle.std.proofs.Common.{◌≡◌, ◌<◌, ◌+◌, ◌-◌, ◌++◌, inl, inr, ℕ, List, [], ◌∷◌, length, Option, None, Some, Ok}
use Rattle.std.proofs.Common.{Err, refl, sym, ◌∙◌, ap, subst, subst₂, arith, append-nil}
use Rattle.request_plan.specs.Plan.{Ends, Stops, Refuses}
use Rattle.request_plan.proofs.Chains.{Ends-unbind, Stops-unbind}
use Rattle.asc_base.specs.declared.block.Entry.{Entry}
use Rattle.asc_base.specs.declared.block.Line.{Line}
use Rattle.asc_base.specs.declared.block.Message.{Message}
use Rattle.asc_base.specs.declared.block.Point.{Point}
use Rattle.asc_base.specs.declared.block.Point.TheVariants.{Real}
use Rattle.asc_base.specs.declared.settings.Config.{Config}
use Rattle.asc_base.specs.declared.shape.Shape.{Shape}
use Rattle.asc_base.specs.declared.stop.Evidence.{Evidence}
use Rattle.asc_base.specs.declared.stop.Stop.{Stop}
use Rattle.asc_base.specs.declared.stop.Stop.TheVariants.{Integrity}
use Rattle.bus_schedule.specs.Schedule.{moves_of}
use Rattle.bus_schedule.specs.Scheduled.{log_code}
use Rattle.bus_schedule.specs.Timetable.{public_of, starts}
use Rattle.bus_watch.specs.Log.{LogLists, TapState}
use Rattle.bus_watch.specs.Path.{reads}
use Rattle.bus_watch.specs.declared.log.Event.{Event}
use Rattle.bus_watch.specs.declared.log.Event.TheVariants.{Tagged}
use Rattle.bus_watch.specs.declared.log.Move.{Move}
use Rattle.oram_contents.specs.Contents.{Contents}
use Rattle.oram_contents.specs.Entries.{Keys, AreKeys}
use Rattle.oram_contents.specs.Fold.{tagged_entry}
use Rattle.oram_contents.specs.Provenance.{Always}
use Rattle.oram_contents.specs.Slots.{drawn_events}
use Rattle.oram_contents.specs.Steps.{accepted}
use Rattle.oram_contents.specs.Verdict.{integrity, judged, read_verdict, put_events, put_entries, IsOfPoint}
use Rattle.oram_frontend.specs.Access.{accept_plan, put_plan, back_plan, judged_plan, close_plan, finish_plan, SlotStep}
use Rattle.oram_frontend.specs.Access.{found_line, next_message}
use Rattle.oram_frontend.specs.Slots.{FitKeys}
use Rattle.oram_frontend.proofs.SlotLaws.{keys_fit, Under, taken, accepted_on, put_back_on, IsOpenFor, open_accepted}
use Rattle.oram_frontend.proofs.SlotLaws.{open_put}
use Rattle.oram_stash.specs.Entries.{without}
use Rattle.oram_walk.specs.Request.{Slot as AccessSlot}
use Rattle.oram_walk.specs.declared.slots.Access.{Access}
use Rattle.oram_walk.specs.declared.slots.Purpose.{Purpose}
use Rattle.oram_walk.specs.declared.slots.Purpose.TheVariants.{Refill, Keep, Replace}
use Rattle.rate_enforcer.specs.Breaks.{Begins, WriteStops}
use Rattle.rate_enforcer.specs.PortStep.{PortState, PortStep, Resting, InSlot, Opened, Taken, Aborted, CloseStopped}
use Rattle.rate_enforcer.specs.PortStep.{contents}
use Rattle.rate_enforcer.specs.Served.{IsServed}
use Rattle.unified_tree.specs.Tree.{TreeState}
use Rattle.unified_tree.specs.declared.stop.OpenPath.{OpenPath}
use Rattle.log_replay.specs.Replayed.{IsReplayedPort, StopsReplayed}
use Rattle.log_replay.proofs.BlockSlots.{found_whole}
use Rattle.log_replay.proofs.StopAlways.{taken_always, put_always}
use Rattle.log_replay.proofs.StopLogs.{LogStops, wrong_stops, writes_stop}
use Rattle.log_replay.proofs.StopPorts.{stops_at, behind_dummies, open_stops}

-- the last moves in an open slot are its reads
slot_reads : (keys : Keys) (notes levels leaf : ℕ) (s : PortState) → FitKeys keys s → InSlot notes levels leaf s
    → (before : List Move) × (s.tap.log.moves ≡ before ++ reads keys.shape.levels s.clock.next leaf)
slot_reads keys notes levels leaf s fits slot =
    let inside = slot.opens.stands.inside in
    let config : Config = s.clock.config in
    let before : List Move = moves_of config.shape.levels
    (starts (public_of config) (log_code (public_of config) s.tap.log) slot.opens.done) inside.before in
    let same : config.shape ≡ keys.shape = sym slot.opens.is_for.shape ∙ fits.shape in (
      before,
      inside.moves
          ∙ ap (λ (x : Shape). before ++ reads x.levels s.clock.next slot.slot.leaf.0) same
          ∙ ap (λ n. before ++ reads keys.shape.levels s.clock.next n) slot.leaf_is,
    )

module _ (keys : Keys) (lawful : AreKeys keys) (levels notes : ℕ) (old new : PortState)
    (known : IsReplayedPort keys old) (rests : Resting notes levels old) (access : Access)
    (inside : access.address.0 < keys.shape.total)
    (wide : (value : Line) → access.purpose ≡ Replace value → length value.0 ≡ 64) where
  abbrev stash : ℕ
  stash = old.tree.stash

  abbrev point : Point
  point = Real access.address access.counter

  -- ---- the slot is given up
  module _ (found : Option Entry) (one two : PortState)
      (opened : Opened keys.leaf_of levels access.asked point old one)
      (took : Taken keys.leaf_of levels access.address found one two) where
    pub in-slot : InSlot (notes + 3) levels (keys.leaf_of point) two
    in-slot = took.in_slot (notes + 3) (keys.leaf_of point) (opened.in_slot notes rests)

    abort_left : (evidence : Evidence) (end : ℕ) → judged keys access.address.0 access.counter found ≡ Some evidence
        → Aborted keys.leaf_of levels (Integrity evidence) end two new
        → StopsReplayed keys old.tree.stash (Integrity evidence) new
    abort_left evidence end wrong a =
        let served : IsServed keys old.tree.stash old.tap.log one.tap.log (contents old) (contents one)
        old.clock.dummies one.clock access.asked point =
        subst (λ (k : Keys). IsServed k old.tree.stash old.tap.log one.tap.log (contents old) (contents one)
        old.clock.dummies one.clock access.asked point) (keys_fit keys old known.fits) (opened.served keys.tags) in
        let k : ℕ = one.clock.dummies - old.clock.dummies in
        let base = behind_dummies keys lawful levels notes old new known rests k served.mid served.between served.passed
        served.few in
        let begins : Begins keys served.mid one.tap.log one.clock.next (Some access.asked) point = record {
          altered = served.read.altered;
          adds = record { events_are = served.noted; altered_are = served.read.adds.altered_are };
          noted = served.read.noted;
        } in
        let fits : FitKeys keys one = record {
          shape = opened.same.tree.shape ∙ known.fits.shape;
          pads = opened.same.tree.key ∙ known.fits.pads;
        } in
        let (before, moves) = slot_reads keys (notes + 3) levels (keys.leaf_of point) one fits
        (opened.in_slot notes rests) in
        let read_wrong : read_verdict keys point (Ok one.tree.hand) ≡ Some (Integrity evidence) =
        ap integrity (ap (judged keys access.address.0 access.counter) (sym took.found_is) ∙ wrong) in
        let same : new.tap ≡ one.tap = a.tap ∙ took.others.tap in
        let mirror : new.tap.mirror ≡ served.between.mirror =
        ap (λ (t : TapState). t.mirror) same ∙ ap (λ (c : Contents). c.mirror) served.after_is in
        let seed : new.tree.seed ≡ served.between.seed =
        ap (λ (t : TreeState). t.seed) a.tree ∙ took.others.seed ∙ ap (λ (c : Contents). c.seed) served.after_is in
        let here : LogStops keys old.tree.stash (Integrity evidence) one.tap.log (contents new) =
        wrong_stops keys old.tree.stash served.mid served.between (old.clock.dummies + k) base one.clock.next
        (Some access.asked) point (access.asked, refl) one.tap.log begins evidence one.tree.hand before
        (contents new) served.read.read read_wrong moves mirror seed in
        stops_at keys old.tree.stash (Integrity evidence) new
        (subst (λ (l : LogLists). LogStops keys old.tree.stash (Integrity evidence) l (contents new))
        (sym (ap (λ (t : TapState). t.log) same)) here)

  -- ---- its writes are stopped
  module _ (found : Option Entry) (put : Option Message) (s : PortState) (later : List Event) (back : List Entry)
      (u : Under keys levels access found old s later back) (least : ℕ)
      (open_for : IsOpenFor keys levels access least s)
      (later_is : later ≡ accepted access.address.0 access.counter found ++ (put_events put ++ []))
      (back_is : back ≡ put_entries keys put) (put_of : IsOfPoint put point)
      (at_hand : Always keys s.tap.log (contents s)) where
    path_is : (path : OpenPath) → s.tree.path ≡ Some path
        → (path.start ≡ u.start) × (path.leaf.0 ≡ keys.leaf_of point)
    path_is path on =
        let slot = open_for.2 in
        let open_path : Some path ≡ Some (record { start = slot.slot.start; leaf = slot.slot.leaf }) =
        sym on ∙ slot.opens.is_open.path in
        let same : path ≡ record { start = slot.slot.start; leaf = slot.slot.leaf } = cc in (
          ap (λ (x : OpenPath). x.start) same ∙ slot.opens.is_open.starts ∙ u.next,
          ap (λ (x : OpenPath). x.leaf.0) same ∙ slot.leaf_is,
        )

    breaks : (stop : Stop) → CloseStopped keys.leaf_of levels stop s new
        → WriteStops keys old.tree.stash stop s.tap.log new.tap.log (contents s) (contents new) u.start
        (keys.leaf_of point)
    breaks stop h =
        let (start, leaf) = path_is h.path h.on in
        let fitting = subst₂ (λ (k : Keys) (n : ℕ). WriteStops k n stop s.tap.log new.tap.log (contents s)
        (contents new) h.path.start h.path.leaf.0) (keys_fit keys s u.fits) u.stash (h.breaks keys.tags) in
        subst₂ (λ (n x : ℕ). WriteStops keys old.tree.stash stop s.tap.log new.tap.log (contents s) (contents new) n x)
        start leaf fitting

    close_left : (stop : Stop) → CloseStopped keys.leaf_of levels stop s new
        → StopsReplayed keys old.tree.stash stop new
    close_left stop h =
        let base = behind_dummies keys lawful levels notes old new known rests u.passed u.mid u.between u.passes u.few
        in
        let (before, moves) = slot_reads keys open_for.0 levels (keys.leaf_of point) s u.fits open_for.2 in
        stops_at keys old.tree.stash stop new
        (writes_stop keys old.tree.stash u.mid u.between (old.clock.dummies + u.passed) base u.start
        (Some access.asked) point (access.asked, refl) s.tap.log found put u.altered u.joined
        (record {
          events_are = u.events_are
              ∙ ap (λ l. u.mid.events ++ (drawn_events keys u.start (Some access.asked) point ++ l)) later_is;
          altered_are = u.altered_are;
        })
        u.noted u.read
        (ap (λ f. integrity (judged keys access.address.0 access.counter f)) u.found_is ∙ ap integrity u.right)
        (u.found_is, u.right, tt) put_of before
        (moves ∙ ap (λ n. before ++ reads keys.shape.levels n (keys.leaf_of point)) u.next) lawful u.seeds
        (subst (λ (c : Contents). Always keys s.tap.log c) left at_hand) stop (contents s) (contents new) left
        new.tap.log (breaks stop h))
      where
        left : contents s
            ≡ record u.between { hand = without u.joined access.address ++ put_entries keys put }
        left = u.contents_are ∙ ap (λ b. record u.between { hand = without u.joined access.address ++ b }) back_is

  -- ---- the rest of a slot in which nothing is wrong
  finish_gives : (found : Option Entry) (s : PortState) (stop : Stop)
      → Ends (PortStep keys.leaf_of levels) (finish_plan keys access found) s new (Refuses stop) → ⊥
  finish_gives found s stop ends =
      let (x, m, first, rest) = Ends-unbind (PortStep keys.leaf_of levels) (λ left. left) (accept_plan access found) _
      s new (Refuses stop) ends in
      let (y, n, back, close) = Ends-unbind (PortStep keys.leaf_of levels) (λ left. left)
      (back_plan keys access (found_line found) access.purpose) _ m new (Refuses stop) rest in
      closes close
    where
      closes : {t : PortState}
          → Ends (PortStep keys.leaf_of levels) (close_plan keys (found_line found)) t new (Refuses stop) → ⊥
      closes (x, mid, one, (is, same)) = absurd (cc)

  put_passes : (message : Message) (s t : PortState) (stop : Stop)
      → Stops (PortStep keys.leaf_of levels) (put_plan keys message) s t stop tt → ⊥
  put_passes message s t stop (inl one) = one.0
  put_passes message s t stop (inr (x, m, one, inl two)) = two.0
  put_passes message s t stop (inr (x, m, one, inr (y, n, two, none))) = none

  back_passes : (line : Line) (purpose : Purpose) (s t : PortState) (stop : Stop)
      → Stops (PortStep keys.leaf_of levels) (back_plan keys access line purpose) s t stop tt → ⊥
  back_passes line Refill s t stop stops = stops
  back_passes line Keep s t stop stops = put_passes (next_message access line) s t stop stops
  back_passes line (Replace value) s t stop stops = put_passes (next_message access value) s t stop stops

  accept_passes : (found : Option Entry) (s t : PortState) (stop : Stop)
      → Stops (PortStep keys.leaf_of levels) (accept_plan access found) s t stop tt → ⊥
  accept_passes None s t stop stops = stops
  accept_passes (Some entry) s t stop (inl one) = one.0
  accept_passes (Some entry) s t stop (inr (x, m, one, none)) = none

  -- the path isn't written to its end
  module _ (found : Option Entry) (stop : Stop) where
    abbrev noted : List Event
    noted = accepted access.address.0 access.counter found

    close_by : (put : Option Message) (s : PortState) (later : List Event) (back : List Entry)
        → Under keys levels access found old s later back → (least : ℕ) → IsOpenFor keys levels access least s
        → later ≡ accepted access.address.0 access.counter found ++ (put_events put ++ [])
        → back ≡ put_entries keys put → IsOfPoint put point → Always keys s.tap.log (contents s)
        → Stops (PortStep keys.leaf_of levels) (close_plan keys (found_line found)) s new stop tt
        → StopsReplayed keys old.tree.stash stop new
    close_by put s later back u least open_for later_is back_is put_of at_hand (inl one) =
        close_left found put s later back u least open_for later_is back_is put_of at_hand stop one.0
    close_by put s later back u least open_for later_is back_is put_of at_hand (inr (x, m, one, none)) = absurd none

    -- what holds always where a slot is under way
    always_under : (s : PortState) (later : List Event) (back : List Entry)
        → (u : Under keys levels access found old s later back) → Always keys u.mid u.between
    always_under s later back u =
        (behind_dummies keys lawful levels notes old new known rests u.passed u.mid u.between u.passes u.few).always

    put_by : (line : Line) → length line.0 ≡ 64 → (s t : PortState) (x : Unit {0})
        → Ends (PortStep keys.leaf_of levels) (put_plan keys (next_message access line)) s t x
        → Stops (PortStep keys.leaf_of levels) (close_plan keys (found_line found)) t new stop tt
        → IsOpenFor keys levels access (notes + 1 + 1) s
        → Under keys levels access found old s (accepted access.address.0 access.counter found) []
        → StopsReplayed keys old.tree.stash stop new
    put_by line wide s t x back close open_for u =
        let message : Message = next_message access line in
        let after : Under keys levels access found old t (noted ++ Tagged message ∷ [])
        (tagged_entry keys message ∷ []) =
        put_back_on keys levels access found old s t noted message x back u in
        close_by (Some message) t (noted ++ Tagged message ∷ []) (tagged_entry keys message ∷ []) after (notes + 1)
        (open_put keys levels access message (notes + 1) s t x back open_for) refl refl refl
        (subst (λ (c : Contents). Always keys t.tap.log c) (sym after.contents_are)
        (put_always keys lawful after.mid t.tap.log after.between after.start access.address.0 (Some access.asked)
        access.counter found after.altered after.joined after.altered_are after.noted after.read after.of_shape
        after.found_is after.right
        (always_under t (noted ++ Tagged message ∷ []) (tagged_entry keys message ∷ []) after)
        access.next line.0 inside wide after.events_are)) close

    close_after : (purpose : Purpose) → access.purpose ≡ purpose → (s t : PortState) (x : Unit {0})
        → Ends (PortStep keys.leaf_of levels) (back_plan keys access (found_line found) purpose) s t x
        → Stops (PortStep keys.leaf_of levels) (close_plan keys (found_line found)) t new stop tt
        → IsOpenFor keys levels access (notes + 1 + 1) s
        → Under keys levels access found old s (accepted access.address.0 access.counter found) []
        → StopsReplayed keys old.tree.stash stop new
    close_after Refill is s t x back close open_for u =
        close_by None s noted [] u (notes + 1 + 1) open_for (sym (append-nil noted)) refl tt
        (subst (λ (c : Contents). Always keys s.tap.log c)
        (sym (u.contents_are ∙ ap (λ (h : List Entry). record u.between { hand = h })
        (append-nil (without u.joined access.address))))
        (taken_always keys lawful u.mid s.tap.log u.between u.start access.address.0 (Some access.asked)
        access.counter found u.altered u.joined u.altered_are u.noted u.read u.of_shape u.found_is u.right
        (always_under s noted [] u) u.events_are))
        (subst (λ v. Stops (PortStep keys.leaf_of levels) (close_plan keys (found_line found)) v new stop tt) back.1
        close)
    close_after Keep is s t x back close open_for u =
        put_by (found_line found) (found_whole keys u.joined access.address.0 found u.of_shape u.found_is) s t x back
        close open_for u
    close_after (Replace value) is s t x back close open_for u =
        put_by value (wide value is) s t x back close open_for u

    finish_left : (one two : PortState) → Opened keys.leaf_of levels access.asked point old one
        → Taken keys.leaf_of levels access.address found one two
        → judged keys access.address.0 access.counter found ≡ None
        → Stops (PortStep keys.leaf_of levels) (finish_plan keys access found) two new stop tt
        → StopsReplayed keys old.tree.stash stop new
    finish_left one two opened took right stops =
        let u = taken keys levels notes access found old one two known.fits rests opened took right in
        elim (Stops-unbind (PortStep keys.leaf_of levels) (λ left. left) (accept_plan access found) _ two new stop tt
        stops) [
          | inl first ↦ absurd (accept_passes found two new stop first.1)
          | inr (x, s, first, rest) ↦
              elim (Stops-unbind (PortStep keys.leaf_of levels) (λ left. left)
              (back_plan keys access (found_line found) access.purpose) _ s new stop tt rest) [
                | inl back ↦ absurd (back_passes (found_line found) access.purpose s new stop back.1)
                | inr (y, t, back, close) ↦
                    close_after access.purpose refl s t y back close
                    (open_accepted keys levels access found (notes + 1 + 1) two s x first (
                      notes + 3,
                      omega arith,
                      in-slot found one two opened took,
                    ))
                    (accepted_on keys levels access found old two s x first u)
              ]
        ]

    judged_ends : (verdict : Option Evidence) → judged keys access.address.0 access.counter found ≡ verdict
        → (one two : PortState) → Opened keys.leaf_of levels access.asked point old one
        → Taken keys.leaf_of levels access.address found one two
        → Ends (PortStep keys.leaf_of levels) (judged_plan keys access found verdict) two new (Refuses stop)
        → StopsReplayed keys old.tree.stash stop new
    judged_ends (Some evidence) wrong one two opened took (said, m, aborted, (is, same)) =
        let this : stop ≡ Integrity evidence = cc in
        subst (λ x. StopsReplayed keys old.tree.stash x new) (sym this)
        (abort_left found one two opened took evidence said.end wrong
        (subst (λ v. Aborted keys.leaf_of levels (Integrity evidence) said.end two v) (sym same) aborted.1))
    judged_ends None right one two opened took ends = absurd (finish_gives found two stop ends)

    judged_stops : (verdict : Option Evidence) → judged keys access.address.0 access.counter found ≡ verdict
        → (one two : PortState) → Opened keys.leaf_of levels access.asked point old one
        → Taken keys.leaf_of levels access.address found one two
        → Stops (PortStep keys.leaf_of levels) (judged_plan keys access found verdict) two new stop tt
        → StopsReplayed keys old.tree.stash stop new
    judged_stops (Some evidence) wrong one two opened took (inl abort) = absurd (abort.0)
    judged_stops (Some evidence) wrong one two opened took (inr (x, m, abort, none)) = absurd none
    judged_stops None right one two opened took stops = finish_left one two opened took right stops

  -- A stopped access: a dummy before its slot stops, or the slot does, or no slot is left.
  pub slot_stops : (stop : Stop) → SlotStep keys levels old (AccessSlot access) (Err stop) new
      → StopsReplayed keys old.tree.stash stop new
  slot_stops stop (inl (x, one, opened, (y, two, took, ends))) =
      judged_ends y.found stop (judged keys access.address.0 access.counter y.found) refl one two opened.1 took.1 ends
  slot_stops stop (inr (inl (inl before, left))) =
      absurd (let bad : ◌≡◌ {A = Option Stop} None (Some stop) = sym rests.going ∙ before.0 in cc)
  slot_stops stop (inr (inl (inr h, left))) =
      open_stops keys lawful levels notes old new known rests access stop h
  slot_stops stop (inr (inr (x, one, opened, inl none))) = absurd (none.0)
  slot_stops stop (inr (inr (x, one, opened, inr (y, two, took, stops)))) =
      judged_stops y.found stop (judged keys access.address.0 access.counter y.found) refl one two opened.1 took.1
      stops
