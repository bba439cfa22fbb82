-- What one request of a walk leaves, by the port's calls that it is made of.
use Rattle.std.proofs.Common.{◌≡◌, ◌+◌, ◌<◌, ℕ, Option, None, Some, Result, Err, refl, sym, ap, subst, inl, inr}
use Rattle.std.proofs.Common.{arith, is_some, length, nat_lt, Bool, true, false, if◌then◌else◌}
use Rattle.request_plan.specs.Plan.{Ends, Stops, Refuses}
use Rattle.request_plan.proofs.Chains.{Ends-unbind, Stops-unbind}
use Rattle.asc_base.specs.TreeShape.{olat_of}
use Rattle.asc_base.specs.declared.block.Address.{Address}
use Rattle.asc_base.specs.declared.block.Entry.{Entry}
use Rattle.asc_base.specs.declared.block.Line.{Line}
use Rattle.asc_base.specs.declared.block.Message.{Message}
use Rattle.asc_base.specs.declared.block.Point.TheVariants.{Real}
use Rattle.asc_base.specs.declared.stop.Evidence.{Evidence}
use Rattle.asc_base.specs.declared.stop.Evidence.TheVariants.{Doubled}
use Rattle.asc_base.specs.declared.stop.Stop.{Stop}
use Rattle.asc_base.specs.declared.stop.Stop.TheVariants.{Integrity, StashFull, TimeUp, Device, NoMemory}
use Rattle.asc_outside.specs.Memory.{MemoryState}
use Rattle.bus_watch.specs.Log.{TapState}
use Rattle.bus_watch.specs.declared.log.Event.TheVariants.{Tagged}
use Rattle.bus_watch.specs.RunEnd.{Whole}
use Rattle.bus_watch.specs.Tied.{Tied}
use Rattle.epoch_learner.specs.Stands.{KeepsPace}
use Rattle.oram_contents.specs.Entries.{Keys}
use Rattle.oram_contents.specs.Fold.{tagged_entry}
use Rattle.oram_frontend.specs.Access.{judged_plan, finish_plan, accept_plan, back_plan, close_plan, put_plan}
use Rattle.oram_frontend.specs.Access.{found_line, SlotStep}
use Rattle.oram_stash.specs.Entries.{held}
use Rattle.oram_walk.specs.Request.{Slot, Append, Answer}
use Rattle.oram_walk.specs.declared.slots.Access.{Access}
use Rattle.oram_walk.specs.declared.slots.Purpose.{Purpose}
use Rattle.oram_walk.specs.declared.slots.Purpose.TheVariants.{Refill, Keep, Replace}
use Rattle.rate_enforcer.specs.PortStep.{PortState, PortStep, PortRequest, Open, Take, Note, Said, Resting, InSlot}
use Rattle.rate_enforcer.specs.PortStep.{Aborted, JoinStopped}
use Rattle.rate_enforcer.proofs.Counted.{counted_still}
use Rattle.rate_enforcer.proofs.Steps.{of_slot}
use Rattle.rate_enforcer.specs.Stops.{IsEndOf}
use Rattle.rate_enforcer.specs.declared.clock.Clock.{Clock}
use Rattle.secure_machine.specs.Goes.{Breaks, PaceAt}
use Rattle.secure_machine.proofs.PortGoes.{still_asked, still_told, goes_then, breaks_then, step_goes, plan_goes}
use Rattle.secure_machine.proofs.PortGoes.{open_breaks, close_breaks}
use Rattle.secure_machine.proofs.PortGoes.{resting_pace}

-- a port of which only the clock's stop and end are set
module _ {stop : Stop} {old new : PortState} (memory : new.memory ≡ old.memory) (tap : new.tap ≡ old.tap)
    (config : new.clock.config ≡ old.clock.config) (learner : new.clock.learner ≡ old.clock.learner)
    (dummies : new.clock.dummies ≡ old.clock.dummies) (real : new.clock.real ≡ old.clock.real)
    (is : IsEndOf stop Whole) (device : stop ≡ Device → ⊥)
    (pace : PaceAt old.clock.config stop new)
    (in_time : new.clock.last < old.clock.config.time + olat_of old.clock.config.shape.levels) where
  pub quiet_breaks : Breaks stop old new
  quiet_breaks = record {
    config = config;
    counts = λ counted. counted_still old.clock new.clock old.tap.log new.tap.log
        (ap (λ (t : TapState). t.log.events) tap) config learner dummies real counted;
    tied = λ start buckets tied. (
      Whole,
      is,
      subst (λ (t : TapState). Tied start buckets new.memory t) (sym tap)
          (subst (λ (m : MemoryState). Tied start buckets m old.tap) (sym memory) tied),
    );
    later = let same : new.memory.faults ≡ old.memory.faults = ap (λ (m : MemoryState). m.faults) memory in
        omega (arith, same);
    cause = λ bad. absurd (device bad);
    pace = pace;
    in_time = in_time;
    unaltered = λ tells. ap (λ (t : TapState). t.log.altered) tap;
    told = λ other. still_told old new memory tap;
    prepared = ap (λ (m : MemoryState). m.count) memory;
    asked = still_asked old new memory tap;
  }

module _ (keys : Keys) (levels : ℕ) where
  abbrev Calls : PortState → PortRequest → Result Said Stop → PortState → Type 0
  Calls = PortStep keys.leaf_of levels

  -- ---- a slot that nothing is wrong in gives an answer, or stops at its end
  finish_gives : (access : Access) (found : Option Entry) (stop : Stop) (old new : PortState)
      → Ends Calls (finish_plan keys access found) old new (Refuses stop) → ⊥
  finish_gives access found stop old new ends =
      let (x, mid, accepted, later) = Ends-unbind Calls (λ left. left) (accept_plan access found) _ old new
      (Refuses stop) ends in
      let (y, after, back, close) = Ends-unbind Calls (λ left. left)
      (back_plan keys access (found_line found) access.purpose) _ mid new (Refuses stop) later in
      let (said, last, closed, is) = close in cc

  accept_stops : (access : Access) (found : Option Entry) (stop : Stop) (old new : PortState) (left : Unit {0})
      → Stops Calls (accept_plan access found) old new stop left → ⊥
  accept_stops access None stop old new left stops = stops
  accept_stops access (Some entry) stop old new left (inl one) = one.0
  accept_stops access (Some entry) stop old new left (inr (said, mid, one, rest)) = rest

  put_stops : (message : Message) (stop : Stop) (old new : PortState) (left : Unit {0})
      → Stops Calls (put_plan keys message) old new stop left → ⊥
  put_stops message stop old new left (inl one) = one.0
  put_stops message stop old new left (inr (said, mid, one, inl put)) = put.0
  put_stops message stop old new left (inr (said, mid, one, inr (said', mid', two, rest))) = rest

  back_stops : (access : Access) (line : Line) (purpose : Purpose) (stop : Stop) (old new : PortState) (left : Unit {0})
      → Stops Calls (back_plan keys access line purpose) old new stop left → ⊥
  back_stops access line Refill stop old new left stops = stops
  back_stops access line Keep stop old new left stops = put_stops _ stop old new left stops
  back_stops access line (Replace value) stop old new left stops = put_stops _ stop old new left stops

  close_stops : (line : Line) (stop : Stop) (old new : PortState) (left : Unit {0})
      → Stops Calls (close_plan keys line) old new stop left → Breaks stop old new
  close_stops line stop old new left (inl one) = close_breaks keys.leaf_of levels stop old new one.0
  close_stops line stop old new left (inr (said, mid, one, rest)) = absurd rest

  finish_stops : (access : Access) (found : Option Entry) (stop : Stop) (old new : PortState) (left : Unit {0})
      → Stops Calls (finish_plan keys access found) old new stop left → Breaks stop old new
  finish_stops access found stop old new left stops =
      elim (Stops-unbind Calls (λ left. left) (accept_plan access found) _ old new stop left stops) [
        | inl first ↦ absurd (accept_stops access found stop old new first.0 first.1)
        | inr second ↦
            let (x, mid, accepted, later) = second in
            elim (Stops-unbind Calls (λ left. left) (back_plan keys access (found_line found) access.purpose) _ mid new
            stop left later) [
              | inl back ↦ absurd (back_stops access (found_line found) access.purpose stop mid new back.0 back.1)
              | inr last ↦
                  let (y, after, back, close) = last in
                  breaks_then (goes_then
                  (plan_goes keys.leaf_of levels (accept_plan access found) old mid x accepted)
                  (plan_goes keys.leaf_of levels (back_plan keys access (found_line found) access.purpose) mid after y
                  back))
                  (close_stops (found_line found) stop after new left close)
            ]
      ]

  -- ---- a slot that is given up after its reads
  abort_breaks : (notes leaf : ℕ) (evidence : Evidence) (end : ℕ) (old new : PortState)
      → old.clock.stop ≡ None → InSlot notes levels leaf old
      → Aborted keys.leaf_of levels (Integrity evidence) end old new → Breaks (Integrity evidence) old new
  abort_breaks notes leaf evidence end old new going slot h =
      let last : new.clock.last ≡ end = ap (λ (c : Clock). c.last) h.clock in
      let is_open = (of_slot (record { start = h.path.start; leaf = h.path.leaf }) slot.slot h.on slot.opens).is_open in
      quiet_breaks h.memory h.tap (ap (λ (c : Clock). c.config) h.clock) (ap (λ (c : Clock). c.learner) h.clock)
      (ap (λ (c : Clock). c.dummies) h.clock) (ap (λ (c : Clock). c.real) h.clock) refl (λ bad. cc)
      (subst (λ n. KeepsPace old.clock.config n new.tap.log) (sym last) (h.pace notes leaf slot))
      (omega (arith, last, h.end_is, is_open.starts, is_open.early))

  judged_breaks : (access : Access) (found : Option Entry) (verdict : Option Evidence) (notes leaf : ℕ) (stop : Stop)
      (old new : PortState) → old.clock.stop ≡ None → InSlot notes levels leaf old
      → Ends Calls (judged_plan keys access found verdict) old new (Refuses stop) → Breaks stop old new
  judged_breaks access found None notes leaf stop old new going slot ends =
      absurd (finish_gives access found stop old new ends)
  judged_breaks access found (Some evidence) notes leaf stop old new going slot (said, mid, (told, aborted), is) =
      let same : stop ≡ Integrity evidence = cc in
      subst (λ (s : Stop). Breaks s old new) (sym same)
      (subst (λ (t : PortState). Breaks (Integrity evidence) old t) (sym is.1)
      (abort_breaks notes leaf evidence said.end old mid going slot aborted))

  judged_stops : (access : Access) (found : Option Entry) (verdict : Option Evidence) (stop : Stop)
      (old new : PortState) (left : Unit {0})
      → Stops Calls (judged_plan keys access found verdict) old new stop left → Breaks stop old new
  judged_stops access found None stop old new left stops = finish_stops access found stop old new left stops
  judged_stops access found (Some evidence) stop old new left (inl one) = absurd one.0
  judged_stops access found (Some evidence) stop old new left (inr (said, mid, one, rest)) = absurd rest

  -- a slot that stops
  pub slot_breaks : (access : Access) (stop : Stop) (old new : PortState) → Resting 0 levels old
      → SlotStep keys levels old (Slot access) (Err stop) new → Breaks stop old new
  slot_breaks access stop old new rests (inl (said, one, opened, (told, two, took, rest))) =
      let slot = took.1.in_slot 3 (keys.leaf_of (Real access.address access.counter)) (opened.1.in_slot 0 rests) in
      breaks_then (goes_then (step_goes keys.leaf_of levels old
      (Open access.asked (Real access.address access.counter)) said one opened)
      (step_goes keys.leaf_of levels one (Take access.address) told two took))
      (judged_breaks access told.found _ 3 (keys.leaf_of (Real access.address access.counter)) stop two new
      slot.opens.going slot rest)
  slot_breaks access stop old new rests (inr (inl (inl had, is))) = let same = rests.going in absurd cc
  slot_breaks access stop old new rests (inr (inl (inr stopped, is))) =
      open_breaks keys.leaf_of levels access.asked (Real access.address access.counter) stop old new stopped
  slot_breaks access stop old new rests (inr (inr (said, one, opened, inl (took, is)))) = absurd took
  slot_breaks access stop old new rests (inr (inr (said, one, opened, inr (told, two, took, rest)))) =
      breaks_then (goes_then (step_goes keys.leaf_of levels old
      (Open access.asked (Real access.address access.counter)) said one opened)
      (step_goes keys.leaf_of levels one (Take access.address) told two took))
      (judged_stops access told.found _ stop two new tt rest)

  -- ---- an append that stops
  -- a verdict on an append is evidence or a full stash
  verdict_ends : (doubled full : Bool) (address : Address) (count : ℕ) (stop : Stop)
      → (if doubled then Some (Integrity (Doubled address)) else (if full then Some (StashFull count) else None))
      ≡ Some stop
      → (old new : PortState) → KeepsPace old.clock.config new.clock.last new.tap.log
      → IsEndOf stop Whole × (stop ≡ Device → ⊥) × PaceAt old.clock.config stop new
  verdict_ends true full address count (Integrity evidence) is old new pace = (refl, λ bad. cc, pace)
  verdict_ends true full address count (StashFull held) is old new pace = absurd cc
  verdict_ends true full address count (TimeUp at) is old new pace = absurd cc
  verdict_ends true full address count Device is old new pace = absurd cc
  verdict_ends true full address count NoMemory is old new pace = absurd cc
  verdict_ends false true address count (Integrity evidence) is old new pace = absurd cc
  verdict_ends false true address count (StashFull held) is old new pace = (refl, λ bad. cc, pace)
  verdict_ends false true address count (TimeUp at) is old new pace = absurd cc
  verdict_ends false true address count Device is old new pace = absurd cc
  verdict_ends false true address count NoMemory is old new pace = absurd cc
  verdict_ends false false address count stop is old new pace = absurd cc

  join_breaks : (entry : Entry) (stop : Stop) (old new : PortState) → Resting 0 levels old
      → JoinStopped keys.leaf_of levels entry stop old new → Breaks stop old new
  join_breaks entry stop old new rests h =
      let last : new.clock.last ≡ old.clock.last = ap (λ (c : Clock). c.last) h.clock in
      let pace : KeepsPace old.clock.config new.clock.last new.tap.log =
      subst (λ (t : TapState). KeepsPace old.clock.config new.clock.last t.log) (sym h.tap)
      (subst (λ n. KeepsPace old.clock.config n old.tap.log) (sym last) (resting_pace old rests)) in
      let (ends, device, paced) = verdict_ends (is_some (held old.tree.hand entry.address))
      (nat_lt old.tree.stash (length old.tree.hand + 1)) entry.address (length old.tree.hand + 1) stop h.wrong old new
      pace in
      quiet_breaks h.memory h.tap (ap (λ (c : Clock). c.config) h.clock) (ap (λ (c : Clock). c.learner) h.clock)
      (ap (λ (c : Clock). c.dummies) h.clock) (ap (λ (c : Clock). c.real) h.clock) ends device paced
      (omega (arith, last, rests.in_time))

  pub append_breaks : (message : Message) (stop : Stop) (old new : PortState) → Resting 1 levels old
      → SlotStep keys levels old (Append message) (Err stop) new → Breaks stop old new
  append_breaks message stop old new rests (inl (said, one, note, (told, two, join, is))) = absurd cc
  append_breaks message stop old new rests (inr (inl (note, is))) = absurd note
  append_breaks message stop old new rests (inr (inr (said, one, note, inl (inl had, is)))) =
      let going : one.clock.stop ≡ None = (note.1.rests 0 rests).going in absurd cc
  append_breaks message stop old new rests (inr (inr (said, one, note, inl (inr stopped, is)))) =
      breaks_then (step_goes keys.leaf_of levels old (Note (Tagged message)) said one note)
      (join_breaks (tagged_entry keys message) stop one new (note.1.rests 0 rests) stopped)
  append_breaks message stop old new rests (inr (inr (said, one, note, inr (told, two, join, rest)))) = absurd rest

  -- an answer is never stopped
  pub answer_breaks : (line : ℕ) (value : Line) (stop : Stop) (old new : PortState)
      → SlotStep keys levels old (Answer line value) (Err stop) new → ⊥
  answer_breaks line value stop old new (inl (said, one, note, is)) = cc
  answer_breaks line value stop old new (inr (inl (note, is))) = note
  answer_breaks line value stop old new (inr (inr (said, one, note, rest))) = rest

  -- room is refused by want of memory alone
  pub room_breaks : (s : PortState) → Resting 0 levels s → Breaks NoMemory s s
  room_breaks s rests = record {
    config = refl;
    counts = λ counted. counted;
    tied = λ start buckets tied. (Whole, inl refl, tied);
    later = omega arith;
    cause = λ bad. cc;
    pace = resting_pace s rests;
    in_time = rests.in_time;
    unaltered = λ tells. refl;
    told = λ other told. told;
    prepared = refl;
    asked = refl;
  }
