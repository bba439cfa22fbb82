-- What answered requests of a port leave: its log goes on noting slots in order, and says its contents, whatever the
-- replies were.
use Rattle.std.proofs.Common.{◌≡◌, ◌<◌, ◌≤◌, ◌+◌, ◌-◌, ℕ, List, [], ◌∷◌, ◌++◌, length, Option, None, Some, Ok, refl}
use Rattle.std.proofs.Common.{sym, ◌∙◌, ap, subst, arith}
use Rattle.asc_base.specs.declared.block.Line.{Line}
use Rattle.asc_base.specs.declared.block.Message.{Message}
use Rattle.asc_base.specs.declared.shape.Shape.{Shape}
use Rattle.bus_schedule.specs.Scheduled.{log_code}
use Rattle.bus_schedule.specs.Schedule.{moves_of}
use Rattle.bus_schedule.specs.Shown.{leaves_of}
use Rattle.bus_schedule.specs.Timetable.{public_of, starts}
use Rattle.bus_schedule.proofs.TimetableLaws.{length-starts}
use Rattle.bus_watch.specs.declared.log.Event.{Event}
use Rattle.bus_watch.specs.declared.log.Event.TheVariants.{Tagged}
use Rattle.oram_contents.specs.Contents.{Contents}
use Rattle.oram_contents.specs.Entries.{Keys, AreKeys, real, message_of}
use Rattle.oram_contents.specs.Fold.{Whole}
use Rattle.oram_contents.specs.Slots.{drawn_events, IsAccess, ArePasses}
use Rattle.oram_contents.specs.Steps.{accepted}
use Rattle.oram_contents.specs.Verdict.{line_found}
use Rattle.oram_frontend.proofs.SlotLaws.{keys_fit, served_slot, served_append, served_answer}
use Rattle.oram_frontend.specs.Access.{SlotStep}
use Rattle.oram_frontend.specs.Slots.{FitKeys, Keeps, SlotOf, IsServedSlot}
use Rattle.oram_walk.specs.Request.{Slot, Append, Answer}
use Rattle.oram_walk.specs.declared.slots.Access.{Access}
use Rattle.oram_walk.specs.declared.slots.Purpose.{Purpose}
use Rattle.oram_walk.specs.declared.slots.Purpose.TheVariants.{Refill, Keep, Replace}
use Rattle.oram_walk.specs.declared.slots.Seen.{Seen}
use Rattle.rate_enforcer.specs.PortStep.{PortState, PortStep, Idle, Said, Resting, contents}
use Rattle.rate_enforcer.specs.Served.{AreFew}
use Rattle.rate_enforcer.specs.declared.clock.Clock.{Clock}
use Rattle.log_replay.specs.Judged.{SaysMirror, verdict_on}
use Rattle.log_replay.specs.Order.{put_line}
use Rattle.log_replay.specs.Replayed.{IsReplayedPort, IsBehindSlot}
use Rattle.log_replay.proofs.Asks.{put_by, put_back}
use Rattle.log_replay.proofs.Behinds.{append_replayed, answer_replayed}
use Rattle.log_replay.proofs.BlockSlots.{IsBehindBlock, found_whole, asked_is, access_behind, refill_behind}
use Rattle.log_replay.proofs.ReplayedLogs.{IsReplayedLog}
use Rattle.log_replay.proofs.SlotSteps.{dummies_replayed}
use Rattle.log_replay.proofs.WholeSlots.{says_buckets}

-- what is known of a port's log
pub log_of : (keys : Keys) (s : PortState) → IsReplayedPort keys s
    → IsReplayedLog keys s.tree.stash s.tap.log (contents s) s.clock.dummies
log_of keys s x = record {
  order = x.order;
  done = x.done;
  dummies_are = x.dummies;
  contents_are = x.contents_are;
  right = x.right;
  always = x.always;
}

-- and back, under the stash and the dummies that the port has
abbrev pub port_of_log : (keys : Keys) (s : PortState) (stash n : ℕ) → FitKeys keys s → s.tree.stash ≡ stash
    → s.clock.dummies ≡ n → IsReplayedLog keys stash s.tap.log (contents s) n → IsReplayedPort keys s
port_of_log keys s stash n fits same count x = record {
  fits = fits;
  order = x.order;
  done = x.done;
  dummies = x.dummies_are ∙ sym count;
  contents_are = x.contents_are;
  right = subst (λ k. verdict_on keys k s.tap.log ≡ None) (sym same) x.right;
  always = x.always;
}

-- what is known of a port's log behind a slot, and back
pub behind_of : (keys : Keys) (a : ℕ) (line : List ℕ) (put : Option Message) (s : PortState)
    → IsBehindSlot keys a line put s
    → IsBehindBlock keys s.tree.stash s.tap.log (contents s) s.clock.dummies a line put
behind_of keys a line put s b = record {
  replayed = record {
    order = b.port.order;
    done = b.port.done;
    dummies_are = b.port.dummies;
    contents_are = b.port.contents_are;
    right = b.port.right;
    always = b.port.always;
  };
  before = b.before;
  last = b.last;
  slots = b.slots;
  counter = b.counter;
  point = b.point;
  line_is = b.line_is;
  put_is = b.put_is;
  bare = b.bare;
  path = b.path;
}

port_behind : (keys : Keys) (s : PortState) (stash n a : ℕ) (line other : List ℕ) (put : Option Message)
    → FitKeys keys s → s.tree.stash ≡ stash → s.clock.dummies ≡ n → other ≡ line
    → IsBehindBlock keys stash s.tap.log (contents s) n a line put → IsBehindSlot keys a other put s
port_behind keys s stash n a line other put fits same count is x = record {
  port = port_of_log keys s stash n fits same count x.replayed;
  before = x.before;
  last = x.last;
  slots = x.slots;
  counter = x.counter;
  point = x.point;
  line_is = is ∙ x.line_is;
  put_is = x.put_is;
  bare = x.bare;
  path = x.path;
}

module _ (keys : Keys) (lawful : AreKeys keys) (levels : ℕ) where
  -- an answered access
  module _ (access : Access) (seen : Seen) (old new : PortState) (x : IsReplayedPort keys old)
      (served : IsServedSlot keys access seen old new) (least : ℕ) (keeps : Keeps keys levels least old new)
      (inside : access.address.0 < keys.shape.total)
      (wide : (value : Line) → access.purpose ≡ Replace value → length value.0 ≡ 64) where
    -- the log up to the slot
    up_to_slot : IsReplayedLog keys old.tree.stash served.mid served.between (old.clock.dummies + served.passed)
    up_to_slot = dummies_replayed keys lawful old.tree.stash served.passed old.tap.log served.mid (contents old)
        served.between old.clock.dummies served.passes served.few (log_of keys old x)

    few : length new.tree.hand ≤ old.tree.stash
    few =
        let rests = keeps.rests.2 in
        omega (arith, rests.few, rests.is_for.stash, keeps.stash)

    -- the slot was asked for when the access says
    is_asked : (asked : Option ℕ) (more : List Event) → served.log.events ≡ served.mid.events
        ++ (drawn_events keys served.start asked (real access.address.0 access.counter) ++ more)
        → asked ≡ Some access.asked
    is_asked asked more is = asked_is keys served.mid served.log served.start access.address.0 access.asked
        access.counter asked more served.begins.0 is served.begins.1

    -- a slot after which a line is put back
    back_put : (l : List ℕ) → IsAccess keys served.mid served.log served.between (contents new) served.start
        access.address.0 access.counter access.next served.found l → length l ≡ 64
        → IsBehindBlock keys old.tree.stash new.tap.log (contents new) (old.clock.dummies + served.passed)
        access.address.0 (line_found served.found) (Some (message_of access.address.0 access.next l))
    back_put l slot whole =
        access_behind keys lawful old.tree.stash served.mid served.log new.tap.log served.between (contents new)
        served.start access.address.0 access.asked access.counter served.found served.ends
        (old.clock.dummies + served.passed) served.seeds few up_to_slot access.next l slot
        (is_asked slot.asked (accepted access.address.0 access.counter served.found
        ++ Tagged (message_of access.address.0 access.next l) ∷ []) slot.events_are) inside whole

    behind_block : (p : Purpose) → access.purpose ≡ p
        → SlotOf keys access p served.mid served.log served.between (contents new) served.start served.found
        → IsBehindBlock keys old.tree.stash new.tap.log (contents new) (old.clock.dummies + served.passed)
        access.address.0 (line_found served.found)
        (put_by access.address access.next p (record { 0 = line_found served.found }))
    behind_block Refill is slot =
        refill_behind keys lawful old.tree.stash served.mid served.log new.tap.log served.between (contents new)
        served.start access.address.0 access.asked access.counter served.found served.ends
        (old.clock.dummies + served.passed) served.seeds few up_to_slot slot
        (is_asked slot.asked (accepted access.address.0 access.counter served.found) slot.events_are)
    behind_block Keep is slot = back_put (line_found served.found) slot
        (found_whole keys slot.joined access.address.0 served.found slot.of_shape slot.found_is)
    behind_block (Replace value) is slot = back_put value.0 slot (wide value is)

    behind_access : IsBehindSlot keys access.address.0 seen.line.0 (put_back access seen.line) new
    behind_access =
        subst (λ (l : List ℕ). IsBehindSlot keys access.address.0 seen.line.0 (put_back access (record { 0 = l })) new)
        (sym served.line)
        (port_behind keys new old.tree.stash (old.clock.dummies + served.passed) access.address.0
        (line_found served.found) seen.line.0 (put_back access (record { 0 = line_found served.found }))
        keeps.fits keeps.stash served.dummies served.line (behind_block access.purpose refl served.slot))

  -- Behind the slot of an access its block's line was found, which is answered, and put back as it says.
  pub slot_replays : (notes : ℕ) (access : Access) (seen : Seen) (old new : PortState) → IsReplayedPort keys old
      → Resting notes levels old → access.address.0 < keys.shape.total
      → ((value : Line) → access.purpose ≡ Replace value → length value.0 ≡ 64)
      → SlotStep keys levels old (Slot access) (Ok seen) new
      → IsBehindSlot keys access.address.0 seen.line.0 (put_back access seen.line) new
  slot_replays notes access seen old new x rests inside wide step =
      let (served, keeps) = served_slot keys levels notes access seen old new x.fits rests step in
      behind_access access seen old new x served (notes + 1) keeps inside wide

  -- Another block's message is appended behind a slot in which nothing was put back.
  pub append_replays : (notes a : ℕ) (line : List ℕ) (m : Message) (seen : Seen) (old new : PortState)
      → IsBehindSlot keys a line None old → Resting (notes + 1) levels old → (m.address.0 ≡ a → ⊥)
      → m.address.0 < keys.shape.total → length m.line.0 ≡ 64
      → SlotStep keys levels old (Append m) (Ok seen) new → IsReplayedPort keys new
  append_replays notes a line m seen old new b rests other inside wide step =
      let (served, keeps) = served_append keys levels notes m seen old new b.port.fits rests step in
      let joined = append_replayed keys old.tree.stash old.tap.log new.tap.log (contents old) old.clock.dummies a line
      served.altered (behind_of keys a line None old b) lawful m other inside wide served.events served.right in
      port_of_log keys new old.tree.stash old.clock.dummies keeps.fits keeps.stash
      (ap (λ (c : Clock). c.dummies) served.clock)
      (subst (λ (c : Contents). IsReplayedLog keys old.tree.stash new.tap.log c old.clock.dummies)
      (sym served.contents_are) joined)

  -- The line of a slot's block is answered behind it, where it was put back.
  pub answer_replays : (notes a number : ℕ) (line : List ℕ) (put : Option Message) (value : Line) (seen : Seen)
      (old new : PortState) → IsBehindSlot keys a line put old → Resting (notes + 1) levels old → number ≡ a
      → value.0 ≡ line → put_line put ≡ Some value
      → SlotStep keys levels old (Answer number value) (Ok seen) new → IsReplayedPort keys new
  answer_replays notes a number line put value seen old new b rests is line_is back step =
      let (served, keeps) = served_answer keys levels notes number value seen old new b.port.fits rests step in
      let joined = answer_replayed keys old.tree.stash old.tap.log new.tap.log (contents old) old.clock.dummies a line
      served.altered put (behind_of keys a line put old b) number value is line_is back served.events in
      port_of_log keys new old.tree.stash old.clock.dummies keeps.fits keeps.stash
      (ap (λ (c : Clock). c.dummies) served.clock)
      (subst (λ (c : Contents). IsReplayedLog keys old.tree.stash new.tap.log c old.clock.dummies)
      (sym served.contents_are) joined)

  -- Dummies pass up to a time.
  pub wait_replays : (notes time : ℕ) (said : Said) (old new : PortState) → IsReplayedPort keys old
      → Resting notes levels old → PortStep keys.leaf_of levels old (Idle time) (Ok said) new → IsReplayedPort keys new
  wait_replays notes time said old new x rests (is, idled) =
      let passed = new.clock.dummies - old.clock.dummies in
      let fitting = subst (λ (k : Keys). (p : ArePasses k passed old.tap.log new.tap.log (contents old) (contents new)
      old.clock.dummies) × AreFew k old.tree.stash passed old.tap.log new.tap.log (contents old) (contents new)
      old.clock.dummies p) (keys_fit keys old x.fits) (idled.passed keys.tags, idled.few keys.tags) in
      port_of_log keys new old.tree.stash (old.clock.dummies + passed)
      (record {
        shape = idled.same.tree.shape ∙ x.fits.shape;
        pads = idled.same.tree.key ∙ x.fits.pads;
      }) idled.same.tree.stash (omega (arith, idled.more))
      (dummies_replayed keys lawful old.tree.stash passed old.tap.log new.tap.log (contents old) (contents new)
      old.clock.dummies fitting.0 fitting.1 (log_of keys old x))

  -- Between two slots the log says the buckets.
  pub between_replays : (notes : ℕ) (s : PortState) → IsReplayedPort keys s → Resting notes levels s
      → SaysMirror keys s.tap.log Whole s.tap.mirror
  between_replays notes s x rests =
      let p = public_of s.clock.config in
      let code = log_code p s.tap.log in
      let between = rests.stands.between in
      let deep : s.clock.config.shape.levels ≡ keys.shape.levels = ap (λ (shape : Shape). shape.levels)
      (sym rests.is_for.shape ∙ x.fits.shape) in
      says_buckets keys s.tree.stash s.tap.log (contents s) s.clock.dummies (log_of keys s x)
      (starts p code rests.done) (length-starts p code rests.done ∙ sym between.leaves)
      (between.moves ∙ ap (λ n. moves_of n (starts p code rests.done) (leaves_of s.tap.log.events)) deep)
