-- What a port's calls leave, however many there were.
use Rattle.std.proofs.Common.{◌≡◌, ◌≢◌, ◌+◌, ◌<◌, ◌≤◌, ◌∙◌, ℕ, List, [], Ok, length, refl, sym, ap, subst, inl, inr}
use Rattle.std.proofs.Common.{arith, min}
use Rattle.request_plan.specs.Plan.{Plan, Done, Ask, Ends}
use Rattle.std.proofs.lemmas.List.{length-append}
use Rattle.asc_base.specs.TreeShape.{olat_of}
use Rattle.asc_base.specs.declared.block.Point.{Point}
use Rattle.asc_base.specs.declared.settings.Config.{Config}
use Rattle.asc_base.specs.declared.stop.Stop.{Stop}
use Rattle.asc_base.specs.declared.stop.Stop.TheVariants.{Integrity, StashFull, TimeUp, Device, NoMemory}
use Rattle.asc_outside.specs.Memory.{MemoryState}
use Rattle.bus_schedule.proofs.TimetableParts.{timetable-before, first-is}
use Rattle.bus_schedule.specs.Scheduled.{log_code}
use Rattle.bus_schedule.specs.Timetable.{Public, public_of, timetable, first_from}
use Rattle.bus_watch.specs.Honest.{TellsMirror, MayTellMirror}
use Rattle.bus_watch.specs.Log.{TapState, LogLists}
use Rattle.bus_watch.specs.Made.{Made}
use Rattle.bus_watch.specs.declared.log.Move.{Move}
use Rattle.bus_watch.specs.declared.log.Event.{Event}
use Rattle.bus_watch.specs.RunEnd.{RunEnd, Whole, RanOut}
use Rattle.bus_watch.specs.Tied.{Tied}
use Rattle.epoch_learner.proofs.StandLaws.{stands_pace, stands_next}
use Rattle.epoch_learner.specs.Stands.{KeepsPace}
use Rattle.rate_enforcer.proofs.Counted.{counted_still}
use Rattle.rate_enforcer.specs.Counts.{IsCounted}
use Rattle.rate_enforcer.specs.PortStep.{PortState, PortStep, PortRequest, Open, Take, Note, Put, Close, Abort, Join}
use Rattle.rate_enforcer.specs.PortStep.{Idle, Said, Used, KeepsCount, Resting, HandOnly}
use Rattle.rate_enforcer.specs.PortStep.{OpenStopped, CloseStopped, IdleStopped, Aborted}
use Rattle.rate_enforcer.specs.State.{IsUp}
use Rattle.rate_enforcer.specs.Stops.{IsEndOf}
use Rattle.rate_enforcer.specs.declared.clock.Clock.{Clock}
use Rattle.secure_machine.specs.Goes.{Goes, Breaks, PaceAt, TiedAfter, AsksMoves, Asks, MayTellOn, IsNextStart}

-- the moves of a run of bus calls were asked of the memory
made_asked : {end : RunEnd} {moves : List Move} {events : List Event} {m m' : MemoryState} {t t' : TapState}
    → Made end moves events m m' t t' → AsksMoves m m' t t'
made_asked {end} {moves} {events} {m} {m'} {t} {t'} made =
    let more : length t'.log.moves ≡ length t.log.moves + length moves =
    ap length made.moves_are ∙ length-append t.log.moves moves in
    omega (arith, made.asked, more)

-- where memory and tap are as they were, nothing was
pub still_asked : (old new : PortState) → new.memory ≡ old.memory → new.tap ≡ old.tap → Asks old new
still_asked old new memory tap =
    let moved : new.memory.moved ≡ old.memory.moved = ap (λ (m : MemoryState). m.moved) memory in
    let moves : length new.tap.log.moves ≡ length old.tap.log.moves = ap (λ (t : TapState). length t.log.moves) tap in
    omega (arith, moved, moves)

-- and it still tells the mirror's buckets, where it told them
pub still_told : (old new : PortState) → new.memory ≡ old.memory → new.tap ≡ old.tap → MayTellOn old new
still_told old new memory tap told = subst (λ (t : TapState). MayTellMirror new.memory t) (sym tap)
    (subst (λ (m : MemoryState). MayTellMirror m old.tap) (sym memory) told)

-- nothing was asked
pub goes_none : (s : PortState) → Goes s s
goes_none s = record {
  config = refl;
  counts = λ counted. counted;
  tied = λ start buckets tied. tied;
  later = omega arith;
  real = omega arith;
  unaltered = λ tells. refl;
  tells = λ tells. tells;
  told = λ told. told;
  prepared = refl;
  asked = refl;
}

-- some requests, and then others
pub goes_then : {a b c : PortState} → Goes a b → Goes b c → Goes a c
goes_then one two = record {
  config = two.config ∙ one.config;
  counts = λ counted. two.counts (one.counts counted);
  tied = λ start buckets tied. two.tied start buckets (one.tied start buckets tied);
  later = omega (arith, one.later, two.later);
  real = omega (arith, one.real, two.real);
  unaltered = λ tells. two.unaltered (one.tells tells) ∙ one.unaltered tells;
  tells = λ tells. two.tells (one.tells tells);
  told = λ told. two.told (one.told told);
  prepared = two.prepared ∙ one.prepared;
  asked = omega (arith, one.asked, two.asked);
}

-- some requests, and then one that is stopped
pub breaks_then : {stop : Stop} {a b c : PortState} → Goes a b → Breaks stop b c → Breaks stop a c
breaks_then {stop} {a} {b} {c} one two = record {
  config = two.config ∙ one.config;
  counts = λ counted. two.counts (one.counts counted);
  tied = λ start buckets tied. two.tied start buckets (one.tied start buckets tied);
  later = omega (arith, one.later, two.later);
  cause = λ is. omega (arith, one.later, two.cause is);
  pace = subst (λ (config : Config). PaceAt config stop c) one.config two.pace;
  in_time = subst (λ (config : Config). c.clock.last < config.time + olat_of config.shape.levels) one.config
      two.in_time;
  unaltered = λ tells. two.unaltered (one.tells tells) ∙ one.unaltered tells;
  told = λ other told. two.told other (one.told told);
  prepared = two.prepared ∙ one.prepared;
  asked = omega (arith, one.asked, two.asked);
}

-- the hand alone changes
hand_goes : {leaf_of : Point → ℕ} {levels : ℕ} {old new : PortState} → HandOnly leaf_of levels old new → Goes old new
hand_goes {leaf_of} {levels} {old} {new} h = record {
  config = ap (λ (c : Clock). c.config) h.clock;
  counts = λ counted. subst (λ (t : TapState). IsCounted new.clock t.log) (sym h.tap)
      (subst (λ (c : Clock). IsCounted c old.tap.log) (sym h.clock) counted);
  tied = λ start buckets tied. subst (λ (t : TapState). Tied start buckets new.memory t) (sym h.tap)
      (subst (λ (m : MemoryState). Tied start buckets m old.tap) (sym h.memory) tied);
  later = let same : new.memory.faults ≡ old.memory.faults = ap (λ (m : MemoryState). m.faults) h.memory in
      omega (arith, same);
  real = let same : new.clock.real ≡ old.clock.real = ap (λ (c : Clock). c.real) h.clock in omega (arith, same);
  unaltered = λ tells. ap (λ (t : TapState). t.log.altered) h.tap;
  tells = λ tells. subst (λ (t : TapState). TellsMirror new.memory t) (sym h.tap)
      (subst (λ (m : MemoryState). TellsMirror m old.tap) (sym h.memory) tells);
  told = still_told old new h.memory h.tap;
  prepared = ap (λ (m : MemoryState). m.count) h.memory;
  asked = still_asked old new h.memory h.tap;
}

-- a bus that was used, of a port that is the same
used_goes : {old new : PortState} → Used Whole old new → new.clock.config ≡ old.clock.config → KeepsCount old new
    → old.clock.real ≤ new.clock.real → Goes old new
used_goes used config counts real = record {
  config = config;
  counts = counts;
  tied = λ start buckets tied. used.made.tied start buckets tied;
  later = used.made.later;
  real = real;
  unaltered = used.made.honest.unaltered;
  tells = used.made.honest.whole refl;
  told = used.made.honest.told (λ bad. cc);
  prepared = used.made.prepared;
  asked = made_asked used.made;
}

-- an aborted slot
abort_goes : {leaf_of : Point → ℕ} {levels end : ℕ} {stop : Stop} {old new : PortState}
    → Aborted leaf_of levels stop end old new → Goes old new
abort_goes {leaf_of} {levels} {end} {stop} {old} {new} h =
    let real : new.clock.real ≡ old.clock.real = ap (λ (c : Clock). c.real) h.clock in
    let dummies : new.clock.dummies ≡ old.clock.dummies = ap (λ (c : Clock). c.dummies) h.clock in
    record {
      config = ap (λ (c : Clock). c.config) h.clock;
      counts = λ counted. counted_still old.clock new.clock old.tap.log new.tap.log
          (ap (λ (t : TapState). t.log.events) h.tap) (ap (λ (c : Clock). c.config) h.clock)
          (ap (λ (c : Clock). c.learner) h.clock) dummies real counted;
      tied = λ start buckets tied. subst (λ (t : TapState). Tied start buckets new.memory t) (sym h.tap)
          (subst (λ (m : MemoryState). Tied start buckets m old.tap) (sym h.memory) tied);
      later = let same : new.memory.faults ≡ old.memory.faults = ap (λ (m : MemoryState). m.faults) h.memory in
          omega (arith, same);
      real = omega (arith, real);
      unaltered = λ tells. ap (λ (t : TapState). t.log.altered) h.tap;
      tells = λ tells. subst (λ (t : TapState). TellsMirror new.memory t) (sym h.tap)
          (subst (λ (m : MemoryState). TellsMirror m old.tap) (sym h.memory) tells);
      told = still_told old new h.memory h.tap;
      prepared = ap (λ (m : MemoryState). m.count) h.memory;
      asked = still_asked old new h.memory h.tap;
    }

-- each answered call
pub step_goes : (leaf_of : Point → ℕ) (levels : ℕ) (old : PortState) (request : PortRequest) (said : Said)
    (new : PortState) → PortStep leaf_of levels old request (Ok said) new → Goes old new
step_goes leaf_of levels old (Open asked point) said new h =
    used_goes h.1.used h.1.same.config h.1.counts (omega (arith, h.1.real))
step_goes leaf_of levels old (Take address) said new h = hand_goes {leaf_of = leaf_of} {levels = levels} h.1.others
step_goes leaf_of levels old (Note event) said new h =
    let real : new.clock.real ≡ old.clock.real = ap (λ (c : Clock). c.real) h.1.clock in
    record {
      config = ap (λ (c : Clock). c.config) h.1.clock;
      counts = h.1.counts;
      tied = λ start buckets tied. h.1.made.tied start buckets tied;
      later = h.1.made.later;
      real = omega (arith, real);
      unaltered = h.1.made.honest.unaltered;
      tells = h.1.made.honest.whole refl;
      told = h.1.made.honest.told (λ bad. cc);
      prepared = h.1.made.prepared;
      asked = made_asked h.1.made;
    }
step_goes leaf_of levels old (Put entry) said new h = hand_goes h.1.others
step_goes leaf_of levels old Close said new h =
    used_goes h.1.used h.1.same.config h.1.counts (omega (arith, h.1.real))
step_goes leaf_of levels old (Abort stop) said new h = abort_goes h.1
step_goes leaf_of levels old (Join entry) said new h = hand_goes h.1.others
step_goes leaf_of levels old (Idle time) said new h =
    used_goes h.1.used h.1.same.config h.1.counts (omega (arith, h.1.real))

-- a chain of answered calls
pub plan_goes : (leaf_of : Point → ℕ) (levels : ℕ) {B A : Type 0} (plan : Plan PortRequest Said B A)
    (old new : PortState) (outcome : A) → Ends (PortStep leaf_of levels) plan old new outcome → Goes old new
plan_goes leaf_of levels (Done a) old new outcome h = subst (Goes old) (sym h.1) (goes_none old)
plan_goes leaf_of levels (Ask q b k) old new outcome (said, mid, one, rest) =
    goes_then (step_goes leaf_of levels old q said mid one) (plan_goes leaf_of levels (k said) mid new outcome rest)

-- ---- stops
-- a stop with its end
stop_tied : (stop : Stop) {old new : PortState} (end : RunEnd) → IsEndOf stop end → Used end old new
    → (start : MemoryState) (buckets : List (List ℕ)) → Tied start buckets old.memory old.tap
    → TiedAfter stop start buckets new
stop_tied stop end is used start buckets tied = (end, is, used.made.tied start buckets tied)

-- a failed move has its cause
stop_cause : (stop : Stop) {old new : PortState} (end : RunEnd) → IsEndOf stop end → Used end old new
    → stop ≡ Device → old.memory.faults < new.memory.faults
stop_cause stop end is used same = used.made.cause (subst (λ (s : Stop). IsEndOf s end) same is)

-- only want of memory can leave the memory's buckets apart from the mirror's
stop_whole : (stop : Stop) (end : RunEnd) → IsEndOf stop end → stop ≢ NoMemory → end ≢ RanOut
stop_whole (Integrity evidence) end is other ran = cc
stop_whole (StashFull held) end is other ran = cc
stop_whole (TimeUp at) end is other ran = cc
stop_whole Device end is other ran = cc
stop_whole NoMemory end is other ran = other refl

stop_told : (stop : Stop) {old new : PortState} (end : RunEnd) → IsEndOf stop end → Used end old new
    → stop ≢ NoMemory → MayTellOn old new
stop_told stop end is used other = used.made.honest.told (stop_whole stop end is other)

-- no start lies between a time and a later one where the first from it on isn't before that one
first-late : (p : Public) (code time later : ℕ) → time ≤ later → later ≤ first_from p code time
    → first_from p code later ≡ first_from p code time
first-late p code time later up reached =
    first-is p code later (length (timetable p code time)) reached
    (λ k below. omega (arith, (timetable-before p code time).before k below, up))

-- where no slot is left, the next one is the first from the time of the settings on
next_start : (config : Config) (at asked : ℕ) (clock : Clock) (log : LogLists) → clock.last ≤ at
    → IsUp config at asked clock log → IsNextStart config at log
next_start config at asked clock log early up = record {
  late = up.late;
  first = up.first ∙ sym (first-late (public_of config) (log_code (public_of config) log) (min asked config.time)
      config.time (omega arith) (omega (arith, up.late, up.first)));
  done = (up.pace at early (omega arith)).scheduled.starts;
}

module _ (leaf_of : Point → ℕ) (levels : ℕ) where
  open_pace : (asked : ℕ) (point : Point) (stop : Stop) (old new : PortState)
      → OpenStopped leaf_of levels asked point stop old new → PaceAt old.clock.config stop new
  open_pace asked point (Integrity evidence) old new h = h.stopped.pace
  open_pace asked point (StashFull held) old new h = h.stopped.pace
  open_pace asked point (TimeUp at) old new h =
      let (up, passed, more, few) = h.breaks [] in
      let (next, rate) = h.stopped.ends in
      let early : new.clock.last ≤ at = omega (arith, next, rate) in
      (up.late, early, up.pace, next_start old.clock.config at asked new.clock new.tap.log early up)
  open_pace asked point Device old new h = h.stopped.pace
  open_pace asked point NoMemory old new h = h.stopped.pace

  pub open_breaks : (asked : ℕ) (point : Point) (stop : Stop) (old new : PortState)
      → OpenStopped leaf_of levels asked point stop old new → Breaks stop old new
  open_breaks asked point stop old new h = record {
    config = h.same.config;
    counts = h.counts;
    tied = stop_tied stop h.end h.is_end h.used;
    later = h.used.made.later;
    cause = stop_cause stop h.end h.is_end h.used;
    pace = open_pace asked point stop old new h;
    in_time = h.stopped.in_time;
    unaltered = h.used.made.honest.unaltered;
    told = stop_told stop h.end h.is_end h.used;
    prepared = h.used.made.prepared;
    asked = made_asked h.used.made;
  }

  close_pace : (stop : Stop) (old new : PortState) → CloseStopped leaf_of levels stop old new
      → PaceAt old.clock.config stop new
  close_pace (Integrity evidence) old new h = h.stopped.pace
  close_pace (StashFull held) old new h = h.stopped.pace
  close_pace (TimeUp at) old new h = absurd (h.breaks [])
  close_pace Device old new h = h.stopped.pace
  close_pace NoMemory old new h = h.stopped.pace

  pub close_breaks : (stop : Stop) (old new : PortState) → CloseStopped leaf_of levels stop old new
      → Breaks stop old new
  close_breaks stop old new h = record {
    config = h.same.config;
    counts = h.counts;
    tied = stop_tied stop h.end h.is_end h.used;
    later = h.used.made.later;
    cause = stop_cause stop h.end h.is_end h.used;
    pace = close_pace stop old new h;
    in_time = h.stopped.in_time;
    unaltered = h.used.made.honest.unaltered;
    told = stop_told stop h.end h.is_end h.used;
    prepared = h.used.made.prepared;
    asked = made_asked h.used.made;
  }

  idle_pace : (time : ℕ) (stop : Stop) (old new : PortState) → IdleStopped leaf_of levels time stop old new
      → PaceAt old.clock.config stop new
  idle_pace time (Integrity evidence) old new h = h.stopped.pace
  idle_pace time (StashFull held) old new h = h.stopped.pace
  idle_pace time (TimeUp at) old new h = elim ((h.breaks []).stops) [
    | inl reads ↦ absurd reads
    | inr writes ↦ absurd (writes.writes)
  ]
  idle_pace time Device old new h = h.stopped.pace
  idle_pace time NoMemory old new h = h.stopped.pace

  pub idle_breaks : (time : ℕ) (stop : Stop) (old new : PortState) → IdleStopped leaf_of levels time stop old new
      → Breaks stop old new
  idle_breaks time stop old new h = record {
    config = h.same.config;
    counts = h.counts;
    tied = stop_tied stop h.end h.is_end h.used;
    later = h.used.made.later;
    cause = stop_cause stop h.end h.is_end h.used;
    pace = idle_pace time stop old new h;
    in_time = h.stopped.in_time;
    unaltered = h.used.made.honest.unaltered;
    told = stop_told stop h.end h.is_end h.used;
    prepared = h.used.made.prepared;
    asked = made_asked h.used.made;
  }

-- between two slots the log keeps the pace up to the last end
pub resting_pace : {notes levels : ℕ} (s : PortState) → Resting notes levels s
    → KeepsPace s.clock.config s.clock.last s.tap.log
resting_pace s r = stands_pace s.clock.last r.stands (omega arith) (omega (arith, stands_next r.stands))
