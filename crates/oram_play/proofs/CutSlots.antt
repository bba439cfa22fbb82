-- Among the slots that an access or a wait would take, the one that a port's log shows as stopped.
use Rattle.std.proofs.Common.{◌≡◌, ◌<◌, ◌≤◌, ℕ, zero, suc, ◌+◌, ◌*◌, true, false, List, [], ◌∷◌, ◌++◌, Option, Some}
use Rattle.std.proofs.Common.{None}
use Rattle.std.proofs.Common.{min, refl, sym, ap, ◌∙◌, subst, arith, append-nil, append_assoc, inl, inr}
use Rattle.std.specs.List.{All}
use Rattle.asc_base.specs.Settings.{IsConfig}
use Rattle.asc_base.specs.TreeShape.{olat_of}
use Rattle.asc_base.specs.declared.block.Line.{Line}
use Rattle.asc_base.specs.declared.block.Message.{Message}
use Rattle.asc_base.specs.declared.block.Point.{Point}
use Rattle.asc_base.specs.declared.block.Point.TheVariants.{Real, Dummy}
use Rattle.asc_base.specs.declared.settings.Config.{Config}
use Rattle.asc_base.specs.declared.shape.Shape.{Shape}
use Rattle.asc_base.specs.declared.stop.Stop.{Stop}
use Rattle.asc_base.specs.declared.stop.Stop.TheVariants.{Integrity, StashFull, TimeUp, Device, NoMemory}
use Rattle.bus_schedule.specs.Asked.{ServesPromptly, IsFirstFrom}
use Rattle.bus_schedule.specs.Shown.{starts_of}
use Rattle.bus_schedule.specs.Timetable.{Public, public_of, count_of}
use Rattle.bus_schedule.proofs.AskedLaws.{serves-each}
use Rattle.bus_schedule.proofs.ScheduledLaws.{silent-none}
use Rattle.bus_watch.specs.Log.{LogLists}
use Rattle.bus_watch.specs.Path.{along, reads_end, writes_start}
use Rattle.bus_watch.specs.declared.log.Event.{Event}
use Rattle.bus_watch.specs.declared.log.Event.TheVariants.{Access as Starts, Drawn}
use Rattle.bus_watch.specs.declared.log.Move.{Move}
use Rattle.epoch_learner.specs.Heard.{nothing_heard, ChoosesByRule}
use Rattle.epoch_learner.specs.Stands.{ChoosesAtEnds, KeepsPace}
use Rattle.oram_contents.specs.Contents.{Contents}
use Rattle.oram_contents.specs.Entries.{Keys}
use Rattle.oram_contents.specs.Slots.{ArePasses, IsRead, drawn_events}
use Rattle.oram_frontend.specs.Slots.{FitKeys}
use Rattle.oram_walk.specs.declared.slots.Access.{Access}
use Rattle.rate_enforcer.specs.Breaks.{Begins, ReadsBreak, DummyStops, PassesStop, AskedStops}
use Rattle.rate_enforcer.specs.PortStep.{PortState, Resting, contents}
use Rattle.rate_enforcer.specs.State.{Stopped}
use Rattle.rate_enforcer.specs.Stops.{BrokeIn}
use Rattle.run_play.specs.Halt as cut
use Rattle.run_play.specs.Halt.{Refused, Overfull, MoveFails, Fits, part_of, end_of}
use Rattle.run_play.specs.PlayEvents.{starts_in}
use Rattle.run_play.specs.Slots.{Pace, Numbers, Slot, Passed, passed, pace_after, slot_next, dummy_next}
use Rattle.run_play.proofs.Events.{log-shows}
use Rattle.run_play.proofs.Keeping.{passed-one}
use Rattle.run_play.proofs.PlaysOnTime.{some-rate}
use Rattle.oram_play.specs.Playing.{IsCut}
use Rattle.oram_play.specs.Stopped.{AccessLeaves, WaitLeaves}
use Rattle.oram_play.specs.Taken.{HasTaken, put_in, before_asked, asked_start, asked_slots}
use Rattle.oram_play.proofs.Accesses.{early-by}
use Rattle.oram_play.proofs.Cuts.{reads-move, writes-move, cut-start, cut-said, all-read, none-written}
use Rattle.oram_play.proofs.Due.{HasSlot, bare_slot, by-rule-before}
use Rattle.oram_play.proofs.Passes.{Said, ends-before, waited, dummies_after, waited-dummies, passes-said, Early}
use Rattle.oram_play.proofs.Passes.{waited-first, dummies-first, waited-rises, passed-waited}

-- ---- which slots pass
-- so many early ones, and then the others
passed-from : (p : Public) (some : 0 < count_of p) (numbers : Numbers) (k time : ℕ) (pace : Pace)
    → Early p some numbers k time pace
    → (passed p numbers time pace).slots
    ≡ dummies_after p some numbers k pace ++ (passed p numbers time (waited p some numbers k pace)).slots
passed-from p some numbers zero time pace early = refl
passed-from p some numbers (suc k) time pace early =
    let next : Pace = pace_after p pace None in
    let rest : (passed p numbers time next).slots
    ≡ dummies_after p some numbers k next ++ (passed p numbers time (waited p some numbers k next)).slots =
    passed-from p some numbers k time next
    (λ j less. subst (λ (x : Pace). x.beat.next < time) (waited-first p some numbers j pace)
    (early (suc j) (omega (arith, less)))) in
    ap (λ (x : Passed). x.slots) (passed-one p numbers time pace (early 0 (omega arith)))
    ∙ ap (λ l. dummy_next p pace numbers ∷ l) rest
    ∙ ap (λ l. l ++ (passed p numbers time (waited p some numbers k next)).slots)
    (sym (dummies-first p some numbers k pace))
    ∙ ap (λ (x : Pace). dummies_after p some numbers (suc k) pace ++ (passed p numbers time x).slots)
    (sym (waited-first p some numbers k pace))

-- a slot that was cut is one of more slots
pub cut-longer : (levels : ℕ) (slots taken more : List Slot) (stop : cut.Stop) (new : PortState)
    → IsCut levels slots taken stop new → IsCut levels slots (taken ++ more) stop new
cut-longer levels slots taken more stop new c = record {
  before = c.before;
  slot = c.slot;
  later = c.later ++ more;
  are = ap (λ l. l ++ more) c.are ∙ append_assoc c.before (c.slot ∷ c.later) more;
  fits = c.fits;
  said = c.said;
  last = c.last;
}

-- ---- the events of a slot that stopped in its reads, or as a dummy
abbrev pub reads-slot : (keys : Keys) (old new : LogLists) (start : ℕ) (asked : Option ℕ) (point : Point)
    → Begins keys old new start asked point → HasSlot old.events new.events start asked point None None
reads-slot keys old new start asked point b = record {
  leaf = record { 0 = keys.leaf_of point };
  notes = [];
  silent = silent-none;
  said = refl;
  events = b.adds.events_are;
}

writes-slot : (keys : Keys) (old mid new : LogLists) (now joined : Contents) (start n : ℕ)
    → (read : IsRead keys old mid now start (Dummy n) joined.hand) → read.asked ≡ None → new.events ≡ mid.events
    → HasSlot old.events new.events start None (Dummy n) None None
writes-slot keys old mid new now joined start n read unasked same = record {
  leaf = record { 0 = keys.leaf_of (Dummy n) };
  notes = [];
  silent = silent-none;
  said = refl;
  events = same ∙ read.adds.events_are
      ∙ ap (λ asked. old.events ++ drawn_events keys start asked (Dummy n)) unasked;
}

module _ (keys : Keys) (levels notes : ℕ) (numbers : Numbers) (old new : PortState) (slots : List Slot) (pace : Pace)
    (fits : FitKeys keys old) (rests : Resting notes levels old) (had : HasTaken old slots pace) where
  abbrev pub config : Config
  config = old.clock.config

  abbrev pub p : Public
  p = public_of config

  is-config : IsConfig config
  is-config = rests.stands.step.follows.is_of.is_config

  pub some : 0 < count_of p
  some = some-rate config is-config

  pub levels-are : levels ≡ config.shape.levels
  levels-are = rests.is_for.levels_are

  pub keys-levels : keys.shape.levels ≡ config.shape.levels
  keys-levels = ap (λ (s : Shape). s.levels) (sym fits.shape ∙ rests.is_for.shape)

  abbrev pub now : ℕ → Pace
  now k = waited p some numbers k pace

  abbrev pub dummies : ℕ → List Slot
  dummies k = dummies_after p some numbers k pace

  module _ (end : ℕ) (keeps : KeepsPace config end new.tap.log) (k : ℕ) (mid : LogLists) (between : Contents)
      (passes : ArePasses keys k old.tap.log mid (contents old) between old.clock.dummies) (start : ℕ)
      (asked : Option ℕ) (point : Point) (put : Option Message)
      (h : HasSlot mid.events new.tap.log.events start asked point put None) where
    abbrev later : List Event
    later = Drawn point h.leaf ∷ (h.notes ++ [])

    said-before : Said p mid.events (slots ++ dummies k) (now k)
    said-before =
        let old_said : Said p old.tap.log.events slots pace = record { said = had.said; paced = had.pace } in
        passes-said p some numbers keys k old.tap.log mid (contents old) between slots pace old.clock.dummies
        passes (sym had.dummies) old_said (keeps.ends mid.events later start asked h.events)
        (ends-before p mid.events (Starts start asked ∷ later) (subst (ChoosesAtEnds p) h.events keeps.ends))
        (by-rule-before p.rates (olat_of p.levels) nothing_heard mid.events (Starts start asked ∷ later)
        (subst (ChoosesByRule p) h.events keeps.rule))

    begun : start ≡ (now k).beat.next
    begun = cut-start p mid.events new.tap.log start asked point put (slots ++ dummies k) (now k) said-before h end
        keeps.scheduled

    -- this slot was cut
    is-cut : (how : cut.Stop) (taken more : List Slot) (slot : Slot) → taken ≡ dummies k ++ slot ∷ more
        → Fits levels how slot → slot.start ≡ (now k).beat.next
        → part_of levels how slot ≡ bare_slot (now k).beat.next asked point put None numbers
        → new.clock.last ≡ end_of levels start how → IsCut levels slots taken how new
    is-cut how taken more slot are can at part last = record {
      before = dummies k;
      slot = slot;
      later = more;
      are = are;
      fits = can;
      said = cut-said p mid.events new.tap.log start asked point put (slots ++ dummies k) (now k) said-before h end
          keeps.scheduled numbers (part_of levels how slot) part;
      last = last ∙ ap (λ s. end_of levels s how) (begun ∙ sym at);
    }

    -- all dummies before it start before a time
    early-before : (time : ℕ) → start < time → Early p some numbers k time pace
    early-before time less j below =
        let up = waited-rises p some numbers k pace j below in omega (arith, up, begun, less)

    -- no write was made where it ended in its reads, and all reads were made where it ended in its writes
    pub all-read-in : (before : List Move) (level level' : ℕ) → level ≤ config.shape.levels
        → end ≡ writes_start config.shape.levels start + 40 * level' + 1
        → new.tap.log.moves ≡ before ++ along config.shape.levels false start h.leaf.0 (level + 1) → ⊥
    all-read-in before level level' small ends made =
        all-read p mid.events new.tap.log start asked point put (slots ++ dummies k) (now k) said-before h end
        keeps.scheduled before level level' small ends made

    pub none-written-in : (before : List Move) (level level' : ℕ) → level ≤ config.shape.levels
        → end ≡ start + 40 * level + 1
        → new.tap.log.moves
        ≡ before ++ along config.shape.levels true (writes_start config.shape.levels start) h.leaf.0 (level' + 1) → ⊥
    none-written-in before level level' small ends made =
        none-written p mid.events new.tap.log start asked point put (slots ++ dummies k) (now k) said-before h end
        keeps.scheduled before level level' small ends made

  -- ---- a dummy
  module _ (end : ℕ) (keeps : KeepsPace config end new.tap.log) (k : ℕ) (mid : LogLists) (between : Contents)
      (passes : ArePasses keys k old.tap.log mid (contents old) between old.clock.dummies) (start time : ℕ)
      (h : HasSlot mid.events new.tap.log.events start None (Dummy (old.clock.dummies + k)) None None)
      (early : start < time) where
    number : old.clock.dummies + k ≡ (now k).dummies
    number = omega (arith, waited-dummies p some numbers k pace, had.dummies)

    its : HasSlot mid.events new.tap.log.events start None (Dummy (now k).dummies) None None
    its = subst (λ n. HasSlot mid.events new.tap.log.events start None (Dummy n) None None) number h

    abbrev dummy : Slot
    dummy = dummy_next p (now k) numbers

    dummy-cut : (how : cut.Stop) → Fits levels how dummy
        → part_of levels how dummy ≡ bare_slot (now k).beat.next None (Dummy (now k).dummies) None None numbers
        → new.clock.last ≡ end_of levels start how → IsCut levels slots (passed p numbers time pace).slots how new
    dummy-cut how can part last =
        let more : List Slot = (passed p numbers time (pace_after p (now k) None)).slots in
        let due : (now k).beat.next < time =
        omega (
          arith,
          early,
          begun end keeps k mid between passes start None (Dummy (now k).dummies) None its,
        ) in
        let are : (passed p numbers time pace).slots ≡ dummies k ++ dummy ∷ more =
        passed-from p some numbers k time pace
        (early-before end keeps k mid between passes start None (Dummy (now k).dummies) None its time early)
        ∙ ap (λ (x : Passed). dummies k ++ x.slots) (passed-one p numbers time (now k) due) in
        is-cut end keeps k mid between passes start None (Dummy (now k).dummies) None its how
        (passed p numbers time pace).slots more dummy are can refl part last

    -- where a move of it failed
    dummy-broke : BrokeIn config.shape.levels start new.clock.last
        → (move : ℕ) × IsCut levels slots (passed p numbers time pace).slots (MoveFails move) new
    dummy-broke (inl (level, small, is)) =
        let m = reads-move levels level start dummy (omega (arith, small, levels-are)) in
        (level, dummy-cut (MoveFails level) (omega (arith, small, levels-are)) m.0 (is ∙ sym m.1))
    dummy-broke (inr (level, small, is)) =
        let m = writes-move levels level start dummy in
        let same : writes_start config.shape.levels start + 40 * level + 1
        ≡ writes_start levels start + 40 * level + 1 =
        ap (λ l. writes_start l start + 40 * level + 1) (sym levels-are) in (
          levels + 1 + level,
          dummy-cut (MoveFails (levels + 1 + level)) (omega (arith, small, levels-are)) m.0 (is ∙ same ∙ sym m.1),
        )

    -- or it ended after its reads
    dummy-refused : (how : cut.Stop) → Fits levels how dummy
        → part_of levels how dummy ≡ bare_slot (now k).beat.next None (Dummy (now k).dummies) None None numbers
        → end_of levels start how ≡ reads_end levels start → new.clock.last ≡ reads_end config.shape.levels start
        → IsCut levels slots (passed p numbers time pace).slots how new
    dummy-refused how can part ends last =
        dummy-cut how can part (last ∙ ap (λ l. reads_end l start) (sym levels-are) ∙ sym ends)

  -- what a stop in a dummy leaves
  module _ (stash time : ℕ) (early : new.clock.next < time) where
    pub dummy-left : (stop : Stop) → Stopped config new.clock stop new.tap.log
        → PassesStop keys stash stop old.tap.log new.tap.log (contents old) (contents new) new.clock.next
        old.clock.dummies → WaitLeaves keys levels numbers slots pace time old stop new
    dummy-left (Integrity evidence) stopped x = by_part x.stops
      where
        by_part : DummyStops keys stash (Integrity evidence) x.mid new.tap.log x.between (contents new) new.clock.next
            (old.clock.dummies + x.done)
            → IsCut levels slots (passed p numbers time pace).slots (Refused evidence) new
        by_part (inl refused) =
            dummy-refused new.clock.last stopped.pace x.done x.mid x.between x.passed new.clock.next time
            (reads-slot keys x.mid new.tap.log new.clock.next None (Dummy (old.clock.dummies + x.done)) refused.begins)
            early (Refused evidence) tt refl refl stopped.ends
        by_part (inr w) = absurd w.writes
    dummy-left (StashFull held) stopped x = by_part x.stops
      where
        by_part : DummyStops keys stash (StashFull held) x.mid new.tap.log x.between (contents new) new.clock.next
            (old.clock.dummies + x.done)
            → IsCut levels slots (passed p numbers time pace).slots (Overfull held) new
        by_part (inl none) = absurd none
        by_part (inr w) =
            dummy-refused new.clock.last stopped.pace x.done x.mid x.between x.passed new.clock.next time
            (writes-slot keys x.mid w.mid new.tap.log x.between w.between new.clock.next
            (old.clock.dummies + x.done) w.read w.unasked (ap (λ (l : LogLists). l.events) w.writes.log))
            early (Overfull held) tt refl refl stopped.ends
    dummy-left (TimeUp at) stopped x = elim x.stops [
      | inl none ↦ none
      | inr w ↦ w.writes
    ]
    dummy-left Device stopped x = by_part x.stops
      where
        by_part : DummyStops keys stash Device x.mid new.tap.log x.between (contents new) new.clock.next
            (old.clock.dummies + x.done)
            → (move : ℕ) × IsCut levels slots (passed p numbers time pace).slots (MoveFails move) new
        by_part (inl broke) =
            dummy-broke new.clock.last stopped.pace x.done x.mid x.between x.passed new.clock.next time
            (reads-slot keys x.mid new.tap.log new.clock.next None (Dummy (old.clock.dummies + x.done)) broke.begins)
            early stopped.ends
        by_part (inr w) =
            dummy-broke new.clock.last stopped.pace x.done x.mid x.between x.passed new.clock.next time
            (writes-slot keys x.mid w.mid new.tap.log x.between w.between new.clock.next
            (old.clock.dummies + x.done) w.read w.unasked
            (w.writes.adds.events_are ∙ append-nil w.mid.events)) early stopped.ends
    dummy-left NoMemory stopped x = tt

  -- ---- the slot of an access
  module _ (access : Access) where
    abbrev pub point : Point
    point = Real access.address access.counter

    abbrev pub own : ℕ → Line → Option Message → Slot
    own k line appended =
        slot_next p (now k) numbers (Some access.asked) point (put_in access line access.purpose) appended

    module _ (end : ℕ) (keeps : KeepsPace config end new.tap.log) (k : ℕ) (mid : LogLists) (between : Contents)
        (passes : ArePasses keys k old.tap.log mid (contents old) between old.clock.dummies) (start : ℕ)
        (put : Option Message)
        (h : HasSlot mid.events new.tap.log.events start (Some access.asked) point put None)
        (in-time : start < config.time) where
      first : IsFirstFrom access.asked (starts_of mid.events) start
      first = serves-each mid.events (Drawn point h.leaf ∷ (h.notes ++ [])) start access.asked
          (subst ServesPromptly h.events keeps.prompt)

      early : Early p some numbers k (min access.asked config.time) pace
      early j less =
          let said = said-before end keeps k mid between passes start (Some access.asked) point put h in
          let all : All (λ other. other < access.asked) (starts_in (slots ++ dummies k)) =
          subst (All (λ other. other < access.asked)) (log-shows mid.events (slots ++ dummies k) said.said).0
          first.others in
          let one = early-by p some numbers k access.asked pace slots all j less in
          let two = waited-rises p some numbers k pace j less in
          omega (
            arith,
            one,
            two,
            in-time,
            begun end keeps k mid between passes start (Some access.asked) point put h,
          )

      before : before_asked config numbers pace access ≡ record { slots = dummies k; pace = now k }
      before =
          passed-waited p some numbers k (min access.asked config.time) pace early
          (omega (
            arith,
            first.from,
            begun end keeps k mid between passes start (Some access.asked) point put h,
          ))

      pub own-early : asked_start config numbers pace access < config.time
      own-early =
          subst (λ (x : Passed). x.pace.beat.next < config.time) (sym before)
          (omega (
            arith,
            in-time,
            begun end keeps k mid between passes start (Some access.asked) point put h,
          ))

      pub own-cut : (line : Line) (appended : Option Message) (how : cut.Stop)
          → Fits levels how (own k line appended)
          → part_of levels how (own k line appended)
          ≡ bare_slot (now k).beat.next (Some access.asked) point put None numbers
          → new.clock.last ≡ end_of levels start how
          → IsCut levels slots (asked_slots config numbers pace access line appended).slots how new
      own-cut line appended how can part last =
          is-cut end keeps k mid between passes start (Some access.asked) point put h how
          (asked_slots config numbers pace access line appended).slots [] (own k line appended)
          (ap (λ (x : Passed). x.slots ++ slot_next p x.pace numbers (Some access.asked) point
          (put_in access line access.purpose) appended ∷ []) before)
          can refl part last

    -- what a stop in its reads leaves
    pub own-left : (stop : Stop) → new.clock.next < config.time → Stopped config new.clock stop new.tap.log
        → AskedStops keys old.tree.stash stop old.tap.log new.tap.log (contents old) (contents new) new.clock.next
        old.clock.dummies access.asked point → ((at : ℕ) → stop ≡ TimeUp at → ⊥)
        → AccessLeaves keys levels numbers slots pace access old stop new
    own-left (Integrity evidence) soon stopped x never =
        let h = reads-slot keys x.mid new.tap.log new.clock.next (Some access.asked) point x.stops.begins in
        inr (
          own-early new.clock.last stopped.pace x.done x.mid x.between x.passed new.clock.next None h soon,
          λ line appended.
              own-cut new.clock.last stopped.pace x.done x.mid x.between x.passed new.clock.next None h soon line
              appended (Refused evidence) tt refl
              (stopped.ends ∙ ap (λ l. reads_end l new.clock.next) (sym levels-are)),
        )
    own-left (StashFull held) soon stopped x never = absurd x.stops
    own-left (TimeUp at) soon stopped x never = absurd (never at refl)
    own-left Device soon stopped x never = by_end x.stops stopped.ends
      where
        by_end : ReadsBreak keys x.mid new.tap.log x.between (contents new) new.clock.next (Some access.asked) point
            → BrokeIn config.shape.levels new.clock.next new.clock.last
            → AccessLeaves keys levels numbers slots pace access old Device new
        by_end broke (inl (level, small, is)) =
            let h = reads-slot keys x.mid new.tap.log new.clock.next (Some access.asked) point broke.begins in (
              level,
              inr (
                own-early new.clock.last stopped.pace x.done x.mid x.between x.passed new.clock.next None h soon,
                inl (λ line appended.
                    let m = reads-move levels level new.clock.next (own x.done line appended)
                    (omega (arith, small, levels-are)) in
                    own-cut new.clock.last stopped.pace x.done x.mid x.between x.passed new.clock.next None h soon line
                    appended (MoveFails level) (omega (arith, small, levels-are)) m.0 (is ∙ sym m.1)),
              ),
            )
        by_end broke (inr (level, small, is)) =
            let made : new.tap.log.moves
            ≡ x.mid.moves ++ along config.shape.levels false new.clock.next (keys.leaf_of point) (broke.level + 1) =
            broke.moves
            ∙ ap (λ l. x.mid.moves ++ along l false new.clock.next (keys.leaf_of point) (broke.level + 1))
            keys-levels in
            let within = broke.within in
            absurd (all-read-in new.clock.last stopped.pace x.done x.mid x.between x.passed new.clock.next
            (Some access.asked) point None
            (reads-slot keys x.mid new.tap.log new.clock.next (Some access.asked) point broke.begins) x.mid.moves
            broke.level level (omega (arith, within, keys-levels)) is made)
    own-left NoMemory soon stopped x never = tt

    -- a dummy before it was cut
    pub passing-left : (stop : Stop) → ((at : ℕ) → stop ≡ TimeUp at → ⊥)
        → WaitLeaves keys levels numbers slots pace (min access.asked config.time) old stop new
        → AccessLeaves keys levels numbers slots pace access old stop new
    passing-left (Integrity evidence) never left = inl left
    passing-left (StashFull held) never left = inl left
    passing-left (TimeUp at) never left = absurd (never at refl)
    passing-left Device never (move, left) = (move, inl left)
    passing-left NoMemory never left = tt
