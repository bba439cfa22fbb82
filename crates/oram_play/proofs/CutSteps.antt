-- What a stopped access, append or wait leaves, from the port's calls that it is made of.
use Rattle.std.proofs.Common.{◌≡◌, ◌<◌, ◌≤◌, ◌⊎◌, ℕ, ◌+◌, ◌-◌, ◌*◌, List, [], ◌∷◌, ◌++◌, Option, Some, None}
use Rattle.std.proofs.Common.{Bool, true, false, if◌then◌else◌, is_some, nat_lt, length, min, Err, refl, sym, ap}
use Rattle.std.proofs.Common.{◌∙◌, subst, arith, append-nil, append_assoc, inl, inr}
use Rattle.std.specs.List.{All}
use Rattle.std.proofs.lemmas.List.Concat.{flat_map-append}
use Rattle.request_plan.specs.Plan.{Ends, Stops, Refuses}
use Rattle.request_plan.proofs.Chains.{Ends-unbind, Stops-unbind}
use Rattle.asc_base.specs.TreeShape.{olat_of}
use Rattle.asc_base.specs.declared.block.Entry.{Entry}
use Rattle.asc_base.specs.declared.block.Line.{Line}
use Rattle.asc_base.specs.declared.block.Message.{Message}
use Rattle.asc_base.specs.declared.block.Point.{Point}
use Rattle.asc_base.specs.declared.block.Point.TheVariants.{Real}
use Rattle.asc_base.specs.declared.settings.Config.{Config}
use Rattle.asc_base.specs.declared.stop.Evidence.{Evidence}
use Rattle.asc_base.specs.declared.stop.Evidence.TheVariants.{Doubled}
use Rattle.asc_base.specs.declared.stop.Stop.{Stop}
use Rattle.asc_base.specs.declared.stop.Stop.TheVariants.{Integrity, StashFull, TimeUp, Device, NoMemory}
use Rattle.bus_schedule.specs.Scheduled.{log_code}
use Rattle.bus_schedule.specs.Shown.{starts_of, AreSilent, code_of}
use Rattle.bus_schedule.specs.Timetable.{Public, public_of, count_of, start_at, end_at, starts, timetable}
use Rattle.bus_schedule.specs.declared.beat.Beat.{Beat}
use Rattle.bus_schedule.proofs.ScheduledLaws.{silent-none}
use Rattle.bus_schedule.proofs.TimetableLaws.{length-starts, starts-all, end-before, timetable-between}
use Rattle.bus_schedule.proofs.TimetableParts.{StartsBefore, timetable-before, fallen-between}
use Rattle.bus_watch.specs.Log.{LogLists, TapState}
use Rattle.bus_watch.specs.Path.{along, reads_end, writes_start}
use Rattle.bus_watch.specs.declared.log.Event.{Event}
use Rattle.bus_watch.specs.declared.log.Event.TheVariants.{Tagged}
use Rattle.epoch_learner.specs.Heard.{Heard, nothing_heard}
use Rattle.epoch_learner.specs.Stands.{AreDone, KeepsPace}
use Rattle.oram_contents.specs.Contents.{after_write}
use Rattle.oram_contents.specs.Entries.{Keys}
use Rattle.oram_contents.specs.Fold.{tagged_entry}
use Rattle.oram_contents.specs.Slots.{ArePasses, drawn_events}
use Rattle.oram_contents.specs.Steps.{accepted}
use Rattle.oram_contents.specs.Verdict.{judged}
use Rattle.oram_frontend.specs.Access.{accept_plan, put_plan, back_plan, judged_plan, close_plan, finish_plan, SlotStep}
use Rattle.oram_frontend.specs.Access.{found_line, next_message}
use Rattle.oram_frontend.specs.Oram.{OramState, OramStep, Wait}
use Rattle.oram_frontend.specs.Slots.{FitKeys}
use Rattle.oram_frontend.proofs.SlotLaws.{keys_fit, Under, taken, accepted_on, put_back_on, IsOpenFor, open_accepted}
use Rattle.oram_frontend.proofs.SlotLaws.{open_put}
use Rattle.oram_stash.specs.Entries.{held, without}
use Rattle.oram_walk.specs.Request.{Slot as AccessSlot, Append}
use Rattle.oram_walk.specs.declared.slots.Access.{Access}
use Rattle.oram_walk.specs.declared.slots.Purpose.{Purpose}
use Rattle.oram_walk.specs.declared.slots.Purpose.TheVariants.{Refill, Keep, Replace}
use Rattle.rate_enforcer.specs.Breaks.{WriteStops, WritesBreak, PassesStop, AskedStops}
use Rattle.rate_enforcer.specs.PortStep.{PortState, PortStep, Resting, InSlot, Opened, OpenStopped, Taken, Aborted}
use Rattle.rate_enforcer.specs.PortStep.{CloseStopped, HasNoted, JoinStopped, IdleStopped, contents}
use Rattle.rate_enforcer.specs.Served.{IsServed}
use Rattle.rate_enforcer.specs.State.{Stopped, IsUp}
use Rattle.rate_enforcer.specs.Stops.{EndsAt, BrokeIn}
use Rattle.rate_enforcer.specs.declared.clock.Clock.{Clock}
use Rattle.run_play.specs.Halt as cut
use Rattle.run_play.specs.Halt.{Refused, Overfull, MoveFails, AppendRefused, AppendOverfull, Fits, part_of, end_of}
use Rattle.run_play.specs.Halt.{after_put}
use Rattle.run_play.specs.OnTime.{IsPace}
use Rattle.run_play.specs.PlayEvents.{Tags, said_of, said_of_all, tags_of, slot_events, play_events, starts_in, code_in}
use Rattle.run_play.specs.Slots.{Pace, Numbers, Slot, Passed}
use Rattle.run_play.proofs.Events.{log-shows}
use Rattle.run_play.proofs.Paces.{heard-ended, heard-last}
use Rattle.run_play.proofs.PlaysOnTime.{some-rate}
use Rattle.unified_tree.specs.declared.stop.OpenPath.{OpenPath}
use Rattle.oram_play.specs.Playing.{IsCut}
use Rattle.oram_play.specs.Stopped.{WasFound, IsAccessCut, AccessLeaves, WaitLeaves, AppendLeaves}
use Rattle.oram_play.specs.Taken.{HasTaken, put_in, with_appended, before_asked}
use Rattle.oram_play.proofs.Accesses.{early-by, accepted-silent, accepted-said, tagged-silent, tagged-said}
use Rattle.oram_play.proofs.Between.{pace-of, slot-appended, last-events}
use Rattle.oram_play.proofs.Cuts.{writes-move}
use Rattle.oram_play.proofs.CutSlots.{levels-are, keys-levels, none-written-in, dummy-left, own, own-cut, own-early}
use Rattle.oram_play.proofs.CutSlots.{own-left, passing-left}
use Rattle.oram_play.proofs.Due.{HasSlot}
use Rattle.oram_play.proofs.Passes.{Said, waited, dummies_after, waited-dummies, passes-said, Early, passed-waited}

module _ (keys : Keys) (levels notes : ℕ) (numbers : Numbers) (old new : PortState) (slots : List Slot) (pace : Pace)
    (fits : FitKeys keys old) (rests : Resting notes levels old) (had : HasTaken old slots pace) where
  abbrev config : Config
  config = old.clock.config

  abbrev p : Public
  p = public_of config

  some : 0 < count_of p
  some = some-rate config rests.stands.step.follows.is_of.is_config

  -- ---- no slot is left
  module _ (access : Access) (at : ℕ) (up : IsUp config at access.asked new.clock new.tap.log)
      (passes : ArePasses keys (new.clock.dummies - old.clock.dummies) old.tap.log new.tap.log (contents old)
      (contents new) old.clock.dummies) (more : old.clock.dummies ≤ new.clock.dummies)
      (stopped : Stopped config new.clock (TimeUp at) new.tap.log) where
    abbrev k : ℕ
    k = new.clock.dummies - old.clock.dummies

    abbrev time : ℕ
    time = min access.asked config.time

    abbrev code : ℕ
    code = log_code p new.tap.log

    -- how many slots start before the time
    abbrev m : ℕ
    m = length (timetable p code time)

    starts-early : StartsBefore p code time m
    starts-early = timetable-before p code time

    keeps : KeepsPace config at new.tap.log
    keeps = let ends = stopped.ends in up.pace at (omega (arith, ends.0, ends.1)) (omega arith)

    past : end_at p code m ≤ at
    past = let first = up.first in omega (arith, first, end-before p code m)

    begun : starts_of new.tap.log.events ≡ starts p code m
    begun = keeps.scheduled.starts
        ∙ timetable-between p code m at past (let first = up.first in omega (arith, first))

    done : AreDone p new.tap.log.events
    done = record {
      count = m;
      begun = begun;
      indices = keeps.scheduled.indices;
      fell = keeps.scheduled.fell
          ∙ fallen-between p code m at past (let first = up.first in omega (arith, first));
    }

    abbrev now : Pace
    now = waited p some numbers k pace

    abbrev all : List Slot
    all = slots ++ dummies_after p some numbers k pace

    said : Said p new.tap.log.events all now
    said =
        let old_said : Said p old.tap.log.events slots pace = record { said = had.said; paced = had.pace } in
        passes-said p some numbers keys k old.tap.log new.tap.log (contents old) (contents new) slots pace
        old.clock.dummies passes (sym had.dummies) old_said done keeps.ends keeps.rule

    shown : (starts_of new.tap.log.events ≡ starts_in all) × (code ≡ code_in p all)
    shown =
        let shows = log-shows new.tap.log.events all said.said in
        (shows.0, ap (code_of (count_of p)) shows.1)

    long : length all ≡ m
    long =
        let one : length (starts_of new.tap.log.events) ≡ m = ap length begun ∙ length-starts p code m in
        let two : length (starts_of new.tap.log.events) ≡ length all =
        ap length (shown.0 ∙ said.paced.starts) ∙ length-starts p (code_in p all) (length all) in
        sym two ∙ one

    next-is : now.beat.next ≡ at
    next-is =
        ap (λ (b : Beat). b.next) said.paced.beat
        ∙ ap (λ c. start_at p c (length all)) (sym shown.1) ∙ ap (start_at p code) long ∙ sym up.first

    last-is : new.clock.last ≡ now.heard.ended
    last-is =
        let counted : length (starts_of new.tap.log.events) ≡ m = ap length begun ∙ length-starts p code m in
        up.ended ∙ ap (end_at p code) (counted ∙ sym long) ∙ ap (λ c. end_at p c (length all)) shown.1
        ∙ sym said.paced.ended

    early : Early p some numbers k time pace
    early =
        early-by p some numbers k time pace slots
        (subst (All (λ other. other < time)) (sym begun ∙ shown.0)
        (starts-all (λ other. other < time) p code m starts-early.before))

    before : before_asked config numbers pace access
        ≡ record { slots = dummies_after p some numbers k pace; pace = now }
    before =
        passed-waited p some numbers k time pace early
        (let first = up.first in let far = starts-early.next in omega (arith, far, first, next-is))

    pub up-left : AccessLeaves keys levels numbers slots pace access old (TimeUp at) new
    up-left =
        subst (λ (x : Passed). HasTaken new (slots ++ x.slots) x.pace × (at ≡ x.pace.beat.next)
        × (config.time ≤ at) × (new.clock.last ≡ x.pace.heard.ended)) (sym before) (
          record {
            said = said.said;
            pace = subst (λ (c : Config). IsPace (public_of c) all now) (sym stopped.same) said.paced;
            dummies = omega (arith, waited-dummies p some numbers k pace, had.dummies, more);
          },
          sym next-is,
          up.late,
          last-is,
        )

  -- ---- the opening of a slot is stopped
  module _ (access : Access) where
    abbrev point : Point
    point = Real access.address access.counter

    -- but for want of time
    abbrev Broke : Keys → Stop → Type 0
    Broke k stop =
        (PassesStop k old.tree.stash stop old.tap.log new.tap.log (contents old) (contents new) new.clock.next
        old.clock.dummies × (new.clock.next < min access.asked config.time))
        ⊎ (AskedStops k old.tree.stash stop old.tap.log new.tap.log (contents old) (contents new) new.clock.next
        old.clock.dummies access.asked point × (new.clock.next < config.time))

    open-by : (stop : Stop) → ((at : ℕ) → stop ≡ TimeUp at → ⊥) → Stopped config new.clock stop new.tap.log
        → Broke keys stop → AccessLeaves keys levels numbers slots pace access old stop new
    open-by stop never stopped (inl (x, soon)) =
        passing-left keys levels notes numbers old new slots pace fits rests had access stop never
        (dummy-left keys levels notes numbers old new slots pace fits rests had old.tree.stash
        (min access.asked config.time) soon stop stopped x)
    open-by stop never stopped (inr (x, soon)) =
        own-left keys levels notes numbers old new slots pace fits rests had access stop soon stopped x never

    open-left : (stop : Stop) → OpenStopped keys.leaf_of levels access.asked point stop old new
        → AccessLeaves keys levels numbers slots pace access old stop new
    open-left (Integrity evidence) h =
        open-by (Integrity evidence) (λ at is. cc) h.stopped
        (subst (λ (k : Keys). Broke k (Integrity evidence)) (keys_fit keys old fits) (h.breaks keys.tags))
    open-left (StashFull held) h =
        open-by (StashFull held) (λ at is. cc) h.stopped
        (subst (λ (k : Keys). Broke k (StashFull held)) (keys_fit keys old fits) (h.breaks keys.tags))
    open-left (TimeUp at) h =
        let (up, passes, more, few) = h.breaks keys.tags in
        up-left access at up (subst (λ (x : Keys). ArePasses x (new.clock.dummies - old.clock.dummies) old.tap.log
        new.tap.log (contents old) (contents new) old.clock.dummies) (keys_fit keys old fits) passes) more h.stopped
    open-left Device h =
        open-by Device (λ at is. cc) h.stopped
        (subst (λ (k : Keys). Broke k Device) (keys_fit keys old fits) (h.breaks keys.tags))
    open-left NoMemory h = tt

    -- ---- the slot is given up
    module _ (found : Option Entry) (one two : PortState)
        (opened : Opened keys.leaf_of levels access.asked point old one)
        (took : Taken keys.leaf_of levels access.address found one two) where
      in-slot : InSlot (notes + 3) levels (keys.leaf_of point) two
      in-slot = took.in_slot (notes + 3) (keys.leaf_of point) (opened.in_slot notes rests)

      same-config : two.clock.config ≡ config
      same-config = ap (λ (c : Clock). c.config) took.others.clock ∙ opened.same.config

      same-next : two.clock.next ≡ one.clock.next
      same-next = ap (λ (c : Clock). c.next) took.others.clock

      abort-left : (evidence : Evidence) (end : ℕ) → Aborted keys.leaf_of levels (Integrity evidence) end two new
          → AccessLeaves keys levels numbers slots pace access old (Integrity evidence) new
      abort-left evidence end a =
          let served : IsServed keys old.tree.stash old.tap.log one.tap.log (contents old) (contents one)
          old.clock.dummies one.clock access.asked point =
          subst (λ (k : Keys). IsServed k old.tree.stash old.tap.log one.tap.log (contents old) (contents one)
          old.clock.dummies one.clock access.asked point) (keys_fit keys old fits) (opened.served keys.tags) in
          let slot = in-slot in
          let open_path : Some a.path ≡ Some (record { start = slot.slot.start; leaf = slot.slot.leaf }) =
          sym a.on ∙ slot.opens.is_open.path in
          let path : a.path ≡ record { start = slot.slot.start; leaf = slot.slot.leaf } = cc in
          let start : a.path.start ≡ one.clock.next =
          ap (λ (x : OpenPath). x.start) path ∙ slot.opens.is_open.starts ∙ same-next in
          let h : HasSlot served.mid.events new.tap.log.events one.clock.next (Some access.asked) point None None =
          record {
            leaf = record { 0 = keys.leaf_of point };
            notes = [];
            silent = silent-none;
            said = refl;
            events = ap (λ (t : TapState). t.log.events) (a.tap ∙ took.others.tap) ∙ served.noted;
          } in
          let keeps : KeepsPace config end new.tap.log =
          subst (λ (c : Config). KeepsPace c end new.tap.log) same-config
          (a.pace (notes + 3) (keys.leaf_of point) slot) in
          let soon : one.clock.next < config.time =
          omega (arith, slot.opens.is_open.early, same-next, ap (λ (c : Config). c.time) same-config) in
          let last : new.clock.last ≡ reads_end levels one.clock.next =
          ap (λ (c : Clock). c.last) a.clock ∙ a.end_is
          ∙ ap (λ (c : Config). reads_end c.shape.levels a.path.start) same-config
          ∙ ap (λ l. reads_end l a.path.start)
          (sym (levels-are keys levels notes numbers old new slots pace fits rests had))
          ∙ ap (reads_end levels) start in
          let k : ℕ = one.clock.dummies - old.clock.dummies in
          inr (
            own-early keys levels notes numbers old new slots pace fits rests had access end keeps k served.mid
                served.between served.passed one.clock.next None h soon,
            λ line appended.
                own-cut keys levels notes numbers old new slots pace fits rests had access end keeps k served.mid
                served.between served.passed one.clock.next None h soon line appended (Refused evidence) tt refl
                last,
          )

    -- ---- its writes are stopped
    module _ (found : Option Entry) (s : PortState) (later tail : List Event) (back : List Entry)
        (u : Under keys levels access found old s later back) (least : ℕ)
        (open_for : IsOpenFor keys levels access least s)
        (silent : AreSilent later)
        (notes_said : said_of_all later ≡ tags_of (put_in access (found_line found) access.purpose))
        (parts : later ≡ accepted access.address.0 access.counter found ++ tail) where
      abbrev line : Line
      line = found_line found

      was-found : new.tap.log.events ≡ s.tap.log.events → new.tap.log.altered ≡ s.tap.log.altered
          → WasFound keys access line old new
      was-found events altered = record {
        passed = u.passed;
        mid = u.mid;
        between = u.between;
        passes = u.passes;
        seeds = u.seeds;
        start = u.start;
        found = found;
        log = record {
          moves = s.tap.log.moves;
          events = u.mid.events ++ (drawn_events keys u.start (Some access.asked) point
              ++ accepted access.address.0 access.counter found);
          altered = u.mid.altered ++ u.altered;
        };
        after = after_write keys.pads keys.shape.levels (keys.leaf_of point)
            (record u.between { hand = without u.joined access.address });
        slot = record {
          asked = Some access.asked;
          altered = u.altered;
          joined = u.joined;
          events_are = refl;
          altered_are = refl;
          noted = u.noted;
          read = u.read;
          of_shape = u.of_shape;
          found_is = u.found_is;
          right = u.right;
          after_is = refl;
        };
        line_is = refl;
        more = tail;
        adds = record {
          events_are = events ∙ u.events_are
              ∙ ap (λ l. u.mid.events ++ (drawn_events keys u.start (Some access.asked) point ++ l)) parts
              ∙ sym (append_assoc u.mid.events (drawn_events keys u.start (Some access.asked) point
              ++ accepted access.address.0 access.counter found) tail
              ∙ ap (λ l. u.mid.events ++ l) (append_assoc (drawn_events keys u.start (Some access.asked) point)
              (accepted access.address.0 access.counter found) tail));
          altered_are = altered ∙ u.altered_are ∙ sym (append-nil (u.mid.altered ++ u.altered));
        };
      }

      abbrev its-slot : new.tap.log.events ≡ s.tap.log.events
          → HasSlot u.mid.events new.tap.log.events u.start (Some access.asked) point
          (put_in access line access.purpose) None
      its-slot events = record {
        leaf = record { 0 = keys.leaf_of point };
        notes = later;
        silent = silent;
        said = notes_said;
        events = events ∙ u.events_are
            ∙ ap (λ l. u.mid.events ++ (drawn_events keys u.start (Some access.asked) point ++ l))
            (sym (append-nil later));
      }

      soon : u.start < config.time
      soon =
          let slot = open_for.2 in
          omega (arith, slot.opens.is_open.early, u.next, ap (λ (c : Config). c.time) u.config)

      -- its slot in a play, behind which this is appended
      abbrev its : Option Message → Slot
      its = own keys levels notes numbers old new slots pace fits rests had access u.passed line

      -- it was cut after its block was put back
      found-left : (how : cut.Stop) → KeepsPace config new.clock.last new.tap.log
          → new.tap.log.events ≡ s.tap.log.events → new.tap.log.altered ≡ s.tap.log.altered
          → ((appended : Option Message) → Fits levels how (its appended))
          → ((appended : Option Message) → part_of levels how (its appended) ≡ after_put (its appended))
          → new.clock.last ≡ end_of levels u.start how
          → IsAccessCut keys levels numbers slots pace access old how new
      found-left how keeps events altered can part last = inr (
        own-early keys levels notes numbers old new slots pace fits rests had access new.clock.last keeps u.passed u.mid
            u.between u.passes u.start (put_in access line access.purpose) (its-slot events) soon,
        inr (
          line,
          was-found events altered,
          λ appended.
              own-cut keys levels notes numbers old new slots pace fits rests had access new.clock.last keeps u.passed
              u.mid u.between u.passes u.start (put_in access line access.purpose) (its-slot events) soon line appended
              how (can appended) (part appended) last,
        ),
      )

      module _ (path : OpenPath) (on : s.tree.path ≡ Some path) where
        path-is : (path.start ≡ u.start) × (path.leaf.0 ≡ keys.leaf_of point)
        path-is =
            let slot = open_for.2 in
            let open_path : Some path ≡ Some (record { start = slot.slot.start; leaf = slot.slot.leaf }) =
            sym on ∙ slot.opens.is_open.path in
            let same : path ≡ record { start = slot.slot.start; leaf = slot.slot.leaf } = cc in (
              ap (λ (x : OpenPath). x.start) same ∙ slot.opens.is_open.starts ∙ u.next,
              ap (λ (x : OpenPath). x.leaf.0) same ∙ slot.leaf_is,
            )

      stops-at : (stop : Stop) → CloseStopped keys.leaf_of levels stop s new
          → KeepsPace config new.clock.last new.tap.log
          × EndsAt stop config.shape.levels new.clock.learner.rate u.start new.clock.last
      stops-at stop h =
          let stopped : Stopped config new.clock stop new.tap.log =
          subst (λ (c : Config). Stopped c new.clock stop new.tap.log) u.config h.stopped in (
            stopped.pace,
            subst (λ n. EndsAt stop config.shape.levels new.clock.learner.rate n new.clock.last) (h.next ∙ u.next)
                stopped.ends,
          )

      breaks : (stop : Stop) → (h : CloseStopped keys.leaf_of levels stop s new)
          → WriteStops keys s.tree.stash stop s.tap.log new.tap.log (contents s) (contents new) h.path.start
          h.path.leaf.0
      breaks stop h =
          subst (λ (k : Keys). WriteStops k s.tree.stash stop s.tap.log new.tap.log (contents s) (contents new)
          h.path.start h.path.leaf.0) (keys_fit keys s u.fits) (h.breaks keys.tags)

      broke : (h : CloseStopped keys.leaf_of levels Device s new)
          → WritesBreak keys s.tree.stash h.path.start h.path.leaf.0 s.tap.log new.tap.log (contents s) (contents new)
          → KeepsPace config new.clock.last new.tap.log → BrokeIn config.shape.levels u.start new.clock.last
          → AccessLeaves keys levels numbers slots pace access old Device new
      broke h w keeps (inl (level, small, is)) =
          let events = w.adds.events_are ∙ append-nil s.tap.log.events in
          let where_is = path-is h.path h.on in
          let deep = keys-levels keys levels notes numbers old new slots pace fits rests had in
          let made : new.tap.log.moves ≡ s.tap.log.moves ++ along config.shape.levels true
          (writes_start config.shape.levels u.start) (keys.leaf_of point) (w.level + 1) =
          w.moves
          ∙ ap (λ l. s.tap.log.moves ++ along l true (writes_start l h.path.start) h.path.leaf.0 (w.level + 1)) deep
          ∙ ap (λ n. s.tap.log.moves ++ along config.shape.levels true (writes_start config.shape.levels n)
          h.path.leaf.0 (w.level + 1)) where_is.0
          ∙ ap (λ n. s.tap.log.moves ++ along config.shape.levels true (writes_start config.shape.levels u.start)
          n (w.level + 1)) where_is.1 in
          absurd (none-written-in keys levels notes numbers old new slots pace fits rests had new.clock.last keeps
          u.passed u.mid u.between u.passes u.start (Some access.asked) point (put_in access line access.purpose)
          (its-slot events) s.tap.log.moves level w.level small is made)
      broke h w keeps (inr (level, small, is)) =
          let events = w.adds.events_are ∙ append-nil s.tap.log.events in
          let altered = w.adds.altered_are ∙ append-nil s.tap.log.altered in
          let m = writes-move levels level u.start
          (its None) in
          let same : writes_start config.shape.levels u.start + 40 * level + 1
          ≡ writes_start levels u.start + 40 * level + 1 =
          ap (λ l. writes_start l u.start + 40 * level + 1)
          (sym (levels-are keys levels notes numbers old new slots pace fits rests had)) in (
            levels + 1 + level,
            found-left (MoveFails (levels + 1 + level)) keeps events altered
                (λ appended. omega (
                  arith,
                  small,
                  levels-are keys levels notes numbers old new slots pace fits rests had,
                ))
                (λ appended. (writes-move levels level u.start (its appended)).0) (is ∙ same ∙ sym m.1),
          )

      close-left : (stop : Stop) → CloseStopped keys.leaf_of levels stop s new
          → AccessLeaves keys levels numbers slots pace access old stop new
      close-left (Integrity evidence) h = absurd (breaks (Integrity evidence) h)
      close-left (StashFull held) h =
          let w = breaks (StashFull held) h in
          let (keeps, ends) = stops-at (StashFull held) h in
          let events = ap (λ (l : LogLists). l.events) w.log in
          found-left (Overfull held) keeps events (ap (λ (l : LogLists). l.altered) w.log) (λ appended. tt)
          (λ appended. refl) (ends ∙ ap (λ l. reads_end l u.start)
          (sym (levels-are keys levels notes numbers old new slots pace fits rests had)))
      close-left (TimeUp at) h = absurd (breaks (TimeUp at) h)
      close-left Device h =
          let (keeps, ends) = stops-at Device h in
          broke h (breaks Device h) keeps ends
      close-left NoMemory h = tt

    -- ---- the rest of a slot in which nothing is wrong
    finish_gives : (found : Option Entry) (s : PortState) (stop : Stop)
        → Ends (PortStep keys.leaf_of levels) (finish_plan keys access found) s new (Refuses stop) → ⊥
    finish_gives found s stop ends =
        let (x, m, first, rest) = Ends-unbind (PortStep keys.leaf_of levels) (λ left. left) (accept_plan access found) _
        s new (Refuses stop) ends in
        let (y, n, back, close) = Ends-unbind (PortStep keys.leaf_of levels) (λ left. left)
        (back_plan keys access (found_line found) access.purpose) _ m new (Refuses stop) rest in
        closes close
      where
        closes : {t : PortState}
            → Ends (PortStep keys.leaf_of levels) (close_plan keys (found_line found)) t new (Refuses stop) → ⊥
        closes (x, mid, one, (is, same)) = absurd (cc)

    put_passes : (message : Message) (s t : PortState) (stop : Stop)
        → Stops (PortStep keys.leaf_of levels) (put_plan keys message) s t stop tt → ⊥
    put_passes message s t stop (inl one) = one.0
    put_passes message s t stop (inr (x, m, one, inl two)) = two.0
    put_passes message s t stop (inr (x, m, one, inr (y, n, two, none))) = none

    back_passes : (line : Line) (purpose : Purpose) (s t : PortState) (stop : Stop)
        → Stops (PortStep keys.leaf_of levels) (back_plan keys access line purpose) s t stop tt → ⊥
    back_passes line Refill s t stop stops = stops
    back_passes line Keep s t stop stops = put_passes (next_message access line) s t stop stops
    back_passes line (Replace value) s t stop stops = put_passes (next_message access value) s t stop stops

    accept_passes : (found : Option Entry) (s t : PortState) (stop : Stop)
        → Stops (PortStep keys.leaf_of levels) (accept_plan access found) s t stop tt → ⊥
    accept_passes None s t stop stops = stops
    accept_passes (Some entry) s t stop (inl one) = one.0
    accept_passes (Some entry) s t stop (inr (x, m, one, none)) = none

    -- the path isn't written to its end
    module _ (found : Option Entry) (stop : Stop) where
      abbrev noted : List Event
      noted = accepted access.address.0 access.counter found

      close-by : (s : PortState) (later tail : List Event) (back : List Entry)
          → Under keys levels access found old s later back → (least : ℕ) → IsOpenFor keys levels access least s
          → AreSilent later
          → said_of_all later ≡ tags_of (put_in access (found_line found) access.purpose)
          → later ≡ noted ++ tail
          → Stops (PortStep keys.leaf_of levels) (close_plan keys (found_line found)) s new stop tt
          → AccessLeaves keys levels numbers slots pace access old stop new
      close-by s later tail back u least open_for silent said parts (inl one) =
          close-left found s later tail back u least open_for silent said parts stop one.0
      close-by s later tail back u least open_for silent said parts (inr (x, m, one, none)) = absurd none

      put-as : (line : Line) (s t : PortState) (x : Unit {0})
          → put_in access (found_line found) access.purpose ≡ Some (next_message access line)
          → Ends (PortStep keys.leaf_of levels) (put_plan keys (next_message access line)) s t x
          → Stops (PortStep keys.leaf_of levels) (close_plan keys (found_line found)) t new stop tt
          → IsOpenFor keys levels access (notes + 1 + 1) s → Under keys levels access found old s noted []
          → AccessLeaves keys levels numbers slots pace access old stop new
      put-as line s t x is back close open_for u =
          let message : Message = next_message access line in
          close-by t (noted ++ Tagged message ∷ []) (Tagged message ∷ []) (tagged_entry keys message ∷ [])
          (put_back_on keys levels access found old s t noted message x back u) (notes + 1)
          (open_put keys levels access message (notes + 1) s t x back open_for)
          (tagged-silent access.address.0 access.counter found message)
          (tagged-said access.address.0 access.counter found message ∙ ap tags_of (sym is)) refl close

      close-after : (purpose : Purpose) → access.purpose ≡ purpose → (s t : PortState) (x : Unit {0})
          → Ends (PortStep keys.leaf_of levels) (back_plan keys access (found_line found) purpose) s t x
          → Stops (PortStep keys.leaf_of levels) (close_plan keys (found_line found)) t new stop tt
          → IsOpenFor keys levels access (notes + 1 + 1) s → Under keys levels access found old s noted []
          → AccessLeaves keys levels numbers slots pace access old stop new
      close-after Refill is s t x back close open_for u =
          close-by s noted [] [] u (notes + 1 + 1) open_for
          (accepted-silent access.address.0 access.counter found)
          (accepted-said access.address.0 access.counter found
          ∙ ap (λ purpose. tags_of (put_in access (found_line found) purpose)) (sym is))
          (sym (append-nil noted))
          (subst (λ v. Stops (PortStep keys.leaf_of levels) (close_plan keys (found_line found)) v new stop tt) back.1
          close)
      close-after Keep is s t x back close open_for u =
          put-as (found_line found) s t x (ap (put_in access (found_line found)) is) back close open_for u
      close-after (Replace value) is s t x back close open_for u =
          put-as value s t x (ap (put_in access (found_line found)) is) back close open_for u

      finish-left : (one two : PortState) → Opened keys.leaf_of levels access.asked point old one
          → Taken keys.leaf_of levels access.address found one two
          → judged keys access.address.0 access.counter found ≡ None
          → Stops (PortStep keys.leaf_of levels) (finish_plan keys access found) two new stop tt
          → AccessLeaves keys levels numbers slots pace access old stop new
      finish-left one two opened took right stops =
          let u = taken keys levels notes access found old one two fits rests opened took right in
          elim (Stops-unbind (PortStep keys.leaf_of levels) (λ left. left) (accept_plan access found) _ two new stop tt
          stops) [
            | inl first ↦ absurd (accept_passes found two new stop first.1)
            | inr (x, s, first, rest) ↦
                elim (Stops-unbind (PortStep keys.leaf_of levels) (λ left. left)
                (back_plan keys access (found_line found) access.purpose) _ s new stop tt rest) [
                  | inl back ↦ absurd (back_passes (found_line found) access.purpose s new stop back.1)
                  | inr (y, t, back, close) ↦
                      close-after access.purpose refl s t y back close
                      (open_accepted keys levels access found (notes + 1 + 1) two s x first (
                        notes + 3,
                        omega arith,
                        in-slot found one two opened took,
                      ))
                      (accepted_on keys levels access found old two s x first u)
                ]
          ]

      judged-ends : (verdict : Option Evidence) (one two : PortState)
          → Opened keys.leaf_of levels access.asked point old one
          → Taken keys.leaf_of levels access.address found one two
          → Ends (PortStep keys.leaf_of levels) (judged_plan keys access found verdict) two new (Refuses stop)
          → AccessLeaves keys levels numbers slots pace access old stop new
      judged-ends (Some evidence) one two opened took (said, m, aborted, (is, same)) =
          let wrong : stop ≡ Integrity evidence = cc in
          subst (λ x. AccessLeaves keys levels numbers slots pace access old x new) (sym wrong)
          (abort-left found one two opened took evidence said.end
          (subst (λ v. Aborted keys.leaf_of levels (Integrity evidence) said.end two v) (sym same) aborted.1))
      judged-ends None one two opened took ends = absurd (finish_gives found two stop ends)

      judged-stops : (verdict : Option Evidence) → judged keys access.address.0 access.counter found ≡ verdict
          → (one two : PortState) → Opened keys.leaf_of levels access.asked point old one
          → Taken keys.leaf_of levels access.address found one two
          → Stops (PortStep keys.leaf_of levels) (judged_plan keys access found verdict) two new stop tt
          → AccessLeaves keys levels numbers slots pace access old stop new
      judged-stops (Some wrong) is one two opened took (inl abort) = absurd (abort.0)
      judged-stops (Some wrong) is one two opened took (inr (x, m, abort, none)) = absurd none
      judged-stops None is one two opened took stops = finish-left one two opened took is stops

    -- ---- a stopped access
    pub slot-left : (stop : Stop) → SlotStep keys levels old (AccessSlot access) (Err stop) new
        → AccessLeaves keys levels numbers slots pace access old stop new
    slot-left stop (inl (x, one, opened, (y, two, took, ends))) =
        judged-ends y.found stop (judged keys access.address.0 access.counter y.found) one two opened.1 took.1 ends
    slot-left stop (inr (inl (inl before, left))) =
        absurd (let bad : ◌≡◌ {A = Option Stop} None (Some stop) = sym rests.going ∙ before.0 in cc)
    slot-left stop (inr (inl (inr h, left))) = open-left stop h
    slot-left stop (inr (inr (x, one, opened, inl none))) = absurd (none.0)
    slot-left stop (inr (inr (x, one, opened, inr (y, two, took, stops)))) =
        judged-stops y.found stop (judged keys access.address.0 access.counter y.found) refl one two opened.1 took.1
        stops

  -- ---- a stopped wait
  pub idle-left : (time : ℕ) (stop : Stop) → IdleStopped keys.leaf_of levels time stop old new
      → WaitLeaves keys levels numbers slots pace time old stop new
  idle-left time stop h =
      dummy-left keys levels notes numbers old new slots pace fits rests had old.tree.stash time h.early stop h.stopped
      (subst (λ (k : Keys). PassesStop k old.tree.stash stop old.tap.log new.tap.log (contents old) (contents new)
      new.clock.next old.clock.dummies) (keys_fit keys old fits) (h.breaks keys.tags))

pub wait-left : (keys : Keys) (levels notes time : ℕ) (stop : Stop) (old new : OramState) (slots : List Slot)
    (pace : Pace) (numbers : Numbers) → FitKeys keys old.port → Resting notes levels old.port → old.stop ≡ None
    → HasTaken old.port slots pace → OramStep keys levels old (Wait time) (Err stop) new
    → WaitLeaves keys levels numbers slots pace time old.port stop new.port
wait-left keys levels notes time stop old new slots pace numbers fits rests serves had (inl before) =
    absurd (let bad : ◌≡◌ {A = Option Stop} None (Some stop) = sym serves ∙ before.0 in cc)
wait-left keys levels notes time stop old new slots pace numbers fits rests serves had (inr (stops, is, inl before)) =
    absurd (let bad : ◌≡◌ {A = Option Stop} None (Some stop) = sym rests.going ∙ before.0 in cc)
wait-left keys levels notes time stop old new slots pace numbers fits rests serves had (inr (stops, is, inr h)) =
    idle-left keys levels notes numbers old.port new.port slots pace fits rests had time stop h

-- ---- a stopped append
module _ (keys : Keys) (levels notes : ℕ) (message : Message) (old one new : PortState) (slots : List Slot)
    (slot : Slot) (pace : Pace) (rests : Resting (notes + 1) levels old) (had : HasTaken old (slots ++ slot ∷ []) pace)
    (none : slot.appended ≡ None) (note : HasNoted keys.leaf_of levels (Tagged message) old one) where
  -- it was noted behind the slot that ended last
  join-cut : (stop : Stop) (how : cut.Stop)
      → JoinStopped keys.leaf_of levels (tagged_entry keys message) stop one new
      → Fits levels how (with_appended slot message)
      → part_of levels how (with_appended slot message) ≡ with_appended slot message
      → end_of levels slot.start how ≡ slot.start + olat_of levels
      → IsCut levels slots (with_appended slot message ∷ []) how new
  join-cut stop how j can whole ends =
      let p = public_of old.clock.config in
      let same : levels ≡ old.clock.config.shape.levels = rests.is_for.levels_are in
      let events : new.tap.log.events ≡ old.tap.log.events ++ Tagged message ∷ [] =
      ap (λ (t : TapState). t.log.events) j.tap ∙ ap (λ (l : LogLists). l.events) note.log in
      let heard : pace.heard.ended ≡ slot.start + olat_of p.levels =
      ap (λ (x : Heard). x.ended) (had.pace.heard ∙ heard-last (olat_of p.levels) nothing_heard slots slot)
      ∙ heard-ended _ slot.chosen in
      record {
        before = [];
        slot = with_appended slot message;
        later = [];
        are = refl;
        fits = can;
        said = ap said_of_all events
            ∙ flat_map-append said_of old.tap.log.events (Tagged message ∷ [])
            ∙ ap (λ l. l ++ Tags message ∷ []) (had.said ∙ last-events slots slot)
            ∙ append_assoc (play_events slots) (slot_events slot) (Tags message ∷ [])
            ∙ ap (λ l. play_events slots ++ l) (slot-appended slot message none)
            ∙ sym (last-events slots (with_appended slot message))
            ∙ ap (λ (x : Slot). play_events (slots ++ x ∷ [])) (sym whole)
            ∙ ap (λ l. play_events (l ++ part_of levels how (with_appended slot message) ∷ []))
            (sym (append-nil slots));
        last = ap (λ (c : Clock). c.last) j.clock ∙ ap (λ (c : Clock). c.last) note.clock
            ∙ sym (pace-of levels (notes + 1) old (slots ++ slot ∷ []) pace had rests).last
            ∙ heard ∙ ap (λ l. slot.start + olat_of l) (sym same) ∙ sym ends;
      }

  -- it is refused or finds no room, and nothing else comes of it
  only-two : (b c : Bool) (evidence : Evidence) (held : ℕ) (stop : Stop)
      → ((e : Evidence) → stop ≡ Integrity e → ⊥) → ((n : ℕ) → stop ≡ StashFull n → ⊥)
      → (if b then Some (Integrity evidence) else (if c then Some (StashFull held) else None)) ≡ Some stop → ⊥
  only-two true c evidence held stop one two is =
      one evidence (let same : stop ≡ Integrity evidence = cc in same)
  only-two false true evidence held stop one two is =
      two held (let same : stop ≡ StashFull held = cc in same)
  only-two false false evidence held stop one two is = cc

  -- it is refused with this evidence alone
  only-doubled : (b c : Bool) (evidence other : Evidence) (held : ℕ)
      → (if b then Some (Integrity evidence) else (if c then Some (StashFull held) else None)) ≡ Some (Integrity other)
      → evidence ≡ other
  only-doubled true c evidence other held is =
      let same : Integrity evidence ≡ Integrity other = cc in cc
  only-doubled false true evidence other held is =
      absurd (let bad : StashFull held ≡ Integrity other = cc in cc)
  only-doubled false false evidence other held is = absurd (cc)

  join-left : (stop : Stop) → JoinStopped keys.leaf_of levels (tagged_entry keys message) stop one new
      → AppendLeaves levels slots slot message stop new
  join-left (Integrity evidence) j =
      join-cut (Integrity evidence) (AppendRefused evidence) j
      (ap Some (only-doubled (is_some (held one.tree.hand message.address))
      (nat_lt one.tree.stash (length one.tree.hand + 1)) (Doubled message.address) evidence
      (length one.tree.hand + 1) j.wrong))
      refl refl
  join-left (StashFull held) j = join-cut (StashFull held) (AppendOverfull held) j refl refl refl
  join-left (TimeUp at) j =
      only-two (is_some (held one.tree.hand message.address)) (nat_lt one.tree.stash (length one.tree.hand + 1))
      (Doubled message.address) (length one.tree.hand + 1) (TimeUp at) (λ e is. cc) (λ n is. cc) j.wrong
  join-left Device j =
      only-two (is_some (held one.tree.hand message.address)) (nat_lt one.tree.stash (length one.tree.hand + 1))
      (Doubled message.address) (length one.tree.hand + 1) Device (λ e is. cc) (λ n is. cc) j.wrong
  join-left NoMemory j =
      only-two (is_some (held one.tree.hand message.address)) (nat_lt one.tree.stash (length one.tree.hand + 1))
      (Doubled message.address) (length one.tree.hand + 1) NoMemory (λ e is. cc) (λ n is. cc) j.wrong

pub append-left : (keys : Keys) (levels notes : ℕ) (message : Message) (stop : Stop) (old new : PortState)
    (slots : List Slot) (slot : Slot) (pace : Pace) → Resting (notes + 1) levels old
    → HasTaken old (slots ++ slot ∷ []) pace → slot.appended ≡ None
    → SlotStep keys levels old (Append message) (Err stop) new → AppendLeaves levels slots slot message stop new
append-left keys levels notes message stop old new slots slot pace rests had none
    (inl (x, one, note, (y, two, join, (is, same)))) = absurd (cc)
append-left keys levels notes message stop old new slots slot pace rests had none (inr (inl one)) = absurd (one.0)
append-left keys levels notes message stop old new slots slot pace rests had none
    (inr (inr (x, one, note, inl (inl before, left)))) =
    absurd (let bad : ◌≡◌ {A = Option Stop} None (Some stop) =
    sym rests.going ∙ ap (λ (c : Clock). c.stop) (sym note.1.clock) ∙ before.0 in cc)
append-left keys levels notes message stop old new slots slot pace rests had none
    (inr (inr (x, one, note, inl (inr j, left)))) =
    join-left keys levels notes message old one new slots slot pace rests had none note.1 stop j
append-left keys levels notes message stop old new slots slot pace rests had none
    (inr (inr (x, one, note, inr (y, two, join, never)))) = absurd never
