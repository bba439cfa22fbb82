-- What a stop leaves in a port that is about to open a slot, or waits.
use Rattle.std.proofs.Common.{◌≡◌, ◌<◌, ◌≤◌, ◌+◌, ◌-◌, ◌⊎◌, inl, inr, ℕ, length, Option, None, Some, Err, min, refl}
use Rattle.std.proofs.Common.{sym, ◌∙◌, ap, subst, arith}
use Rattle.asc_base.proofs.ShapeFacts.{shape_layered}
use Rattle.asc_base.specs.declared.block.Point.TheVariants.{Real}
use Rattle.asc_base.specs.declared.block.Point.{Point}
use Rattle.asc_base.specs.declared.settings.Config.{Config}
use Rattle.asc_base.specs.declared.shape.Shape.{Shape}
use Rattle.asc_base.specs.declared.stop.Stop.{Stop}
use Rattle.asc_base.specs.declared.stop.Stop.TheVariants.{Integrity, StashFull, TimeUp, Device, NoMemory}
use Rattle.bus_schedule.specs.Shown.{leaves_of}
use Rattle.bus_schedule.specs.Timetable.{public_of}
use Rattle.bus_watch.specs.Log.{LogLists}
use Rattle.oram_contents.specs.Contents.{Contents}
use Rattle.oram_contents.specs.Entries.{Keys, AreKeys}
use Rattle.oram_contents.specs.Fold.{Whole, whole}
use Rattle.oram_contents.specs.Slots.{ArePasses, HasSeeds}
use Rattle.oram_contents.specs.Starts.{first_fold}
use Rattle.oram_frontend.proofs.SlotLaws.{keys_fit}
use Rattle.oram_walk.specs.declared.slots.Access.{Access}
use Rattle.rate_enforcer.specs.Breaks.{HasWholeSlots, PassesStop, AskedStops}
use Rattle.rate_enforcer.specs.PortStep.{PortState, PortStep, Idle, Resting, OpenStopped, contents}
use Rattle.rate_enforcer.specs.Served.{AreFew}
use Rattle.rate_enforcer.specs.State.{Stopped, IsUp}
use Rattle.log_replay.specs.Replayed.{IsReplayedPort, StopsReplayed}
use Rattle.log_replay.proofs.Ports.{log_of}
use Rattle.log_replay.proofs.ReplayedLogs.{IsReplayedLog}
use Rattle.log_replay.proofs.Seeds.{seeds_left}
use Rattle.log_replay.proofs.SlotSteps.{dummies_replayed}
use Rattle.log_replay.proofs.StopLogs.{LogStops, reads_stop, dummy_stops}
use Rattle.log_replay.proofs.StopMoves.{whole_says, ended_whole}

-- what a stop leaves in a port's log it leaves in the port
pub stops_at : (keys : Keys) (stash : ℕ) (stop : Stop) (s : PortState)
    → LogStops keys stash stop s.tap.log (contents s) → StopsReplayed keys stash stop s
stops_at keys stash stop s x = record {
  slots = x.slots;
  shows = x.shows;
  end = x.end;
  ends = x.ends;
  mirror = x.says;
  always = x.always;
}

module _ (keys : Keys) (lawful : AreKeys keys) (levels notes : ℕ) (old new : PortState)
    (known : IsReplayedPort keys old) (rests : Resting notes levels old) where
  abbrev stash : ℕ
  stash = old.tree.stash

  abbrev config : Config
  config = old.clock.config

  -- the log behind so many dummies
  pub behind_dummies : (k : ℕ) (mid : LogLists) (between : Contents)
      (passed : ArePasses keys k old.tap.log mid (contents old) between old.clock.dummies)
      → AreFew keys old.tree.stash k old.tap.log mid (contents old) between old.clock.dummies passed
      → IsReplayedLog keys old.tree.stash mid between (old.clock.dummies + k)
  behind_dummies k mid between passed few =
      dummies_replayed keys lawful stash k old.tap.log mid (contents old) between old.clock.dummies passed few
      (log_of keys old known)

  -- a log with no more slots than a stopped port's leaves seeds for a path
  seeds_for : (stop : Stop) (mid : LogLists) → Stopped config new.clock stop new.tap.log
      → length (leaves_of mid.events) ≤ length (leaves_of new.tap.log.events)
      → HasSeeds (whole keys (first_fold keys) mid)
  seeds_for stop mid stopped fewer =
      let deep : config.shape.levels ≡ keys.shape.levels = ap (λ (s : Shape). s.levels)
      (sym rests.is_for.shape ∙ known.fits.shape) in
      let flat = (shape_layered keys.shape lawful.shape).levels_to in
      let time = rests.stands.step.follows.is_of.is_config.time.1 in
      seeds_left keys (public_of config) new.clock.last mid new.tap.log deep
      (omega (arith, deep, flat, time, stopped.in_time)) fewer stopped.pace.scheduled

  -- a dummy stops
  passes_left : (stop : Stop) (start : ℕ) → Stopped config new.clock stop new.tap.log
      → PassesStop keys old.tree.stash stop old.tap.log new.tap.log (contents old) (contents new) start
      old.clock.dummies → StopsReplayed keys old.tree.stash stop new
  passes_left stop start stopped x =
      let base = behind_dummies x.done x.mid x.between x.passed x.few in
      stops_at keys stash stop new
      (dummy_stops keys lawful stash stop x.mid new.tap.log x.between (contents new) start
      (old.clock.dummies + x.done) base
      (λ fewer. subst HasSeeds base.contents_are (seeds_for stop x.mid stopped fewer)) x.stops)

  -- A stopped wait: one of its dummies stops.
  pub wait_stops : (time : ℕ) (stop : Stop) → PortStep keys.leaf_of levels old (Idle time) (Err stop) new
      → StopsReplayed keys old.tree.stash stop new
  wait_stops time stop (inl before) =
      absurd (let bad : ◌≡◌ {A = Option Stop} None (Some stop) = sym rests.going ∙ before.0 in cc)
  wait_stops time stop (inr h) =
      passes_left stop new.clock.next h.stopped
      (subst (λ (k : Keys). PassesStop k old.tree.stash stop old.tap.log new.tap.log (contents old) (contents new)
      new.clock.next old.clock.dummies) (keys_fit keys old known.fits) (h.breaks keys.tags))

  module _ (access : Access) where
    abbrev point : Point
    point = Real access.address access.counter

    -- the slot that was asked for stops in its reads
    asked_left : (stop : Stop) (start : ℕ) → AskedStops keys old.tree.stash stop old.tap.log new.tap.log (contents old)
        (contents new) start old.clock.dummies access.asked point → StopsReplayed keys old.tree.stash stop new
    asked_left stop start x =
        stops_at keys stash stop new
        (reads_stop keys stash x.mid x.between (old.clock.dummies + x.done)
        (behind_dummies x.done x.mid x.between x.passed x.few) start (Some access.asked) point (access.asked, refl)
        new.tap.log stop (contents new) x.stops)

    -- no slot is left
    up_left : (at : ℕ) → IsUp config at access.asked new.clock new.tap.log
        → (passed : ArePasses keys (new.clock.dummies - old.clock.dummies) old.tap.log new.tap.log (contents old)
        (contents new) old.clock.dummies)
        → AreFew keys old.tree.stash (new.clock.dummies - old.clock.dummies) old.tap.log new.tap.log (contents old)
        (contents new) old.clock.dummies passed
        → Stopped config new.clock (TimeUp at) new.tap.log → StopsReplayed keys old.tree.stash (TimeUp at) new
    up_left at up passed few stopped =
        let k : ℕ = new.clock.dummies - old.clock.dummies in
        let x = behind_dummies k new.tap.log (contents new) passed few in
        let ends = stopped.ends in
        let keeps = up.pace new.clock.last (omega arith) (omega (arith, ends.0, ends.1)) in
        let slots : HasWholeSlots config.shape.levels new.tap.log =
        ended_whole (public_of config) new.clock.last new.tap.log keeps.scheduled (omega (arith, up.ended)) in
        record {
          slots = record { order = x.order; done = x.done };
          shows = x.right;
          end = Whole;
          ends = refl;
          mirror = whole_says keys stash new.tap.log (contents new) (old.clock.dummies + k) x
              (subst (λ (s : Shape). HasWholeSlots s.levels new.tap.log) (sym rests.is_for.shape ∙ known.fits.shape)
              slots);
          always = x.always;
        }

    -- it stops but for want of time
    abbrev Broke : Keys → Stop → Type 0
    Broke k stop =
        (PassesStop k old.tree.stash stop old.tap.log new.tap.log (contents old) (contents new) new.clock.next
        old.clock.dummies × (new.clock.next < min access.asked config.time))
        ⊎ (AskedStops k old.tree.stash stop old.tap.log new.tap.log (contents old) (contents new) new.clock.next
        old.clock.dummies access.asked point × (new.clock.next < config.time))

    broke_left : (stop : Stop) → Stopped config new.clock stop new.tap.log → Broke keys stop
        → StopsReplayed keys old.tree.stash stop new
    broke_left stop stopped (inl (x, early)) = passes_left stop new.clock.next stopped x
    broke_left stop stopped (inr (x, early)) = asked_left stop new.clock.next x

    -- the opening of a slot is stopped
    pub open_stops : (stop : Stop) → OpenStopped keys.leaf_of levels access.asked point stop old new
        → StopsReplayed keys old.tree.stash stop new
    open_stops (Integrity evidence) h =
        broke_left (Integrity evidence) h.stopped
        (subst (λ (k : Keys). Broke k (Integrity evidence)) (keys_fit keys old known.fits) (h.breaks keys.tags))
    open_stops (StashFull held) h =
        broke_left (StashFull held) h.stopped
        (subst (λ (k : Keys). Broke k (StashFull held)) (keys_fit keys old known.fits) (h.breaks keys.tags))
    open_stops (TimeUp at) h =
        let (up, passed, more, few) = h.breaks keys.tags in
        let fitting = subst (λ (x : Keys). (p : ArePasses x (new.clock.dummies - old.clock.dummies) old.tap.log
        new.tap.log (contents old) (contents new) old.clock.dummies) × AreFew x old.tree.stash
        (new.clock.dummies - old.clock.dummies) old.tap.log new.tap.log (contents old) (contents new)
        old.clock.dummies p) (keys_fit keys old known.fits) (passed, few) in
        up_left at up fitting.0 fitting.1 h.stopped
    open_stops Device h =
        broke_left Device h.stopped
        (subst (λ (k : Keys). Broke k Device) (keys_fit keys old known.fits) (h.breaks keys.tags))
    open_stops NoMemory h =
        broke_left NoMemory h.stopped
        (subst (λ (k : Keys). Broke k NoMemory) (keys_fit keys old known.fits) (h.breaks keys.tags))
