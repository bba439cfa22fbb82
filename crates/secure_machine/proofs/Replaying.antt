-- What a log says along a run: one request, and how the run ended.
use Rattle.std.proofs.Common.{◌≡◌, ◌∙◌, inl, ℕ, List, [], None, Some, Result, Ok, Err, IfOk, OnErr, refl, sym, ap}
use Rattle.std.proofs.Common.{subst, arith}
use Rattle.std.specs.Prelude.{MatchResult}
use Rattle.asc_base.specs.Has.{Has}
use Rattle.asc_base.specs.declared.shape.Shape.{Shape}
use Rattle.asc_base.specs.declared.stop.Stop.{Stop}
use Rattle.asc_base.specs.declared.stop.Stop.TheVariants as why
use Rattle.bus_watch.specs.Log.{LogLists}
use Rattle.bus_watch.specs.declared.log.Altered.{Altered}
use Rattle.bus_watch.specs.declared.log.Event.{Event}
use Rattle.data_cache.specs.Lines.{LineRequest, Fetch, Store}
use Rattle.log_replay.specs.Given.{CallsReplay}
use Rattle.log_replay.specs.Judged.{verdict_on, ShowsStop, EndsLog, SaysMirror}
use Rattle.log_replay.specs.LastSlot.{StopsInOrder}
use Rattle.log_replay.specs.Order.{LogOrder}
use Rattle.log_replay.specs.Replayed.{IsReplayed, StopsReplayed}
use Rattle.log_replay.proofs.StopAlways.{origins_of, origins_left}
use Rattle.oram_contents.specs.Entries.{Keys}
use Rattle.oram_contents.specs.Fold.{LogEnd, Whole}
use Rattle.oram_frontend.specs.Oram.{OramState, Fetch as OramFetch, Store as OramStore}
use Rattle.play_run.specs.Timed.{TimedState, TimedStep, CanAsk}
use Rattle.rate_enforcer.specs.PortStep.{PortState, Resting, contents}
use Rattle.secure_machine.specs.Finish.{IsOwnEnding}
use Rattle.secure_machine.specs.FlatEnds.{ending_by}
use Rattle.secure_machine.specs.Judged.{ShowsEnding, AreDoneAt, EndsInOrder, EndsReplayed, WantsReplayed, log_end}
use Rattle.secure_machine.specs.declared.report.Ending.{Ending}
use Rattle.secure_machine.specs.declared.report.Ending.TheVariants.{Exit, Trap, Budget, TimeUp, StashFull, Integrity}
use Rattle.secure_machine.specs.declared.report.Ending.TheVariants.{Device}

-- there are as many lines as under the keys
lines_there : (keys : Keys) (levels count : ℕ) (s : TimedState) → CanAsk levels count s → IsReplayed keys s.oram
    → keys.shape.lines ≡ count
lines_there keys levels count s ask now =
    ap (λ (shape : Shape). shape.lines) (sym now.port.fits.shape ∙ ask.serving.serves.rests.is_for.shape) ∙ ask.lines

-- one request
pub timed_replays : (keys : Keys) (levels count : ℕ) (old new : TimedState) (request : LineRequest) (bytes : List ℕ)
    → CallsReplay keys levels → CanAsk levels count old → TimedStep keys levels count old request (Ok bytes) new
    → IsReplayed keys old.oram → IsReplayed keys new.oram
timed_replays keys levels count old new (Fetch line) bytes calls ask (step, fetches, is, can, below) now =
    let lines = lines_there keys levels count old ask now in
    calls.request old.oram new.oram (OramFetch old.clock line) _ now ask.serving.serves.rests
    (omega (arith, lines, below)) step
timed_replays keys levels count old new (Store line value) bytes calls ask (step, fetches, is, can, below, whole) now =
    let lines = lines_there keys levels count old ask now in
    calls.request old.oram new.oram (OramStore old.clock line (record { 0 = value })) _ now ask.serving.serves.rests
    (omega (arith, lines, below), whole) step

pub timed_stops : (keys : Keys) (levels count : ℕ) (old new : TimedState) (request : LineRequest) (stop : Stop)
    → CallsReplay keys levels → CanAsk levels count old → TimedStep keys levels count old request (Err stop) new
    → IsReplayed keys old.oram → StopsReplayed keys old.oram.port.tree.stash stop new.oram.port
timed_stops keys levels count old new (Fetch line) stop calls ask (step, fetches, clock, below) now =
    let lines = lines_there keys levels count old ask now in
    calls.stop old.oram new.oram (OramFetch old.clock line) stop now ask.serving.serves.rests ask.serving.going
    (omega (arith, lines, below)) step
timed_stops keys levels count old new (Store line value) stop calls ask (step, fetches, clock, below, whole) now =
    let lines = lines_there keys levels count old ask now in
    calls.stop old.oram new.oram (OramStore old.clock line (record { 0 = value })) stop now ask.serving.serves.rests
    ask.serving.going (omega (arith, lines, below), whole) step

-- a run that ends by itself leaves what the log says
pub own_replayed : (keys : Keys) (levels budget time instructions cycles until : ℕ) (ending : Ending) (o : OramState)
    → CallsReplay keys levels → IsReplayed keys o → Resting 0 levels o.port
    → IsOwnEnding budget time instructions cycles until ending
    → EndsReplayed keys o.port.tree.stash ending o.port.tap
own_replayed keys levels budget time instructions cycles until ending o calls now rests own = by ending own
  where
    -- where all slots were done as far as the ending says
    ends : (ending : Ending) → AreDoneAt keys ending o.port.tap.log now.port.order.slots
        → ShowsEnding keys o.port.tree.stash ending o.port.tap.log → log_end ending ≡ Whole
        → EndsReplayed keys o.port.tree.stash ending o.port.tap
    ends ending done shows end = record {
      slots = record { order = now.port.order; done = done };
      shows = shows;
      mirror = subst (λ (x : LogEnd). SaysMirror keys o.port.tap.log x o.port.tap.mirror) (sym end)
          (calls.between o now rests);
      origins = origins_of keys o.port.tap.log (contents o.port) now.port.always;
    }

    by : (ending : Ending) → IsOwnEnding budget time instructions cycles until ending
        → EndsReplayed keys o.port.tree.stash ending o.port.tap
    by (Exit status) own = ends (Exit status) now.port.done now.port.right refl
    by (Trap kind pc) own = ends (Trap kind pc) now.port.done now.port.right refl
    by Budget own = ends Budget now.port.done now.port.right refl
    by (TimeUp at) own = ends (TimeUp at) now.port.done now.port.right refl
    by (StashFull held) own = absurd own
    by (Integrity evidence) own = absurd own
    by Device own = absurd own

-- A stop that is an ending leaves a log that shows the ending, and want of memory one that shows the want.
stop_replayed : (keys : Keys) (stash : ℕ) (stop : Stop) (ending : Ending) (s : PortState)
    → ending_by stop ≡ Some ending → StopsReplayed keys stash stop s → EndsReplayed keys stash ending s.tap
stop_replayed keys stash stop ending s named h = by stop h.slots h.shows h.ends named
  where
    shown : (e : Ending) → EndsInOrder keys e s.tap.log → ShowsEnding keys stash e s.tap.log → h.end ≡ log_end e
        → e ≡ ending → EndsReplayed keys stash ending s.tap
    shown e slots shows end same = subst (λ (x : Ending). EndsReplayed keys stash x s.tap) same (record {
      slots = slots;
      shows = shows;
      mirror = subst (λ (x : LogEnd). SaysMirror keys s.tap.log x s.tap.mirror) end h.mirror;
      origins = origins_left keys s.tap.log stop (contents s) h.always;
    })

    by : (stop : Stop) → StopsInOrder keys stop s.tap.log → ShowsStop keys stash stop s.tap.log → EndsLog stop h.end
        → ending_by stop ≡ Some ending → EndsReplayed keys stash ending s.tap
    by (why.Integrity evidence) slots shows end is =
        shown (Integrity evidence) (record { order = slots.order; done = slots.done }) shows end cc
    by (why.StashFull held) slots shows end is =
        shown (StashFull held) (record { order = slots.order; done = slots.done }) shows end cc
    by (why.TimeUp at) slots shows end is =
        shown (TimeUp at) (record { order = slots.order; done = slots.done }) shows end cc
    by why.Device slots shows end is =
        shown Device (record { order = slots.order; done = slots.done }) shows end cc
    by why.NoMemory slots shows end is = absurd cc

pub stopped_replayed : {E : Type 0} (keys : Keys) (stash : ℕ) (stop : Stop) (s : PortState)
    (result : Result (Ending × ℕ) E) → IfOk result (λ (ending, last). ending_by stop ≡ Some ending)
    → OnErr result (stop ≡ why.NoMemory) → StopsReplayed keys stash stop s
    → MatchResult result (λ (ending, last). EndsReplayed keys stash ending s.tap)
    (λ _. WantsReplayed keys stash s.tap)
stopped_replayed keys stash stop s (Ok (ending, last)) named wants h = stop_replayed keys stash stop ending s named h
stopped_replayed keys stash stop s (Err e) named wants h =
    let now = subst (λ (x : Stop). StopsReplayed keys stash x s) wants h in
    record {
      slots = now.slots;
      shows = now.shows;
      mirror = (now.end, now.ends, now.mirror);
      origins = origins_left keys s.tap.log why.NoMemory (contents s) now.always;
    }

-- ---- before the first slot
pub start_order : (keys : Keys) (log : LogLists) → log.events ≡ [] → log.altered ≡ [] → LogOrder keys log
start_order keys log none unaltered = record {
  slots = [];
  events = none;
  order = tt;
  noted = λ reply h. absurd (subst (λ (l : List Altered). Has reply l) unaltered h);
}

-- no slot is noted, and so none that wasn't done
pub start_done : (keys : Keys) (log : LogLists) → log.events ≡ [] → log.altered ≡ []
    → StopsInOrder keys why.NoMemory log
unfolding start_order
start_done keys log none unaltered = record { order = start_order keys log none unaltered; done = inl tt }

pub start_right : (keys : Keys) (stash : ℕ) (log : LogLists) → log.events ≡ [] → verdict_on keys stash log ≡ None
start_right keys stash log none =
    ap (λ (events : List Event). verdict_on keys stash (record log { events = events })) none
