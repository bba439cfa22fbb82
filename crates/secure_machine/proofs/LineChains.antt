-- Chains of requests for lines with a clock.
use Rattle.std.proofs.Common.{◌≡◌, ◌≤◌, ◌∙◌, ℕ, List, Result, Ok, Err, refl, sym, ap, subst}
use Rattle.std.specs.List.{count_by}
use Rattle.request_plan.specs.Plan.{Plan, Ends, Stops}
use Rattle.request_plan.proofs.Keeps.{Ends-narrows, Stops-narrows, Stops-last}
use Rattle.request_plan.specs.Laws.{Within}
use Rattle.asc_base.specs.declared.block.Point.{Point}
use Rattle.asc_base.specs.declared.settings.Config.{Config}
use Rattle.asc_base.specs.declared.stop.Stop.{Stop}
use Rattle.asc_outside.specs.Memory.{MemoryState}
use Rattle.bus_watch.specs.Log.{TapState}
use Rattle.data_cache.specs.Lines.{LineRequest, Fetch, Store}
use Rattle.oram_frontend.specs.Oram.{OramState, Fetch as OramFetch, Store as OramStore}
use Rattle.oram_frontend.specs.Slots.{FitKeys}
use Rattle.oram_frontend.specs.declared.oram.Oram.{Oram}
use Rattle.log_replay.specs.Given.{CallsReplay}
use Rattle.log_replay.specs.Replayed.{IsReplayed, StopsReplayed}
use Rattle.oram_contents.specs.Entries.{Keys}
use Rattle.rate_enforcer.specs.Counts.{is_answered}
use Rattle.rate_enforcer.specs.PortStep.{PortState}
use Rattle.rate_enforcer.specs.Served.{keys_of}
use Rattle.secure_machine.specs.Finish.{HaltsBy, IsOwnEnding, StopsLater}
use Rattle.secure_machine.specs.Goes.{Goes, Breaks}
use Rattle.secure_machine.specs.Judged.{CauseReplayed}
use Rattle.secure_machine.specs.Runs.{Onwards, BreaksOff, HaltsOver, Ready, port}
use Rattle.secure_machine.specs.Same.{IsSameLines, timed_of, keys_in, oram_over}
use Rattle.play_run.specs.Timed.{TimedState, TimedStep, CanAsk, answers_serve}
use Rattle.secure_machine.specs.declared.lines.TimedLines.{TimedLines}
use Rattle.secure_machine.specs.declared.machine.Cause.{Cause}
use Rattle.secure_machine.specs.declared.machine.Cause.TheVariants.{Ends as EndsBy, Stops as StopsBy}
use Rattle.secure_machine.specs.declared.machine.Halted.{Halted}
use Rattle.secure_machine.specs.declared.report.Ending.{Ending}
use Rattle.secure_machine.proofs.PortGoes.{goes_none, goes_then, breaks_then}
use Rattle.secure_machine.proofs.NotedLines.{timed_noted, timed_stop}
use Rattle.secure_machine.proofs.OramGoes.{oram_goes, oram_breaks}
use Rattle.secure_machine.proofs.Replaying.{timed_replays, timed_stops}

-- one request
timed_goes : (keys : Keys) (levels count : ℕ) (old new : TimedState) (request : LineRequest) (bytes : List ℕ)
    → FitKeys keys old.oram.port → CanAsk levels count old → TimedStep keys levels count old request (Ok bytes) new
    → Goes old.oram.port new.oram.port
timed_goes keys levels count old new (Fetch line) bytes fits ask h =
    oram_goes keys levels old.oram new.oram fits ask.serving (OramFetch old.clock line) _ h.0
timed_goes keys levels count old new (Store line value) bytes fits ask h =
    oram_goes keys levels old.oram new.oram fits ask.serving (OramStore old.clock line (record { 0 = value })) _ h.0

timed_breaks : (keys : Keys) (levels count : ℕ) (old new : TimedState) (request : LineRequest) (stop : Stop)
    → FitKeys keys old.oram.port → CanAsk levels count old → TimedStep keys levels count old request (Err stop) new
    → Breaks stop old.oram.port new.oram.port
timed_breaks keys levels count old new (Fetch line) stop fits ask h =
    oram_breaks keys levels old.oram new.oram fits ask.serving (OramFetch old.clock line) stop h.0
timed_breaks keys levels count old new (Store line value) stop fits ask h =
    oram_breaks keys levels old.oram new.oram fits ask.serving (OramStore old.clock line (record { 0 = value })) stop
    h.0

pub same_lines : {M W L : Type 0} (s : TimedLines M W L) → IsSameLines s s
same_lines s = record {
  memory = refl;
  tap = refl;
  oram = refl;
  count = refl;
  tagger = refl;
  leaves = refl;
  tree = record { shape = refl; stash = refl; key = refl };
}

pub same_then : {M W L : Type 0} {s t u : TimedLines M W L} → IsSameLines s t → IsSameLines t u → IsSameLines s u
same_then a b = record {
  memory = b.memory ∙ a.memory;
  tap = b.tap ∙ a.tap;
  oram = b.oram ∙ a.oram;
  count = b.count ∙ a.count;
  tagger = b.tagger ∙ a.tagger;
  leaves = b.leaves ∙ a.leaves;
  tree = record {
    shape = b.tree.shape ∙ a.tree.shape;
    stash = b.tree.stash ∙ a.tree.stash;
    key = b.tree.key ∙ a.tree.key;
  };
}

-- the keys stay
pub keys_stay : {M W L : Type 0} (leaf_of : L → Point → ℕ) (s t : TimedLines M W L) → IsSameLines s t
    → keys_in leaf_of t ≡ keys_in leaf_of s
keys_stay leaf_of s t same = λ i. record {
  shape = same.tree.shape i;
  pads = same.tree.key i;
  tags = same.tagger i;
  leaf_of = leaf_of (same.leaves i);
}

module _ {M W L : Type 0} (memory_of : M → MemoryState) (tap_of : W → TapState) (leaf_of : L → Point → ℕ)
    (levels_of : L → ℕ) where
  abbrev pub LinesStep : TimedLines M W L → LineRequest → Result (List ℕ) Stop → TimedLines M W L → Type 0
  LinesStep s request answer t = IsSameLines s t
      × TimedStep (keys_in leaf_of s) (levels_of s.oram.now.port.leaves) s.count (timed_of memory_of tap_of s) request
      answer (timed_of memory_of tap_of t)

  -- what is said of keys, levels and stash after some requests is said of those before them
  pub at_first : (F : Keys → ℕ → ℕ → Type 0) (s t : TimedLines M W L) → IsSameLines s t
      → F (keys_in leaf_of t) (levels_of t.oram.now.port.leaves) t.oram.now.port.tree.stash
      → F (keys_in leaf_of s) (levels_of s.oram.now.port.leaves) s.oram.now.port.tree.stash
  at_first F s t same f =
      subst (λ k. F (keys_in leaf_of s) (levels_of s.oram.now.port.leaves) k) same.tree.stash
      (subst (λ n. F (keys_in leaf_of s) n t.oram.now.port.tree.stash) (ap levels_of same.leaves)
      (subst (λ (z : Keys). F z (levels_of t.oram.now.port.leaves) t.oram.now.port.tree.stash)
      (keys_stay leaf_of s t same) f))

  abbrev oram : TimedLines M W L → OramState
  oram s = (timed_of memory_of tap_of s).oram

  ready_next : (s t : TimedLines M W L) (request : LineRequest) (bytes : List ℕ) → LinesStep s request (Ok bytes) t
      → Ready memory_of tap_of levels_of t
  ready_next s t request bytes h =
      subst (λ count. CanAsk (levels_of t.oram.now.port.leaves) count (timed_of memory_of tap_of t)) (sym h.0.count)
      (subst (λ levels. CanAsk levels s.count (timed_of memory_of tap_of t)) (sym (ap levels_of h.0.leaves))
      (answers_serve (keys_in leaf_of s) (levels_of s.oram.now.port.leaves) s.count (timed_of memory_of tap_of s)
      (timed_of memory_of tap_of t) request bytes h.1))

  onwards_keep : (first s t : TimedLines M W L) (request : LineRequest) (bytes : List ℕ)
      → LinesStep s request (Ok bytes) t → Onwards memory_of tap_of leaf_of levels_of first s
      → Onwards memory_of tap_of leaf_of levels_of first t
  onwards_keep first s t request bytes h on = record {
    same = same_then on.same h.0;
    goes = goes_then on.goes (timed_goes (keys_in leaf_of s) (levels_of s.oram.now.port.leaves) s.count
        (timed_of memory_of tap_of s) (timed_of memory_of tap_of t) request bytes
        (record { shape = refl; pads = refl }) on.ready h.1);
    fetches = λ known. timed_noted (keys_in leaf_of s) (levels_of s.oram.now.port.leaves) s.count
        (timed_of memory_of tap_of s) (timed_of memory_of tap_of t) request bytes h.1 (on.fetches known);
    replays = λ calls known. at_first (λ z n _. CallsReplay z n → IsReplayed z (oram s) → IsReplayed z (oram t)) first s
        on.same (λ calls now. timed_replays (keys_in leaf_of s) (levels_of s.oram.now.port.leaves) s.count
        (timed_of memory_of tap_of s) (timed_of memory_of tap_of t) request bytes calls on.ready h.1 now) calls
        (on.replays calls known);
    ready = ready_next s t request bytes h;
  }

  pub onwards_none : (s : TimedLines M W L) → Ready memory_of tap_of levels_of s
      → Onwards memory_of tap_of leaf_of levels_of s s
  onwards_none s ready = record {
    same = same_lines s;
    goes = goes_none (port memory_of tap_of levels_of s);
    fetches = λ known. known;
    replays = λ calls known. known;
    ready = ready;
  }

  pub chain_goes : {B A : Type 0} (plan : Plan LineRequest (List ℕ) B A) (s t : TimedLines M W L) (outcome : A)
      → Ready memory_of tap_of levels_of s → Ends LinesStep plan s t outcome
      → Onwards memory_of tap_of leaf_of levels_of s t
  chain_goes plan s t outcome ready ends =
      (Ends-narrows LinesStep (Onwards memory_of tap_of leaf_of levels_of s)
      (λ u v q x one on. onwards_keep s u v q x one on) plan s t outcome
      (onwards_none s ready) ends).1

  halted_last : (first s t : TimedLines M W L) (request : LineRequest) (stop : Stop)
      → Within (Onwards memory_of tap_of leaf_of levels_of first) LinesStep s request (Err stop) t
      → BreaksOff memory_of tap_of leaf_of levels_of stop first t
  halted_last first s t request stop (on, h) = record {
    same = same_then on.same h.0;
    breaks = breaks_then on.goes (timed_breaks (keys_in leaf_of s) (levels_of s.oram.now.port.leaves) s.count
        (timed_of memory_of tap_of s) (timed_of memory_of tap_of t) request stop
        (record { shape = refl; pads = refl }) on.ready h.1);
    fetches = λ known. timed_stop (keys_in leaf_of s) (levels_of s.oram.now.port.leaves) s.count
        (timed_of memory_of tap_of s) (timed_of memory_of tap_of t) request stop h.1 (on.fetches known);
    replays = λ calls known. at_first (λ z n k. CallsReplay z n → IsReplayed z (oram s)
        → StopsReplayed z k stop (oram t).port) first s on.same
        (λ calls now. timed_stops (keys_in leaf_of s) (levels_of s.oram.now.port.leaves) s.count
        (timed_of memory_of tap_of s) (timed_of memory_of tap_of t) request stop calls on.ready h.1 now) calls
        (on.replays calls known);
  }

  pub chain_breaks : {B A : Type 0} (plan : Plan LineRequest (List ℕ) B A) (s t : TimedLines M W L) (stop : Stop)
      (left : B) → Ready memory_of tap_of levels_of s → Stops LinesStep plan s t stop left
      → BreaksOff memory_of tap_of leaf_of levels_of stop s t
  chain_breaks plan s t stop left ready stops =
      Stops-last (Within (Onwards memory_of tap_of leaf_of levels_of s) LinesStep)
      (λ e u. BreaksOff memory_of tap_of leaf_of levels_of e s u)
      (λ u v q e one. halted_last s u v q e one) plan s t stop left
      (Stops-narrows LinesStep (Onwards memory_of tap_of leaf_of levels_of s)
      (λ u v q x one on. onwards_keep s u v q x one on) plan s t stop left
      (onwards_none s ready) stops)

  -- more cycles on the clock
  pub spent_on : (s t u : TimedLines M W L) → Onwards memory_of tap_of leaf_of levels_of s t → IsSameLines t u
      → t.memory.now ≡ u.memory.now → t.tap.now ≡ u.tap.now → t.oram.now ≡ u.oram.now → t.fetches ≡ u.fetches
      → (Ready memory_of tap_of levels_of t → Ready memory_of tap_of levels_of u)
      → Onwards memory_of tap_of leaf_of levels_of s u
  spent_on s t u on same memory tap oram fetches ready = record {
    same = same_then on.same same;
    goes = subst (λ (p : PortState). Goes (port memory_of tap_of levels_of s) p)
        (λ i. (oram_over memory_of tap_of (oram i) (memory i) (tap i)).port) on.goes;
    fetches = λ known.
        sym fetches ∙ on.fetches known ∙ ap (λ w. count_by is_answered (tap_of w).log.events) tap;
    replays = λ calls known. subst (λ (o : OramState). IsReplayed (keys_in leaf_of s) o)
        (λ i. oram_over memory_of tap_of (oram i) (memory i) (tap i)) (on.replays calls known);
    ready = ready on.ready;
  }

  -- some requests, and others
  pub onwards_then : (s t u : TimedLines M W L) → Onwards memory_of tap_of leaf_of levels_of s t
      → Onwards memory_of tap_of leaf_of levels_of t u → Onwards memory_of tap_of leaf_of levels_of s u
  onwards_then s t u one two = record {
    same = same_then one.same two.same;
    goes = goes_then one.goes two.goes;
    fetches = λ known. two.fetches (one.fetches known);
    replays = λ calls known. at_first (λ z n _. CallsReplay z n → IsReplayed z (oram t) → IsReplayed z (oram u)) s t
        one.same two.replays calls (one.replays calls known);
    ready = two.ready;
  }

  -- where some requests came before the end
  pub breaks_later : (budget instructions cycles : ℕ) (stop : Stop) (s t u : TimedLines M W L)
      → Onwards memory_of tap_of leaf_of levels_of s t → BreaksOff memory_of tap_of leaf_of levels_of stop t u
      → StopsLater instructions cycles stop → instructions ≤ budget
      → HaltsOver memory_of tap_of leaf_of levels_of budget
      (record { instructions = instructions; cycles = cycles; cause = StopsBy stop }) s u
  breaks_later budget instructions cycles stop s t u on off late within = record {
    same = same_then on.same off.same;
    halts = (breaks_then on.goes off.breaks, within);
    late = late;
    fetches = λ known. off.fetches (on.fetches known);
    replays = λ calls known. at_first (λ z n k. CallsReplay z n → IsReplayed z (oram t)
        → StopsReplayed z k stop (oram u).port) s t on.same off.replays calls (on.replays calls known);
  }

  halts_by : (budget levels instructions cycles : ℕ) (cause : Cause) (old mid : PortState) (new : OramState)
      → Goes old mid → HaltsBy budget levels instructions cycles cause mid new
      → HaltsBy budget levels instructions cycles cause old new
  halts_by budget levels instructions cycles (EndsBy ending until) old mid new on h = (
    goes_then on h.0,
    h.1,
    h.2,
    subst (λ (config : Config). IsOwnEnding budget config.time instructions cycles until ending) on.config h.3,
  )
  halts_by budget levels instructions cycles (StopsBy stop) old mid new on h = (breaks_then on h.0, h.1)

  pub halts_later : (budget : ℕ) (halted : Halted) (s t u : TimedLines M W L)
      → Onwards memory_of tap_of leaf_of levels_of s t
      → HaltsOver memory_of tap_of leaf_of levels_of budget halted t u
      → HaltsOver memory_of tap_of leaf_of levels_of budget halted s u
  halts_later budget halted s t u on h = record {
    same = same_then on.same h.same;
    halts = halts_by budget _ halted.instructions halted.cycles halted.cause _ _ _ on.goes h.halts;
    late = h.late;
    fetches = λ known. h.fetches (on.fetches known);
    replays = λ calls known. at_first (λ z n k. CallsReplay z n → IsReplayed z (oram t)
        → CauseReplayed z k halted.cause (oram u)) s t on.same h.replays calls (on.replays calls known);
  }

  -- an end of the run's own
  pub ends_after : (budget instructions cycles until : ℕ) (ending : Ending) (s t : TimedLines M W L)
      → Onwards memory_of tap_of leaf_of levels_of s t → until ≤ t.oram.now.port.clock.config.time
      → IsOwnEnding budget s.oram.now.port.clock.config.time instructions cycles until ending
      → HaltsOver memory_of tap_of leaf_of levels_of budget
      (record { instructions = instructions; cycles = cycles; cause = EndsBy ending until }) s t
  ends_after budget instructions cycles until ending s t on early own = record {
    same = on.same;
    halts = (on.goes, on.ready.serving, early, own);
    late = tt;
    fetches = on.fetches;
    replays = on.replays;
  }

  -- what is known after a run's end holds from the encrypted memory on with which it began
  abbrev Replaying : (Keys → ℕ → Type 0) → Oram L → M → W → Type 0
  Replaying R o m w =
      let keys = keys_of o.port.tree o.tagger (leaf_of o.port.leaves) in
      CallsReplay keys (levels_of o.port.leaves) → IsReplayed keys (oram_over memory_of tap_of o m w)
      → R keys o.port.tree.stash

  pub halts_replayed : (R : Keys → ℕ → Type 0) (budget : ℕ) (halted : Halted) (s t : TimedLines M W L) (o : Oram L)
      (m : M) (w : W) → s.memory.now ≡ m → s.tap.now ≡ w → s.oram.now ≡ o
      → HaltsOver memory_of tap_of leaf_of levels_of budget halted s t
      → (CallsReplay (keys_in leaf_of t) (levels_of t.oram.now.port.leaves)
      → CauseReplayed (keys_in leaf_of t) t.oram.now.port.tree.stash halted.cause (oram t)
      → R (keys_in leaf_of t) t.oram.now.port.tree.stash) → Replaying R o m w
  halts_replayed R budget halted s t o m w memory tap is h ended =
      subst (λ (x : Oram L). Replaying R x m w) is (subst (λ (x : M). Replaying R s.oram.now x w) memory
      (subst (λ (x : W). Replaying R s.oram.now s.memory.now x) tap
      (λ calls known. at_first (λ z n k. CallsReplay z n → CauseReplayed z k halted.cause (oram t) → R z k) s t h.same
      ended calls (h.replays calls known))))
