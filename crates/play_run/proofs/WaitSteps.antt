-- What calls of an encrypted memory leave of what was waited for slots: it never falls, and a wait adds nothing to it.
use Rattle.std.proofs.Common.{◌≡◌, ◌≤◌, ◌⊎◌, ℕ, zero, suc, ◌+◌, ◌-◌, List, [], ◌∷◌, ◌++◌, Option, None, Result, Ok, Err}
use Rattle.std.proofs.Common.{inl, inr, refl, sym, ap, ◌∙◌, subst, arith}
use Rattle.std.specs.List.{sum_by}
use Rattle.asc_base.specs.TreeShape.{olat_of}
use Rattle.asc_base.specs.declared.block.Point.{Point}
use Rattle.asc_base.specs.declared.block.Point.TheVariants.{Dummy}
use Rattle.asc_base.specs.declared.stop.Stop.{Stop}
use Rattle.asc_base.specs.declared.stop.Stop.TheVariants.{Integrity, StashFull, TimeUp, Device, NoMemory}
use Rattle.asc_outside.specs.Memory.{MemoryState}
use Rattle.bus_watch.specs.Log.{LogLists, TapState}
use Rattle.bus_watch.specs.Made.{Made}
use Rattle.bus_watch.specs.RunEnd.{RunEnd}
use Rattle.bus_watch.specs.declared.log.Event.{Event}
use Rattle.bus_watch.specs.declared.log.Event.TheVariants.{Chosen}
use Rattle.bus_watch.specs.declared.log.Move.{Move}
use Rattle.oram_contents.specs.Contents.{Contents}
use Rattle.oram_contents.specs.Entries.{Keys}
use Rattle.oram_contents.specs.Slots.{ArePasses, IsDummy, IsEnd, drawn_events}
use Rattle.oram_frontend.specs.Oram.{OramState, OramRequest, OramStep, Told, Fetch, Store, Wait}
use Rattle.oram_lines.proofs.GrowLaws.{walk_halts}
use Rattle.oram_walk.specs.Plans.{fetch_plan, store_plan}
use Rattle.rate_enforcer.specs.Breaks.{Begins, ReadStops, WriteStops, DummyStops, PassesStop}
use Rattle.rate_enforcer.specs.PortStep.{PortState, PortStep, PortRequest, Said, Open, Take, Note, Put, Close, Abort}
use Rattle.rate_enforcer.specs.PortStep.{Join, Idle, contents}
use Rattle.rate_enforcer.specs.Served.{keys_of}
use Rattle.play_run.specs.Spent.{wait_of, waits}
use Rattle.play_run.proofs.Waits.{waits-events, waits-grow}

module _ (levels : ℕ) where
  -- ---- it never falls
  module _ (least : ℕ) where
    abbrev Waited : PortState → Type 0
    Waited s = least ≤ waits levels s.tap.log

    made-waits : {end : RunEnd} {moves : List Move} {events : List Event} {m m' : MemoryState} {t t' : TapState}
        → Made end moves events m m' t t' → least ≤ waits levels t.log → least ≤ waits levels t'.log
    made-waits {end} {moves} {events} {m} {m'} {t} {t'} made h =
        let more = waits-grow levels t.log t'.log events made.events_are in omega (arith, more, h)

    same-tap : (t t' : TapState) → t' ≡ t → least ≤ waits levels t.log → least ≤ waits levels t'.log
    same-tap t t' is h = subst (λ (x : TapState). least ≤ waits levels x.log) (sym is) h

    same-port : (s t : PortState) → t ≡ s → Waited s → Waited t
    same-port s t is h = subst Waited (sym is) h

    -- a call of the port
    port-waits : (leaf_of : Point → ℕ) (width : ℕ) (s t : PortState) (q : PortRequest) (x : Said)
        → PortStep leaf_of width s q (Ok x) t → Waited s → Waited t
    port-waits leaf_of width s t (Open asked point) x h w = made-waits h.1.used.made w
    port-waits leaf_of width s t (Take address) x h w = same-tap s.tap t.tap h.1.others.tap w
    port-waits leaf_of width s t (Note event) x h w = made-waits h.1.made w
    port-waits leaf_of width s t (Put entry) x h w = same-tap s.tap t.tap h.1.others.tap w
    port-waits leaf_of width s t Close x h w = made-waits h.1.used.made w
    port-waits leaf_of width s t (Abort stop) x h w = same-tap s.tap t.tap h.1.tap w
    port-waits leaf_of width s t (Join entry) x h w = same-tap s.tap t.tap h.1.others.tap w
    port-waits leaf_of width s t (Idle time) x h w = made-waits h.1.used.made w

    -- one that is stopped
    halt-waits : (leaf_of : Point → ℕ) (width : ℕ) (s t : PortState) (q : PortRequest) (stop : Stop)
        → PortStep leaf_of width s q (Err stop) t → Waited s → Waited t
    halt-waits leaf_of width s t (Open asked point) stop (inl h) w = same-port s t h.1 w
    halt-waits leaf_of width s t (Open asked point) stop (inr h) w = made-waits h.used.made w
    halt-waits leaf_of width s t (Take address) stop h w = absurd h
    halt-waits leaf_of width s t (Note event) stop h w = absurd h
    halt-waits leaf_of width s t (Put entry) stop h w = absurd h
    halt-waits leaf_of width s t Close stop h w = made-waits h.used.made w
    halt-waits leaf_of width s t (Abort given) stop h w = absurd h
    halt-waits leaf_of width s t (Join entry) stop (inl h) w = same-port s t h.1 w
    halt-waits leaf_of width s t (Join entry) stop (inr h) w = same-tap s.tap t.tap h.tap w
    halt-waits leaf_of width s t (Idle time) stop (inl h) w = same-port s t h.1 w
    halt-waits leaf_of width s t (Idle time) stop (inr h) w = made-waits h.used.made w

  -- a request that is stopped
  pub stop-waits : (keys : Keys) (width : ℕ) (old new : OramState) (request : OramRequest) (stop : Stop)
      → OramStep keys width old request (Err stop) new
      → waits levels old.port.tap.log ≤ waits levels new.port.tap.log
  stop-waits keys width old new request stop step = by_request request step
    where
      least : ℕ
      least = waits levels old.port.tap.log

      none : least ≤ waits levels old.port.tap.log
      none = omega arith

      had : new ≡ old → least ≤ waits levels new.port.tap.log
      had is = subst (λ (o : OramState). least ≤ waits levels o.port.tap.log) (sym is) none

      by_request : (request : OramRequest) → OramStep keys width old request (Err stop) new
          → least ≤ waits levels new.port.tap.log
      by_request (Fetch asked line) (inl h) = had h.1
      by_request (Fetch asked line) (inr h) =
          walk_halts keys width (Waited least) (port-waits least keys.leaf_of width)
          (halt-waits least keys.leaf_of width) (fetch_plan old.front asked line) old.port new.port stop new.front h.1
          none
      by_request (Store asked line value) (inl h) = had h.1
      by_request (Store asked line value) (inr h) =
          walk_halts keys width (Waited least) (port-waits least keys.leaf_of width)
          (halt-waits least keys.leaf_of width) (store_plan old.front asked line value) old.port new.port stop
          new.front h.1 none
      by_request (Wait time) (inl h) = had h.1
      by_request (Wait time) (inr h) =
          halt-waits least keys.leaf_of width old.port new.port (Idle time) stop h.2 none

  -- ---- nobody waits for a dummy
  abbrev Same : LogLists → LogLists → Type 0
  Same old new = waits levels new ≡ waits levels old

  -- its start and its point
  drawn-same : (keys : Keys) (old new : LogLists) (start : ℕ) (asked : Option ℕ) (p : Point) → asked ≡ None
      → new.events ≡ old.events ++ drawn_events keys start asked p → Same old new
  drawn-same keys old new start asked p none is =
      let more = waits-events levels old new (drawn_events keys start asked p) is in
      let nothing : sum_by (wait_of (olat_of levels)) (drawn_events keys start asked p) ≡ 0 =
      ap (λ a. sum_by (wait_of (olat_of levels)) (drawn_events keys start a p)) none in
      omega (arith, more, nothing)

  end-same : (old new : LogLists) → IsEnd old new → Same old new
  end-same old new e = by_event e.events
    where
      by_event : (new.events ≡ old.events) ⊎ ((index : ℕ) × (new.events ≡ old.events ++ Chosen index ∷ []))
          → Same old new
      by_event (inl same) = ap (sum_by (wait_of (olat_of levels))) same
      by_event (inr (index, is)) =
          let more = waits-events levels old new (Chosen index ∷ []) is in omega (arith, more)

  dummy-same : (keys : Keys) (old new : LogLists) (now after : Contents) (start n : ℕ)
      → IsDummy keys old new now after start n → Same old new
  dummy-same keys old new now after start n d =
      end-same d.mid new d.ends
      ∙ drawn-same keys old d.mid start d.pass.asked (Dummy n) d.unasked d.pass.events_are

  passes-same : (keys : Keys) (k : ℕ) (old new : LogLists) (now after : Contents) (n : ℕ)
      → ArePasses keys k old new now after n → Same old new
  passes-same keys zero old new now after n are = ap (waits levels) are.0
  passes-same keys (suc k) old new now after n (mid, between, start, before, seeds, d) =
      dummy-same keys mid new between after start (n + k) d ∙ passes-same keys k old mid now between n before

  -- one that is stopped
  begins-same : (keys : Keys) (old new : LogLists) (start n : ℕ) → Begins keys old new start None (Dummy n)
      → Same old new
  begins-same keys old new start n b = drawn-same keys old new start None (Dummy n) refl b.adds.events_are

  read-same : (keys : Keys) (stop : Stop) (old new : LogLists) (now after : Contents) (start n : ℕ)
      → ReadStops keys stop old new now after start None (Dummy n) → Same old new
  read-same keys (Integrity evidence) old new now after start n h = begins-same keys old new start n h.begins
  read-same keys (StashFull held) old new now after start n h = absurd h
  read-same keys (TimeUp at) old new now after start n h = absurd h
  read-same keys Device old new now after start n h = begins-same keys old new start n h.begins
  read-same keys NoMemory old new now after start n (inl h) = ap (waits levels) h.0
  read-same keys NoMemory old new now after start n (inr h) = begins-same keys old new start n h.begins

  write-same : (keys : Keys) (stash : ℕ) (stop : Stop) (old new : LogLists) (now after : Contents) (start leaf : ℕ)
      → WriteStops keys stash stop old new now after start leaf → Same old new
  write-same keys stash (Integrity evidence) old new now after start leaf h = absurd h
  write-same keys stash (StashFull held) old new now after start leaf h = ap (waits levels) h.log
  write-same keys stash (TimeUp at) old new now after start leaf h = absurd h
  write-same keys stash Device old new now after start leaf h =
      let more = waits-events levels old new [] h.adds.events_are in omega (arith, more)
  write-same keys stash NoMemory old new now after start leaf h =
      let more = waits-events levels old new [] h.adds.events_are in omega (arith, more)

  cut-same : (keys : Keys) (stash : ℕ) (stop : Stop) (old new : LogLists) (now after : Contents) (start n : ℕ)
      → DummyStops keys stash stop old new now after start n → Same old new
  cut-same keys stash stop old new now after start n (inl h) = read-same keys stop old new now after start n h
  cut-same keys stash stop old new now after start n (inr h) =
      write-same keys stash stop h.mid new h.between after start (keys.leaf_of (Dummy n)) h.writes
      ∙ drawn-same keys old h.mid start h.read.asked (Dummy n) h.unasked h.read.adds.events_are

  stopped-same : (keys : Keys) (stash : ℕ) (stop : Stop) (old new : LogLists) (now after : Contents) (start n : ℕ)
      → PassesStop keys stash stop old new now after start n → Same old new
  stopped-same keys stash stop old new now after start n h =
      cut-same keys stash stop h.mid new h.between after start (n + h.done) h.stops
      ∙ passes-same keys h.done old h.mid now h.between n h.passed

  -- So a wait leaves what was waited, also where it is stopped.
  pub wait-same : (keys : Keys) (width until : ℕ) (old new : OramState) (answer : Result Told Stop)
      → OramStep keys width old (Wait until) answer new
      → waits levels new.port.tap.log ≡ waits levels old.port.tap.log
  wait-same keys width until old new (Ok told) (serves, is, same, one) =
      passes-same (keys_of old.port.tree [] keys.leaf_of) (new.port.clock.dummies - old.port.clock.dummies)
      old.port.tap.log new.port.tap.log (contents old.port) (contents new.port) old.port.clock.dummies (one.1.passed [])
  wait-same keys width until old new (Err stop) (inl h) =
      ap (λ (o : OramState). waits levels o.port.tap.log) h.1
  wait-same keys width until old new (Err stop) (inr (stops, same, inl h)) =
      ap (λ (s : PortState). waits levels s.tap.log) h.1
  wait-same keys width until old new (Err stop) (inr (stops, same, inr h)) =
      stopped-same (keys_of old.port.tree [] keys.leaf_of) old.port.tree.stash stop old.port.tap.log new.port.tap.log
      (contents old.port) (contents new.port) new.port.clock.next old.port.clock.dummies (h.breaks [])
