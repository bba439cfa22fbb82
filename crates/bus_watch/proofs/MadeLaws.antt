-- How runs of bus calls join, and what they leave of a bus that was ready.
use Rattle.std.proofs.Common.{◌≡◌, ◌+◌, ◌≤◌, ℕ, inl, List, [], ◌∷◌, ◌++◌, length, refl, sym, ◌∙◌, ap, arith}
use Rattle.std.proofs.Common.{append_assoc, length-append}
use Rattle.std.specs.List.{All}
use Rattle.std.proofs.lemmas.List.{append-nil}
use Rattle.std.proofs.lemmas.List.Elements.{All-append, All-weaker}
use Rattle.asc_outside.specs.Memory.{MemoryState}
use Rattle.bus_watch.specs.declared.bus.Bus.{Bus}
use Rattle.bus_watch.specs.declared.log.Altered.{Altered}
use Rattle.bus_watch.specs.declared.log.Event.{Event}
use Rattle.bus_watch.specs.declared.log.Move.{Move}
use Rattle.bus_watch.specs.Log.{LogLists, TapState, with_event}
use Rattle.bus_watch.specs.Made.{GainsAltered, Made, Ran}
use Rattle.bus_watch.specs.Ready.{IsReady}
use Rattle.bus_watch.specs.RunEnd.{RunEnd, Whole, RanOut}
use Rattle.bus_watch.specs.Same.{IsSameBus}
use Rattle.bus_watch.proofs.HonestLaws.{honest_none, honest_then, honest_short, honest_same}
use Rattle.bus_watch.proofs.Replies.{IsAmid, gains_none}
use Rattle.bus_watch.proofs.TiedLaws.{tied_same}

-- replies that are gained in two runs, one after the other, are gained in both together
pub gains_then : {log log' log'' : LogLists} (events more : List Event) → log'.events ≡ log.events ++ events
    → log''.events ≡ log'.events ++ more → GainsAltered log log' → GainsAltered log' log'' → GainsAltered log log''
gains_then {log} {log'} {log''} events more mid end first second =
    let fewer : length log.events ≤ length log'.events =
    omega (arith, ap length mid, length-append log.events events) in
    let greater : length log'.events ≤ length log''.events =
    omega (arith, ap length end, length-append log'.events more) in
    record {
      altered = first.altered ++ second.altered;
      gained = second.gained ∙ ap (λ (l : List Altered). l ++ second.altered) first.gained
          ∙ append_assoc log.altered first.altered second.altered;
      before = All-append (IsAmid log log'') first.altered second.altered
          (All-weaker (IsAmid log log') (IsAmid log log'') (λ a h. (h.0, omega (arith, h.1, greater))) first.altered
          first.before)
          (All-weaker (IsAmid log' log'') (IsAmid log log'') (λ a h. (omega (arith, h.0, fewer), h.1)) second.altered
          second.before);
    }

-- before the first call
pub made_none : (m : MemoryState) (t : TapState) → Made Whole [] [] m m t t
made_none m t = record {
  moves_are = sym (append-nil t.log.moves);
  events_are = sym (append-nil t.log.events);
  replies = gains_none t.log t.log refl;
  asked = omega arith;
  prepared = refl;
  linked = refl;
  later = omega arith;
  cause = λ e. cc;
  mirrored = refl;
  room = omega arith;
  event_room = omega arith;
  tied = λ start buckets tied. tied;
  honest = honest_none m t;
}

-- one run after another
pub made_then : {end : RunEnd} {xs ys : List Move} {events more : List Event} {m m' m'' : MemoryState}
    {t t' t'' : TapState} → Made Whole xs events m m' t t' → Made end ys more m' m'' t' t''
    → Made end (xs ++ ys) (events ++ more) m m'' t t''
made_then {end} {xs} {ys} {events} {more} {m} {m'} {m''} {t} {t'} {t''} first second = record {
  moves_are = second.moves_are ∙ ap (λ (l : List Move). l ++ ys) first.moves_are ∙ append_assoc t.log.moves xs ys;
  events_are = second.events_are ∙ ap (λ (l : List Event). l ++ more) first.events_are
      ∙ append_assoc t.log.events events more;
  replies = gains_then events more first.events_are second.events_are first.replies second.replies;
  asked = omega (arith, first.asked, second.asked, length-append xs ys);
  prepared = second.prepared ∙ first.prepared;
  linked = second.linked ∙ first.linked;
  later = omega (arith, first.later, second.later);
  cause = λ failed. omega (arith, first.later, second.cause failed);
  mirrored = second.mirrored ∙ first.mirrored;
  room = omega (arith, first.room, second.room, length-append xs ys);
  event_room = omega (arith, first.event_room, second.event_room, length-append events more);
  tied = λ start buckets tied. second.tied start buckets (first.tied start buckets tied);
  honest = honest_then first.honest second.honest;
}

-- a run whose calls were all Ok may be counted as one after which memory ran out
pub made_short : {xs : List Move} {events : List Event} {m m' : MemoryState} {t t' : TapState}
    → Made Whole xs events m m' t t' → Made RanOut xs events m m' t t'
made_short made = record {
  moves_are = made.moves_are;
  events_are = made.events_are;
  replies = made.replies;
  asked = made.asked;
  prepared = made.prepared;
  linked = made.linked;
  later = made.later;
  cause = λ e. cc;
  mirrored = made.mirrored;
  room = made.room;
  event_room = made.event_room;
  tied = λ start buckets tied. inl (made.tied start buckets tied);
  honest = honest_short made.honest;
}

-- an event is noted
pub made_event : (event : Event) {m m' : MemoryState} {t t' : TapState} → m' ≡ m → t'.log ≡ with_event t.log event
    → t'.mirror ≡ t.mirror → t.spare_events ≤ t'.spare_events + 1 → t'.spare_moves ≡ t.spare_moves
    → Made Whole [] (event ∷ []) m m' t t'
made_event event {m} {m'} {t} {t'} same log mirror spare moves =
    let moves_same : t'.log.moves ≡ t.log.moves = ap (λ (l : LogLists). l.moves) log in
    let altered_same : t'.log.altered ≡ t.log.altered = ap (λ (l : LogLists). l.altered) log in
    rw same record {
      moves_are = moves_same ∙ sym (append-nil t.log.moves);
      events_are = ap (λ (l : LogLists). l.events) log;
      replies = gains_none t.log t'.log altered_same;
      asked = omega arith;
      prepared = refl;
      linked = refl;
      later = omega arith;
      cause = λ e. cc;
      mirrored = ap length mirror;
      room = omega (arith, moves);
      event_room = omega (arith, spare);
      tied = λ start buckets tied. tied_same start buckets moves_same altered_same mirror tied;
      honest = honest_same m m t t' refl mirror (λ h. altered_same);
    }

-- a run that notes no event leaves the events, and each reply that it gains has their number
pub silent_events : {end : RunEnd} {moves : List Move} {m m' : MemoryState} {t t' : TapState}
    → Made end moves [] m m' t t' → t'.log.events ≡ t.log.events
silent_events {t = t} made = made.events_are ∙ append-nil t.log.events

pub silent_replies : {end : RunEnd} {moves : List Move} {m m' : MemoryState} {t t' : TapState}
    → (made : Made end moves [] m m' t t')
    → All (λ (a : Altered). a.before ≡ length t.log.events) made.replies.altered
silent_replies {t = t} {t' = t'} made =
    let same : length t'.log.events ≡ length t.log.events = ap length (silent_events made) in
    All-weaker (IsAmid t.log t'.log) (λ (a : Altered). a.before ≡ length t.log.events)
    (λ a h. omega (arith, h.0, h.1, same)) made.replies.altered made.replies.before

-- what a bus that was ready for all of a run is ready for after it
pub ready_after : {end : RunEnd} {moves : List Move} {events : List Event} {m m' : MemoryState} {t t' : TapState}
    (buckets all_moves all_events moves_left events_left : ℕ) → IsReady buckets all_moves all_events m t
    → Made end moves events m m' t t' → length moves + moves_left ≤ all_moves
    → length events + events_left ≤ all_events → IsReady buckets moves_left events_left m' t'
ready_after buckets all_moves all_events moves_left events_left ready made enough enough_events = record {
  prepared = made.prepared ∙ ready.prepared;
  mirrored = made.mirrored ∙ ready.mirrored;
  asked = omega (arith, ready.asked, made.asked, enough);
  room = omega (arith, ready.room, made.room, enough);
  event_room = omega (arith, ready.event_room, made.event_room, enough_events);
}

-- and what it is ready for where it needs less
pub ready_less : {m : MemoryState} {t : TapState} (buckets all_moves all_events moves events : ℕ)
    → IsReady buckets all_moves all_events m t → moves ≤ all_moves → events ≤ all_events
    → IsReady buckets moves events m t
ready_less buckets all_moves all_events moves events ready fewer fewer_events = record {
  prepared = ready.prepared;
  mirrored = ready.mirrored;
  asked = omega (arith, ready.asked, fewer);
  room = omega (arith, ready.room, fewer);
  event_room = omega (arith, ready.event_room, fewer_events);
}

-- buses that are over the same memory and tap
pub same_none : {M W : Type 0} (bus : Bus M W) → IsSameBus bus bus
same_none bus = record { memory = refl; tap = refl }

pub same_then : {M W : Type 0} {a b c : Bus M W} → IsSameBus a b → IsSameBus b c → IsSameBus a c
same_then first second = record { memory = second.memory ∙ first.memory; tap = second.tap ∙ first.tap }

module _ {M W : Type 0} (memory_of : M → MemoryState) (tap_of : W → TapState) where
  pub ran_none : (bus : Bus M W) → Ran memory_of tap_of Whole [] [] bus bus
  ran_none bus = record {
    same = same_none bus;
    made = made_none (memory_of bus.memory.now) (tap_of bus.tap.now);
  }

  pub ran_then : {end : RunEnd} {xs ys : List Move} {events more : List Event} {a b c : Bus M W}
      → Ran memory_of tap_of Whole xs events a b → Ran memory_of tap_of end ys more b c
      → Ran memory_of tap_of end (xs ++ ys) (events ++ more) a c
  ran_then first second = record {
    same = same_then first.same second.same;
    made = made_then first.made second.made;
  }

  pub ran_short : {xs : List Move} {events : List Event} {a b : Bus M W}
      → Ran memory_of tap_of Whole xs events a b → Ran memory_of tap_of RanOut xs events a b
  ran_short ran = record { same = ran.same; made = made_short ran.made }
