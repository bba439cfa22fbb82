-- What a slot adds to the starts and the choices that are counted, and to the leaves.
use Rattle.std.proofs.Common.{◌≡◌, ◌+◌, ◌<◌, ◌^◌, ◌++◌, ℕ, List, [], ◌∷◌, length, Option, None, Some, Bool, cond, sym}
use Rattle.std.proofs.Common.{refl, ap, subst, ◌∙◌, inl, inr, arith, append-nil}
use Rattle.std.specs.Prelude.{All}
use Rattle.std.proofs.lemmas.List.Elements.{All-append, All-cons, All-nil}
use Rattle.std.proofs.lemmas.List.Concat.{flat_map-append}
use Rattle.std.proofs.lemmas.List.Sums.{sum_by-append}
use Rattle.std.specs.List.{count_by}
use Rattle.asc_base.specs.declared.block.Point.{Point}
use Rattle.asc_base.specs.declared.settings.Config.{Config}
use Rattle.asc_base.specs.declared.stop.Stop.{Stop}
use Rattle.asc_base.specs.declared.stop.Stop.TheVariants.{Integrity, StashFull, TimeUp, Device, NoMemory}
use Rattle.bus_watch.specs.declared.log.Event.{Event}
use Rattle.bus_watch.specs.declared.log.Event.TheVariants.{Access, Drawn, Tagged, Accepted, Chosen, Answered}
use Rattle.bus_watch.specs.Log.{LogLists, with_event}
use Rattle.bus_schedule.specs.Shown.{index_of, indices_of, code_of, leaf_of, leaves_of}
use Rattle.bus_schedule.specs.Timetable.{public_of, count_of}
use Rattle.epoch_learner.specs.Learner.{HasCode, after_access}
use Rattle.epoch_learner.specs.declared.Learner.{Learner}
use Rattle.oram_contents.specs.Contents.{Contents}
use Rattle.oram_contents.specs.Entries.{Keys}
use Rattle.oram_contents.specs.Slots.{IsEnd}
use Rattle.rate_enforcer.specs.Breaks.{WriteStops}
use Rattle.rate_enforcer.specs.Clock.{with_dummy, with_real}
use Rattle.rate_enforcer.specs.Counts.{is_dummy, is_real, IsCounted}
use Rattle.rate_enforcer.specs.PortStep.{IsNote}
use Rattle.rate_enforcer.specs.Served.{begin_events}
use Rattle.rate_enforcer.specs.declared.clock.Clock.{Clock}

pub count_more : (p : Event → Bool) (events more : List Event)
    → count_by p (events ++ more) ≡ count_by p events + count_by p more
count_more p events more = sum_by-append (λ x. cond (p x) 1 0) events more

-- more events that are no choices
indices_more : (old new : LogLists) (more : List Event) → new.events ≡ old.events ++ more → indices_of more ≡ []
    → indices_of new.events ≡ indices_of old.events
indices_more old new more events none =
    ap indices_of events ∙ flat_map-append index_of old.events more ∙ ap (λ l. indices_of old.events ++ l) none
    ∙ append-nil (indices_of old.events)

-- the choices of a learner, and its code, which stay
coded_same : (clock clock' : Clock) (old new : LogLists) → indices_of new.events ≡ indices_of old.events
    → clock'.config ≡ clock.config → clock'.learner.choices ≡ clock.learner.choices
    → clock'.learner.code ≡ clock.learner.code → IsCounted clock old
    → HasCode (public_of clock'.config) (indices_of new.events) clock'.learner
coded_same clock clock' old new same config choices code c = record {
  choices = ap length same ∙ c.code.choices ∙ sym choices;
  code = code ∙ c.code.code ∙ ap (code_of (count_of (public_of clock.config))) (sym same)
      ∙ ap (λ (x : Config). code_of (count_of (public_of x)) (indices_of new.events)) (sym config);
}

-- the leaves of a tree alone
abbrev AreBelow : ℕ → List ℕ → Type 0
AreBelow levels leaves = All (λ leaf. leaf < 2 ^ levels) leaves

-- the leaves that are drawn, which stay
leaves_same : (clock clock' : Clock) (old new : LogLists) → leaves_of new.events ≡ leaves_of old.events
    → clock'.config ≡ clock.config → IsCounted clock old
    → AreBelow clock'.config.shape.levels (leaves_of new.events)
leaves_same clock clock' old new same config c =
    subst (λ (x : Config). AreBelow x.shape.levels (leaves_of new.events)) (sym config)
    (subst (AreBelow clock.config.shape.levels) (sym same) c.leaves)

-- or one more of the tree
leaves_drawn : (clock clock' : Clock) (old new : LogLists) (leaf : ℕ) (more : List Event)
    → new.events ≡ old.events ++ more → leaves_of more ≡ leaf ∷ [] → leaf < 2 ^ clock.config.shape.levels
    → clock'.config ≡ clock.config → IsCounted clock old
    → AreBelow clock'.config.shape.levels (leaves_of new.events)
leaves_drawn clock clock' old new leaf more events one below config c =
    let parts : leaves_of new.events ≡ leaves_of old.events ++ leaf ∷ [] = ap leaves_of events
    ∙ flat_map-append leaf_of old.events more ∙ ap (λ l. leaves_of old.events ++ l) one in
    subst (λ (x : Config). AreBelow x.shape.levels (leaves_of new.events)) (sym config)
    (subst (AreBelow clock.config.shape.levels) (sym parts)
    (All-append (λ n. n < 2 ^ clock.config.shape.levels) (leaves_of old.events) (leaf ∷ []) c.leaves
    (All-cons (λ n. n < 2 ^ clock.config.shape.levels) leaf [] below
    (All-nil (λ n. n < 2 ^ clock.config.shape.levels)))))

-- more events that draw no leaf
leaves_more : (old new : LogLists) (more : List Event) → new.events ≡ old.events ++ more → leaves_of more ≡ []
    → leaves_of new.events ≡ leaves_of old.events
leaves_more old new more events none =
    ap leaves_of events ∙ flat_map-append leaf_of old.events more ∙ ap (λ l. leaves_of old.events ++ l) none
    ∙ append-nil (leaves_of old.events)

-- a slot that begins
pub counted_begun : (clock clock' : Clock) (old new : LogLists) (start leaf : ℕ) (asked : Option ℕ) (point : Point)
    → new.events ≡ old.events ++ begin_events start asked point leaf
    → clock'.config ≡ clock.config → clock'.learner ≡ after_access clock.learner start asked
    → clock'.dummies ≡ with_dummy asked clock.dummies → clock'.real ≡ with_real asked clock.real
    → leaf < 2 ^ clock.config.shape.levels → IsCounted clock old → IsCounted clock' new
counted_begun clock clock' old new start leaf None point events config learner dummies real below c =
    let more = begin_events start None point leaf in
    record {
      dummies = dummies ∙ ap (λ n. n + 1) c.dummies ∙ sym (count_more is_dummy old.events more)
          ∙ ap (count_by is_dummy) (sym events);
      real = omega (arith, real, c.real, count_more is_real old.events more, ap (count_by is_real) events);
      code = coded_same clock clock' old new (indices_more old new more events refl) config
          (ap (λ (x : Learner). x.choices) learner) (ap (λ (x : Learner). x.code) learner) c;
      leaves = leaves_drawn clock clock' old new leaf more events refl below config c;
    }
counted_begun clock clock' old new start leaf (Some time) point events config learner dummies real below c =
    let more = begin_events start (Some time) point leaf in
    record {
      dummies = omega (arith, dummies, c.dummies, count_more is_dummy old.events more, ap (count_by is_dummy) events);
      real = omega (arith, real, c.real, count_more is_real old.events more, ap (count_by is_real) events);
      code = coded_same clock clock' old new (indices_more old new more events refl) config
          (ap (λ (x : Learner). x.choices) learner) (ap (λ (x : Learner). x.code) learner) c;
      leaves = leaves_drawn clock clock' old new leaf more events refl below config c;
    }

-- nothing is noted
pub counted_still : (clock clock' : Clock) (old new : LogLists) → new.events ≡ old.events
    → clock'.config ≡ clock.config → clock'.learner ≡ clock.learner → clock'.dummies ≡ clock.dummies
    → clock'.real ≡ clock.real → IsCounted clock old → IsCounted clock' new
counted_still clock clock' old new events config learner dummies real c = record {
  dummies = dummies ∙ c.dummies ∙ ap (count_by is_dummy) (sym events);
  real = real ∙ c.real ∙ ap (count_by is_real) (sym events);
  code = coded_same clock clock' old new (ap indices_of events) config (ap (λ (x : Learner). x.choices) learner)
      (ap (λ (x : Learner). x.code) learner) c;
  leaves = leaves_same clock clock' old new (ap leaves_of events) config c;
}

-- or one event that begins no slot
counted_other : (clock clock' : Clock) (old new : LogLists) (event : Event) → new.events ≡ old.events ++ event ∷ []
    → count_by is_dummy (event ∷ []) ≡ 0 → count_by is_real (event ∷ []) ≡ 0
    → leaves_of (event ∷ []) ≡ [] → HasCode (public_of clock'.config) (indices_of new.events) clock'.learner
    → clock'.config ≡ clock.config → clock'.dummies ≡ clock.dummies → clock'.real ≡ clock.real → IsCounted clock old
    → IsCounted clock' new
counted_other clock clock' old new event events no_dummy no_real no_leaf code config dummies real c = record {
  dummies = omega (
    arith,
    dummies,
    c.dummies,
    count_more is_dummy old.events (event ∷ []),
    ap (count_by is_dummy) events,
    no_dummy,
  );
  real = omega (
    arith,
    real,
    c.real,
    count_more is_real old.events (event ∷ []),
    ap (count_by is_real) events,
    no_real,
  );
  code = code;
  leaves = leaves_same clock clock' old new (leaves_more old new (event ∷ []) events no_leaf) config c;
}

-- a slot that ends, where the learner's code has the choice too that may have fallen
pub counted_ended : (clock clock' : Clock) (old new : LogLists) → IsEnd old new
    → HasCode (public_of clock'.config) (indices_of new.events) clock'.learner → clock'.config ≡ clock.config
    → clock'.dummies ≡ clock.dummies → clock'.real ≡ clock.real → IsCounted clock old → IsCounted clock' new
counted_ended clock clock' old new ended code config dummies real c = elim ended.events [
  | inl same ↦ record {
    dummies = dummies ∙ c.dummies ∙ ap (count_by is_dummy) (sym same);
    real = real ∙ c.real ∙ ap (count_by is_real) (sym same);
    code = code;
    leaves = leaves_same clock clock' old new (ap leaves_of same) config c;
  }
  | inr more ↦ counted_other clock clock' old new (Chosen more.0) more.1 (omega arith) (omega arith) refl code config
      dummies real c
]

pub counted_note : (clock : Clock) (old new : LogLists) (event : Event) → IsNote event → new ≡ with_event old event
    → IsCounted clock old → IsCounted clock new
counted_note clock old new event note is c = by event note (ap (λ (x : LogLists). x.events) is)
  where
    noted : (event : Event) → new.events ≡ old.events ++ event ∷ [] → count_by is_dummy (event ∷ []) ≡ 0
        → count_by is_real (event ∷ []) ≡ 0 → indices_of (event ∷ []) ≡ [] → leaves_of (event ∷ []) ≡ []
        → IsCounted clock new
    noted event events no_dummy no_real none no_leaf =
        counted_other clock clock old new event events no_dummy no_real no_leaf
        (coded_same clock clock old new (indices_more old new (event ∷ []) events none) refl refl refl c) refl
        (omega arith) (omega arith) c

    by : (event : Event) → IsNote event → new.events ≡ old.events ++ event ∷ [] → IsCounted clock new
    by (Access start asked) note events = absurd note
    by (Drawn point leaf) note events = absurd note
    by (Tagged message) note events = noted (Tagged message) events (omega arith) (omega arith) refl refl
    by (Accepted message tag) note events = noted (Accepted message tag) events (omega arith) (omega arith) refl refl
    by (Chosen index) note events = absurd note
    by (Answered line value) note events = noted (Answered line value) events (omega arith) (omega arith) refl refl

-- a write that stops notes nothing
pub stop_silent : (keys : Keys) (stash : ℕ) (stop : Stop) (old new : LogLists) (now after : Contents)
    (start leaf : ℕ) → WriteStops keys stash stop old new now after start leaf → new.events ≡ old.events
stop_silent keys stash (Integrity evidence) old new now after start leaf w = absurd w
stop_silent keys stash (StashFull held) old new now after start leaf w = ap (λ (x : LogLists). x.events) w.log
stop_silent keys stash (TimeUp at) old new now after start leaf w = absurd w
stop_silent keys stash Device old new now after start leaf w = w.adds.events_are ∙ append-nil old.events
stop_silent keys stash NoMemory old new now after start leaf w = w.adds.events_are ∙ append-nil old.events
