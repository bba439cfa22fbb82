-- Choices are noted at the ends at which they fall, before the next slot starts: what keeps this.
use Rattle.std.proofs.Common.{◌≡◌, ◌⊎◌, ℕ, List, [], ◌∷◌, ◌++◌, Option, refl, sym, ap, ◌∙◌, subst, append-nil, inl, inr}
use Rattle.std.proofs.lemmas.List.Concat.{flat_map-append}
use Rattle.bus_watch.specs.Log.{LogLists}
use Rattle.bus_watch.specs.declared.log.Event.{Event}
use Rattle.bus_watch.specs.declared.log.Event.TheVariants.{Access}
use Rattle.bus_schedule.specs.Shown.{start_of, starts_of}
use Rattle.bus_schedule.specs.Scheduled.{Between}
use Rattle.bus_schedule.specs.Timetable.{Public}
use Rattle.epoch_learner.specs.Stands.{AreDone, ChoosesAtEnds}

-- where an event stands that is one of two lists' events: in the first, or in the second
record InFirst (xs before later : List Event) (event : Event) : Type 0 where
  pub rest : List Event
  pub is : xs ≡ before ++ event ∷ rest

record InSecond (xs ys before later : List Event) (event : Event) : Type 0 where
  pub rest : List Event
  pub second : ys ≡ rest ++ event ∷ later
  pub first : before ≡ xs ++ rest

tail_same : (x y : Event) (xs ys : List Event) → x ∷ xs ≡ y ∷ ys → xs ≡ ys
tail_same x y xs ys e = cc

head_same : (x y : Event) (xs ys : List Event) → x ∷ xs ≡ y ∷ ys → x ≡ y
head_same x y xs ys e = cc

-- and with one event more before both
one_more : (x b event : Event) (xs ys before later : List Event) → x ≡ b
    → InFirst xs before later event ⊎ InSecond xs ys before later event
    → InFirst (x ∷ xs) (b ∷ before) later event ⊎ InSecond (x ∷ xs) ys (b ∷ before) later event
one_more x b event xs ys before later same (inl h) =
    inl (record { rest = h.rest; is = ap (λ l. x ∷ l) h.is ∙ ap (λ e. e ∷ (before ++ event ∷ h.rest)) same })
one_more x b event xs ys before later same (inr h) =
    inr
    (record {
      rest = h.rest;
      second = h.second;
      first = ap (λ l. b ∷ l) h.first ∙ ap (λ e. e ∷ (xs ++ h.rest)) (sym same);
    })

one_of : (xs ys before later : List Event) (event : Event) → xs ++ ys ≡ before ++ event ∷ later
    → InFirst xs before later event ⊎ InSecond xs ys before later event
one_of [] ys before later event is = inr (record { rest = before; second = is; first = refl })
one_of (x ∷ xs) ys [] later event is =
    inl (record { rest = xs; is = ap (λ e. e ∷ xs) (head_same x event (xs ++ ys) later is) })
one_of (x ∷ xs) ys (b ∷ before) later event is =
    one_more x b event xs ys before later (head_same x b (xs ++ ys) (before ++ event ∷ later) is)
    (one_of xs ys before later event (tail_same x b (xs ++ ys) (before ++ event ∷ later) is))

-- no slot starts among events without a start
no_start : (events rest later : List Event) (start : ℕ) (asked : Option ℕ) → starts_of events ≡ []
    → events ≡ rest ++ Access start asked ∷ later → ⊥
no_start events rest later start asked none is =
    some (starts_of rest) start (starts_of later)
    (sym (flat_map-append start_of rest (Access start asked ∷ later)) ∙ ap starts_of (sym is) ∙ none)
  where
    some : (xs : List ℕ) (y : ℕ) (ys : List ℕ) → xs ++ y ∷ ys ≡ [] → ⊥
    some [] y ys e = absurd cc
    some (x ∷ xs) y ys e = absurd cc

-- before the first event
pub ends_none : (p : Public) → ChoosesAtEnds p []
ends_none p [] later start asked is = absurd cc
ends_none p (b ∷ before) later start asked is = absurd cc

-- events in which no slot starts keep it
pub ends_kept : (p : Public) (events more : List Event) → starts_of more ≡ [] → ChoosesAtEnds p events
    → ChoosesAtEnds p (events ++ more)
ends_kept p events more none h before later start asked is =
    by_place (one_of events more before later (Access start asked) is)
  where
    by_place : InFirst events before later (Access start asked) ⊎ InSecond events more before later (Access start asked)
        → AreDone p before
    by_place (inl first) = h before first.rest start asked first.is
    by_place (inr second) = absurd (no_start more second.rest later start asked none second.second)

-- a slot starts between two slots
between_done : (p : Public) (n : ℕ) (log : LogLists) → Between p n log → AreDone p log.events
between_done p n log b = record {
  count = n;
  begun = b.begun;
  indices = b.chosen.indices;
  fell = b.chosen.fell;
}

only_one : (event other : Event) (rest later : List Event) → event ∷ [] ≡ rest ++ other ∷ later → rest ≡ []
only_one event other [] later is = refl
only_one event other (r ∷ []) later is = absurd cc
only_one event other (r ∷ s ∷ rest) later is = absurd cc

pub ends_begun : (p : Public) (n next : ℕ) (asked : Option ℕ) (log : LogLists) → Between p n log
    → ChoosesAtEnds p log.events → ChoosesAtEnds p (log.events ++ Access next asked ∷ [])
ends_begun p n next asked log b h before later start other is =
    by_place (one_of log.events (Access next asked ∷ []) before later (Access start other) is)
  where
    by_place : InFirst log.events before later (Access start other)
        ⊎ InSecond log.events (Access next asked ∷ []) before later (Access start other) → AreDone p before
    by_place (inl first) = h before first.rest start other first.is
    by_place (inr second) =
        let none : second.rest ≡ [] =
        only_one (Access next asked) (Access start other) second.rest later second.second in
        subst (AreDone p)
        (sym (second.first ∙ ap (λ l. log.events ++ l) none ∙ append-nil log.events)) (between_done p n log b)
