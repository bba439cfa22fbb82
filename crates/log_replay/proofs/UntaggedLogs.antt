-- A log in which nothing is tagged, and no reply altered, shows no full stash: nothing ever comes to be at hand.
use Rattle.std.proofs.Common.{◌≡◌, ◌≤◌, ◌+◌, ◌*◌, ◌^◌, ◌⊎◌, inl, inr, ℕ, List, [], ◌∷◌, length, Option, None}
use Rattle.std.proofs.Common.{Some, Ok, refl, sym, ◌∙◌, ap, ap₂, subst, arith}
use Rattle.asc_base.specs.Has.{Has}
use Rattle.asc_base.specs.Lookup.{without_first}
use Rattle.asc_base.specs.declared.block.Message.{Message}
use Rattle.asc_base.specs.declared.block.Point.{Point}
use Rattle.asc_base.specs.declared.block.Point.TheVariants.{Real, Dummy}
use Rattle.asc_base.specs.declared.stop.Evidence.{Evidence}
use Rattle.asc_base.specs.declared.stop.Stop.{Stop}
use Rattle.asc_base.specs.declared.stop.Stop.TheVariants.{StashFull}
use Rattle.bus_watch.specs.Log.{LogLists}
use Rattle.bus_watch.specs.declared.log.Altered.{Altered}
use Rattle.bus_watch.specs.declared.log.Event.{Event}
use Rattle.bus_watch.specs.declared.log.Event.TheVariants.{Access, Drawn, Accepted, Tagged, Chosen, Answered}
use Rattle.oram_contents.specs.Entries.{Keys}
use Rattle.oram_contents.specs.Fold.{Fold, leave, settle, after_event, fold_events, hand_after}
use Rattle.oram_contents.specs.Starts.{first_fold}
use Rattle.oram_contents.specs.Verdict.{integrity, judged, read_verdict, event_verdict, events_verdict, first_of}
use Rattle.oram_contents.specs.Verdict.{open_verdict}
use Rattle.oram_stash.specs.Entries.{held, without}
use Rattle.log_replay.specs.Judged.{verdict_on}
use Rattle.log_replay.proofs.EmptySlots.{IsBlank, start_blank, settle_blank, open_blank, read_blank, after_access}

-- a verdict that is there is one of two
pub first_cases : (x y : Option Stop) (stop : Stop) → first_of x y ≡ Some stop → (x ≡ Some stop) ⊎ (y ≡ Some stop)
first_cases None y stop is = inr is
first_cases (Some one) y stop is = inl is

-- evidence is no full stash
pub integrity_other : (o : Option Evidence) (held : ℕ) → integrity o ≡ Some (StashFull held) → ⊥
integrity_other None held is = cc
integrity_other (Some evidence) held is = cc

pub none_some : (held : ℕ) {x : Option Stop} → x ≡ None → x ≡ Some (StashFull held) → ⊥
none_some held none some = let bad : ◌≡◌ {A = Option Stop} None (Some (StashFull held)) = sym none ∙ some in cc

leave_none : (p : Point) → leave p [] ≡ []
unfolding without without_first
leave_none (Real a c) = refl
leave_none (Dummy n) = refl

module _ (keys : Keys) (few_levels : keys.shape.levels ≤ 17) (stash : ℕ) where
  abbrev Blank : Fold → ℕ → Type 0
  Blank f most = IsBlank keys few_levels f most

  -- more seeds may be used up
  wider : (f : Fold) (most more : ℕ) → most ≤ more → Blank f most → Blank f more
  wider f most more up blank = record {
    hand = blank.hand;
    mirror = blank.mirror;
    some = blank.some;
    few = omega (arith, up, blank.few);
  }

  -- behind an event that isn't a message's nothing is at hand either
  event_blank : (n most : ℕ) (e : Event) (f : Fold) → most ≤ 2 ^ 62 → ((m : Message) → e ≡ Tagged m → ⊥)
      → Blank f most → Blank (after_event keys [] n e f) (most + 18)
  event_blank n most (Access start asked) f small other blank =
      after_access keys few_levels f most start n asked small blank
  event_blank n most (Drawn p x) f small other blank =
      let settled = settle_blank keys few_levels f most small blank in record {
        hand = ap₂ (hand_after p) settled.hand (read_blank keys few_levels (settle keys f) (most + 18) x.0 settled)
            ∙ leave_none p;
        mirror = settled.mirror;
        some = settled.some;
        few = settled.few;
      }
  event_blank n most (Accepted m t) f small other blank = wider f most (most + 18) (omega arith) blank
  event_blank n most (Tagged m) f small other blank = absurd (other m refl)
  event_blank n most (Chosen index) f small other blank = settle_blank keys few_levels f most small blank
  event_blank n most (Answered line value) f small other blank = settle_blank keys few_levels f most small blank

  read_other : (p : Point) (held : ℕ) → read_verdict keys p (Ok []) ≡ Some (StashFull held) → ⊥
  read_other (Real a c) held is = integrity_other (judged keys a.0 c _) held is
  read_other (Dummy n) held is = cc

  -- and it shows no full stash
  event_other : (n most held : ℕ) (e : Event) (f : Fold) → most ≤ 2 ^ 62 → ((m : Message) → e ≡ Tagged m → ⊥)
      → Blank f most → event_verdict keys stash [] n e f ≡ Some (StashFull held) → ⊥
  event_other n most held (Access start asked) f small other blank is =
      none_some held (open_blank keys few_levels stash most f blank) is
  event_other n most held (Drawn p x) f small other blank is =
      let settled = settle_blank keys few_levels f most small blank in
      let shown = ap₂ first_of (open_blank keys few_levels stash most f blank)
      (ap (read_verdict keys p) (read_blank keys few_levels (settle keys f) (most + 18) x.0 settled)) in
      read_other p held (sym shown ∙ is)
  event_other n most held (Accepted m t) f small other blank is = cc
  event_other n most held (Tagged m) f small other blank is = other m refl
  event_other n most held (Chosen index) f small other blank is =
      none_some held (open_blank keys few_levels stash most f blank) is
  event_other n most held (Answered line value) f small other blank is =
      none_some held (open_blank keys few_levels stash most f blank) is

  -- so of events one after another
  events_other : (n most held : ℕ) (events : List Event) (f : Fold) → most + 18 * length events ≤ 2 ^ 62
      → ((m : Message) → Has (Tagged m) events → ⊥) → Blank f most
      → first_of (events_verdict keys stash [] n events f)
      (open_verdict keys stash (fold_events keys [] n events f).path (fold_events keys [] n events f).now)
      ≡ Some (StashFull held) → ⊥
  events_other n most held [] f small none blank is =
      none_some held (open_blank keys few_levels stash most f blank) is
  events_other n most held (e ∷ events) f small none blank is =
      let g = after_event keys [] n e f in
      let few : most ≤ 2 ^ 62 = omega (arith, small) in
      let other : (m : Message) → e ≡ Tagged m → ⊥ = λ m same. none m (inl (sym same)) in
      let rest = events_other (n + 1) (most + 18) held events g (omega (arith, small)) (λ m h. none m (inr h))
      (event_blank n most e f few other blank) in
      let last = open_verdict keys stash (fold_events keys [] (n + 1) events g).path
      (fold_events keys [] (n + 1) events g).now in
      by_case (event_verdict keys stash [] n e f) (events_verdict keys stash [] (n + 1) events g) last
      (event_other n most held e f few other blank) rest is
    where
      by_case : (one more last : Option Stop) → (one ≡ Some (StashFull held) → ⊥)
          → (first_of more last ≡ Some (StashFull held) → ⊥)
          → first_of (first_of one more) last ≡ Some (StashFull held) → ⊥
      by_case None more last first then_is is = then_is is
      by_case (Some stop) more last first then_is is = first is

  pub untagged_other : (held : ℕ) (log : LogLists) → log.altered ≡ [] → length log.events ≤ 2 ^ 56
      → ((m : Message) → Has (Tagged m) log.events → ⊥)
      → verdict_on keys stash log ≡ Some (StashFull held) → ⊥
  untagged_other held log unaltered few none is =
      events_other 0 1 held log.events (first_fold keys) (omega (arith, few)) none (start_blank keys few_levels)
      (subst (λ (altered : List Altered). verdict_on keys stash (record log { altered = altered })
      ≡ Some (StashFull held)) unaltered is)
