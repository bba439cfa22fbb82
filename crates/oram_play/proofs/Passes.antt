-- Dummies in a port's log are those that pass in a play.
use Rattle.std.proofs.Common.{◌≡◌, ◌<◌, ◌≤◌, ◌⊎◌, ℕ, zero, suc, ◌+◌, List, [], ◌∷◌, ◌++◌, Option, Some, None, refl}
use Rattle.std.proofs.Common.{sym, ap, ◌∙◌, subst, arith, append-nil, append_assoc, inl, inr, eq-or-lt_of_le}
use Rattle.asc_base.specs.declared.block.Point.{Point}
use Rattle.asc_base.specs.declared.block.Point.TheVariants.{Dummy}
use Rattle.bus_schedule.specs.Timetable.{Public, count_of}
use Rattle.bus_schedule.proofs.ScheduledLaws.{silent-none}
use Rattle.bus_watch.specs.Log.{LogLists}
use Rattle.bus_watch.specs.declared.log.Event.{Event}
use Rattle.bus_watch.specs.declared.log.Event.TheVariants.{Access, Drawn, Chosen}
use Rattle.epoch_learner.specs.Heard.{nothing_heard, ChoosesByRule}
use Rattle.asc_base.specs.TreeShape.{olat_of}
use Rattle.oram_contents.specs.Contents.{Contents}
use Rattle.oram_contents.specs.Entries.{Keys}
use Rattle.oram_contents.specs.Slots.{ArePasses, IsEnd, IsDummy, drawn_events}
use Rattle.rate_enforcer.specs.Clock.{chosen_events}
use Rattle.run_play.specs.OnTime.{IsPace}
use Rattle.run_play.specs.PlayEvents.{said_of_all, play_events}
use Rattle.run_play.specs.Slots.{Pace, Numbers, Slot, Passed, pace_after, slot_next, dummy_next, passed}
use Rattle.run_play.proofs.IsPaced.{pace-slot}
use Rattle.run_play.proofs.Keeping.{next-later, passed-none, passed-one}
use Rattle.epoch_learner.specs.Stands.{AreDone, ChoosesAtEnds}
use Rattle.oram_play.proofs.Due.{HasSlot, said-more, by-rule-before}

-- what is so before each slot is so before each of the first ones
pub ends-before : (p : Public) (xs ys : List Event) → ChoosesAtEnds p (xs ++ ys) → ChoosesAtEnds p xs
ends-before p xs ys h before later start asked is =
    h before (later ++ ys) start asked (ap (λ l. l ++ ys) is ∙ append_assoc before (Access start asked ∷ later) ys)

-- the end of a slot notes a choice, or none
pub record HasEnd (old new : LogLists) : Type 0 where
  pub chosen : Option ℕ
  pub events : new.events ≡ old.events ++ chosen_events chosen

pub end-noted : (old new : LogLists) → IsEnd old new → HasEnd old new
end-noted old new e = by-event e.events
  where
    by-event : (new.events ≡ old.events) ⊎ ((index : ℕ) × (new.events ≡ old.events ++ Chosen index ∷ []))
        → HasEnd old new
    by-event (inl same) = record { chosen = None; events = same ∙ sym (append-nil old.events) }
    by-event (inr (index, is)) = record { chosen = Some index; events = is }

-- some slots are said, and this is the pace after them
pub record Said (p : Public) (events : List Event) (slots : List Slot) (now : Pace) : Type 0 where
  pub said : said_of_all events ≡ play_events slots
  pub paced : IsPace p slots now

module _ (p : Public) (some : 0 < count_of p) (numbers : Numbers) where
  -- so many dummies after a pace, and the pace after them
  abbrev pub waited : ℕ → Pace → Pace
  waited zero pace = pace
  waited (suc k) pace = pace_after p (waited k pace) None

  abbrev pub dummies_after : ℕ → Pace → List Slot
  dummies_after zero pace = []
  dummies_after (suc k) pace = dummies_after k pace ++ dummy_next p (waited k pace) numbers ∷ []

  pub waited-dummies : (k : ℕ) (pace : Pace) → (waited k pace).dummies ≡ pace.dummies + k
  waited-dummies zero pace = omega arith
  waited-dummies (suc k) pace = let before = waited-dummies k pace in omega (arith, before)

  -- a slot more
  pub said-slot : (old new : List Event) (slots : List Slot) (pace : Pace) (start : ℕ) (asked : Option ℕ)
      (point : Point) (chosen : Option ℕ) → Said p old slots pace → HasSlot old new start asked point None chosen
      → AreDone p new → ChoosesByRule p new
      → Said p new (slots ++ slot_next p pace numbers asked point None None ∷ []) (pace_after p pace asked)
  said-slot old new slots pace start asked point chosen s h done rule = record {
    said = said-more old new start asked point None p slots pace s.paced s.said done numbers chosen h rule;
    paced = pace-slot p some slots pace numbers asked point None None s.paced;
  }

  -- a dummy's slot
  record HasDummy (old new : LogLists) (n : ℕ) : Type 0 where
    pub start : ℕ
    pub chosen : Option ℕ
    pub slot : HasSlot old.events new.events start None (Dummy n) None chosen
    pub later : List Event
    pub parts : new.events ≡ old.events ++ Access start None ∷ later

  dummy-noted : (keys : Keys) (old new : LogLists) (now after : Contents) (start n : ℕ)
      → IsDummy keys old new now after start n → HasDummy old new n
  dummy-noted keys old new now after start n d =
      let end = end-noted d.mid new d.ends in
      let begun : d.mid.events ≡ old.events ++ drawn_events keys start None (Dummy n) =
      d.pass.events_are ∙ ap (λ asked. old.events ++ drawn_events keys start asked (Dummy n)) d.unasked in
      let all : new.events ≡ old.events ++ (drawn_events keys start None (Dummy n) ++ chosen_events end.chosen) =
      end.events ∙ ap (λ l. l ++ chosen_events end.chosen) begun
      ∙ append_assoc old.events (drawn_events keys start None (Dummy n)) (chosen_events end.chosen) in
      record {
        start = start;
        chosen = end.chosen;
        slot = record {
          leaf = record { 0 = keys.leaf_of (Dummy n) };
          notes = [];
          silent = silent-none;
          said = refl;
          events = all;
        };
        later = Drawn (Dummy n) (record { 0 = keys.leaf_of (Dummy n) }) ∷ chosen_events end.chosen;
        parts = all;
      }

  -- so many of them
  pub passes-said : (keys : Keys) (k : ℕ) (old new : LogLists) (now after : Contents) (slots : List Slot) (pace : Pace)
      (n : ℕ) → ArePasses keys k old new now after n → n ≡ pace.dummies → Said p old.events slots pace
      → AreDone p new.events → ChoosesAtEnds p new.events → ChoosesByRule p new.events
      → Said p new.events (slots ++ dummies_after k pace) (waited k pace)
  passes-said keys zero old new now after slots pace n are number s done ends rule = record {
    said = ap (λ (l : LogLists). said_of_all l.events) are.0 ∙ s.said ∙ ap play_events (sym (append-nil slots));
    paced = subst (λ l. IsPace p l pace) (sym (append-nil slots)) s.paced;
  }
  passes-said keys (suc k) old new now after slots pace n are number s done ends rule =
      let mid : LogLists = are.0 in
      let d : HasDummy mid new (n + k) = dummy-noted keys mid new are.1 after are.2 (n + k) are.5 in
      let before : Said p mid.events (slots ++ dummies_after k pace) (waited k pace) =
      passes-said keys k old mid now are.1 slots pace n are.3 number s
      (ends mid.events d.later d.start None d.parts)
      (ends-before p mid.events (Access d.start None ∷ d.later) (subst (ChoosesAtEnds p) d.parts ends))
      (by-rule-before p.rates (olat_of p.levels) nothing_heard mid.events (Access d.start None ∷ d.later)
      (subst (ChoosesByRule p) d.parts rule)) in
      let same : n + k ≡ (waited k pace).dummies = omega (arith, number, waited-dummies k pace) in
      let slot = subst (λ m. HasSlot mid.events new.events d.start None (Dummy m) None d.chosen) same d.slot in
      let more = said-slot mid.events new.events (slots ++ dummies_after k pace) (waited k pace) d.start None
      (Dummy (waited k pace).dummies) d.chosen before slot done rule in
      subst (λ l. Said p new.events l (waited (suc k) pace))
      (append_assoc slots (dummies_after k pace) (dummy_next p (waited k pace) numbers ∷ [])) more

  -- the same from the first one on
  pub waited-first : (k : ℕ) (pace : Pace) → waited (suc k) pace ≡ waited k (pace_after p pace None)
  waited-first zero pace = refl
  waited-first (suc k) pace = ap (λ (next : Pace). pace_after p next None) (waited-first k pace)

  pub dummies-first : (k : ℕ) (pace : Pace)
      → dummies_after (suc k) pace ≡ dummy_next p pace numbers ∷ dummies_after k (pace_after p pace None)
  dummies-first zero pace = refl
  dummies-first (suc k) pace =
      ap (λ l. l ++ dummy_next p (waited (suc k) pace) numbers ∷ []) (dummies-first k pace)
      ∙ ap (λ (next : Pace).
      dummy_next p pace numbers ∷ (dummies_after k (pace_after p pace None) ++ dummy_next p next numbers ∷ []))
      (waited-first k pace)

  -- all start before a time
  abbrev pub Early : ℕ → ℕ → Pace → Type 0
  Early k time pace = (j : ℕ) → j < k → (waited j pace).beat.next < time

  rises-by : (k j : ℕ) (pace : Pace)
      → (j < k → (waited j pace).beat.next < (waited k pace).beat.next) → (j ≡ k) ⊎ (j < k)
      → (waited j pace).beat.next < (waited (suc k) pace).beat.next
  rises-by k j pace up (inl same) =
      subst (λ i. (waited i pace).beat.next < (waited (suc k) pace).beat.next) (sym same)
      (next-later p (waited k pace) None)
  rises-by k j pace up (inr before) = omega (arith, up before, next-later p (waited k pace) None)

  pub waited-rises : (k : ℕ) (pace : Pace) → Early k (waited k pace).beat.next pace
  waited-rises zero pace j less = absurd (omega (arith, less))
  waited-rises (suc k) pace j less =
      rises-by k j pace (waited-rises k pace j) (eq-or-lt_of_le (omega (arith, less)))

  pub passed-waited : (k time : ℕ) (pace : Pace) → Early k time pace → time ≤ (waited k pace).beat.next
      → passed p numbers time pace ≡ record { slots = dummies_after k pace; pace = waited k pace }
  passed-waited zero time pace early far = passed-none p numbers time pace far
  passed-waited (suc k) time pace early far =
      let next : Pace = pace_after p pace None in
      let rest : passed p numbers time next ≡ record { slots = dummies_after k next; pace = waited k next } =
      passed-waited k time next
      (λ j less. subst (λ (x : Pace). x.beat.next < time) (waited-first j pace) (early (suc j) (omega (arith, less))))
      (subst (λ (x : Pace). time ≤ x.beat.next) (waited-first k pace) far) in
      passed-one p numbers time pace (early 0 (omega arith))
      ∙ ap (λ (more : Passed).
      let all : Passed = record { slots = dummy_next p pace numbers ∷ more.slots; pace = more.pace } in all) rest
      ∙ (let both : (l : List Slot) (x : Pace) → l ≡ dummies_after (suc k) pace → x ≡ waited (suc k) pace
      → record { slots = l; pace = x } ≡ record { slots = dummies_after (suc k) pace; pace = waited (suc k) pace } =
      (λ l x e f. same-passed l (dummies_after (suc k) pace) x (waited (suc k) pace) e f) in
      both (dummy_next p pace numbers ∷ dummies_after k next) (waited k next) (sym (dummies-first k pace))
      (sym (waited-first k pace)))
    where
      same-passed : (l m : List Slot) (x y : Pace) → l ≡ m → x ≡ y
          → (let a : Passed = record { slots = l; pace = x } in a) ≡ record { slots = m; pace = y }
      same-passed l m x y e f =
          ap (λ z. let a : Passed = record { slots = z; pace = x } in a) e
          ∙ ap (λ z. let a : Passed = record { slots = m; pace = z } in a) f
