-- A slot in a log's events: it starts when it is due, and the choice at its end is the one that falls there.
use Rattle.std.proofs.Common.{◌≡◌, ◌<◌, ℕ, suc, ◌+◌, ◌-◌, true, false, cond, List, [], ◌∷◌, ◌++◌, length, Option, Some}
use Rattle.std.proofs.Common.{None, refl, sym, ap, ◌∙◌, subst, arith, append-nil, append_assoc, length-append, inl, inr}
use Rattle.std.specs.Prelude.{option_to_list}
use Rattle.std.proofs.lemmas.Bool.{cases_Bool}
use Rattle.std.proofs.lemmas.List.{append_cancel_left}
use Rattle.std.proofs.lemmas.List.Concat.{flat_map-append}
use Rattle.std.proofs.lemmas.List.Elements.{All-pop}
use Rattle.asc_base.specs.TreeShape.{olat_of}
use Rattle.asc_base.specs.declared.block.Leaf.{Leaf}
use Rattle.asc_base.specs.declared.block.Message.{Message}
use Rattle.asc_base.specs.declared.block.Point.{Point}
use Rattle.bus_schedule.specs.declared.beat.Beat.{Beat}
use Rattle.bus_schedule.specs.Shown.{start_of, index_of, starts_of, indices_of, AreSilent, code_of}
use Rattle.bus_schedule.specs.Timetable.{Public, count_of, falls_next, beat_at}
use Rattle.bus_schedule.specs.Timetable.{start_at, starts}
use Rattle.bus_schedule.proofs.ScheduledLaws.{beat-without, beat-chosen}
use Rattle.bus_schedule.proofs.TimetableLaws.{starts-next, length-starts, starts-agree}
use Rattle.bus_watch.specs.declared.log.Event.{Event}
use Rattle.bus_watch.specs.declared.log.Event.TheVariants.{Access, Drawn, Chosen}
use Rattle.epoch_learner.specs.Heard.{Heard, nothing_heard, with_access, hears, heard_of, told_by, IsByRule, AreByRule}
use Rattle.epoch_learner.specs.Heard.{ChoosesByRule}
use Rattle.epoch_learner.specs.LearnerRule.{learner_rule}
use Rattle.epoch_learner.proofs.HeardLaws.{heard_of_append, silent_events}
use Rattle.rate_enforcer.specs.Clock.{chosen_events}
use Rattle.run_play.specs.OnTime.{IsPace}
use Rattle.run_play.specs.PlayEvents.{Starts, Draws, said_of, said_of_all, tags_of, chooses_of}
use Rattle.run_play.specs.PlayEvents.{slot_events, play_events, indices_in, code_in}
use Rattle.run_play.specs.Slots.{Pace, Numbers, Slot, heard_next, choice_next, slot_next}
use Rattle.run_play.proofs.Events.{log-shows, log-tells}
use Rattle.run_play.proofs.Paces.{MoreDigits, more-digits}
use Rattle.epoch_learner.specs.Stands.{events_code, AreDone}

-- Events of a slot more: its start and its point, notes that show nothing of slots, and the choice at its end.
pub record HasSlot (old new : List Event) (start : ℕ) (asked : Option ℕ) (point : Point) (put : Option Message)
    (chosen : Option ℕ) : Type 0 where
  pub leaf : Leaf
  pub notes : List Event
  pub silent : AreSilent notes
  pub said : said_of_all notes ≡ tags_of put
  pub events : new ≡ old ++ (Access start asked ∷ Drawn point leaf ∷ (notes ++ chosen_events chosen))

-- what a choice at an end shows
chosen-starts : (chosen : Option ℕ) → starts_of (chosen_events chosen) ≡ []
chosen-starts None = refl
chosen-starts (Some index) = refl

chosen-indices : (chosen : Option ℕ) → indices_of (chosen_events chosen) ≡ option_to_list chosen
chosen-indices None = refl
chosen-indices (Some index) = refl

chosen-said : (chosen : Option ℕ) → said_of_all (chosen_events chosen) ≡ chooses_of chosen
chosen-said None = refl
chosen-said (Some index) = refl

-- two lists of one
pub one-same : (x y : ℕ) → x ∷ [] ≡ y ∷ [] → x ≡ y
one-same x y e = cc

-- an event by the rule, and the events before another
by-rule-at : (rates : List ℕ) (olat : ℕ) (heard : Heard) (xs ys : List Event) (e : Event)
    → AreByRule rates olat heard (xs ++ e ∷ ys) → IsByRule rates olat (heard_of olat heard xs) e
unfolding heard_of AreByRule
by-rule-at rates olat heard [] ys e h = h.0
by-rule-at rates olat heard (x ∷ xs) ys e h = by-rule-at rates olat (hears olat heard x) xs ys e h.1

pub by-rule-before : (rates : List ℕ) (olat : ℕ) (heard : Heard) (xs ys : List Event)
    → AreByRule rates olat heard (xs ++ ys) → AreByRule rates olat heard xs
unfolding AreByRule
by-rule-before rates olat heard [] ys h = tt
by-rule-before rates olat heard (x ∷ xs) ys h = (h.0, by-rule-before rates olat (hears olat heard x) xs ys h.1)

-- a slot's start and notes are heard as its access
heard-start : (olat : ℕ) (heard : Heard) (start : ℕ) (asked : Option ℕ) (point : Point) (leaf : Leaf)
    (notes : List Event) → AreSilent notes
    → heard_of olat heard (Access start asked ∷ Drawn point leaf ∷ notes)
    ≡ with_access heard (record { start = start; asked = asked }) (start + olat)
unfolding heard_of
heard-start olat heard start asked point leaf notes silent =
    silent_events olat (with_access heard (record { start = start; asked = asked }) (start + olat)) notes silent.starts
    silent.indices

-- a slot is due, and so is the choice at its end
pub record IsDue (p : Public) (pace : Pace) (start : ℕ) (asked chosen : Option ℕ) : Type 0 where
  pub start_is : start ≡ pace.beat.next
  pub chosen_is : chosen ≡ choice_next p pace asked

-- a slot behind which nothing is appended, and its events
abbrev pub bare_slot : ℕ → Option ℕ → Point → Option Message → Option ℕ → Numbers → Slot
bare_slot start asked point put chosen numbers = record {
  start = start;
  asked = asked;
  point = point;
  put = put;
  chosen = chosen;
  appended = None;
  left = numbers;
}

pub bare-events : (slot : Slot) (start : ℕ) (asked : Option ℕ) (point : Point) (put : Option Message)
    (chosen : Option ℕ) (numbers : Numbers) → slot ≡ bare_slot start asked point put chosen numbers
    → slot_events slot ++ [] ≡ Starts start asked ∷ Draws point ∷ (tags_of put ++ chooses_of chosen)
bare-events slot start asked point put chosen numbers same =
    append-nil (slot_events slot) ∙ ap slot_events same ∙ both put chosen
  where
    both : (put : Option Message) (chosen : Option ℕ)
        → slot_events (bare_slot start asked point put chosen numbers)
        ≡ Starts start asked ∷ Draws point ∷ (tags_of put ++ chooses_of chosen)
    both None None = refl
    both None (Some index) = refl
    both (Some message) None = refl
    both (Some message) (Some index) = refl

module _ (old new : List Event) (start : ℕ) (asked : Option ℕ) (point : Point) (put : Option Message) where
  pub slot-starts : (chosen : Option ℕ) → HasSlot old new start asked point put chosen
      → starts_of new ≡ starts_of old ++ start ∷ []
  slot-starts chosen h =
      ap starts_of h.events
      ∙ flat_map-append start_of old (Access start asked ∷ Drawn point h.leaf ∷ (h.notes ++ chosen_events chosen))
      ∙ ap (λ l. starts_of old ++ start ∷ l)
      (flat_map-append start_of h.notes (chosen_events chosen)
      ∙ ap (λ l. l ++ starts_of (chosen_events chosen)) h.silent.starts ∙ chosen-starts chosen)

  pub slot-indices : (chosen : Option ℕ) → HasSlot old new start asked point put chosen
      → indices_of new ≡ indices_of old ++ option_to_list chosen
  slot-indices chosen h =
      ap indices_of h.events
      ∙ flat_map-append index_of old (Access start asked ∷ Drawn point h.leaf ∷ (h.notes ++ chosen_events chosen))
      ∙ ap (λ l. indices_of old ++ l)
      (flat_map-append index_of h.notes (chosen_events chosen)
      ∙ ap (λ l. l ++ indices_of (chosen_events chosen)) h.silent.indices ∙ chosen-indices chosen)

  pub slot-said : (chosen : Option ℕ) → HasSlot old new start asked point put chosen
      → said_of_all new
      ≡ said_of_all old ++ (Starts start asked ∷ Draws point ∷ (tags_of put ++ chooses_of chosen))
  slot-said chosen h =
      ap said_of_all h.events
      ∙ flat_map-append said_of old (Access start asked ∷ Drawn point h.leaf ∷ (h.notes ++ chosen_events chosen))
      ∙ ap (λ l. said_of_all old ++ (Starts start asked ∷ Draws point ∷ l))
      (flat_map-append said_of h.notes (chosen_events chosen)
      ∙ ap (λ l. l ++ said_of_all (chosen_events chosen)) h.said
      ∙ ap (λ l. tags_of put ++ l) (chosen-said chosen))

  module _ (p : Public) (slots : List Slot) (pace : Pace) (paced : IsPace p slots pace)
      (said : said_of_all old ≡ play_events slots) (done : AreDone p new) where
    -- the code before the slot, and how many slots came before it
    abbrev code : ℕ
    code = code_in p slots

    abbrev n : ℕ
    n = length slots

    starts-before : starts_of old ≡ starts p code n
    starts-before = (log-shows old slots said).0 ∙ paced.starts

    indices-before : indices_of old ≡ indices_in slots
    indices-before = (log-shows old slots said).1

    starts-after : (chosen : Option ℕ) → HasSlot old new start asked point put chosen
        → starts_of new ≡ starts p code n ++ start ∷ []
    starts-after chosen h = slot-starts chosen h ∙ ap (λ l. l ++ start ∷ []) starts-before

    count-is : (chosen : Option ℕ) → HasSlot old new start asked point put chosen → done.count ≡ suc n
    count-is chosen h =
        let one : length (starts_of new) ≡ done.count =
        ap length done.begun ∙ length-starts p (events_code p new) done.count in
        let two : length (starts_of new) ≡ length (starts p code n ++ start ∷ []) = ap length (starts-after chosen h) in
        let three : length (starts p code n ++ start ∷ []) ≡ length (starts p code n) + 1 =
        length-append (starts p code n) (start ∷ []) in
        let four : length (starts p code n) ≡ n = length-starts p code n in
        omega (arith, one, two, three, four)

    -- the start is the timetable's, by a code that agrees on it
    start-by : (chosen : Option ℕ) → HasSlot old new start asked point put chosen
        → starts p (events_code p new) (suc n) ≡ starts p code (suc n) → start ≡ pace.beat.next
    start-by chosen h agree =
        let all : starts p code n ++ start ∷ [] ≡ starts p code n ++ start_at p code n ∷ [] =
        sym (starts-after chosen h) ∙ done.begun
        ∙ ap (λ k. starts p (events_code p new) k) (count-is chosen h) ∙ agree ∙ starts-next p code n in
        one-same start (start_at p code n)
        (append_cancel_left (starts p code n) (start ∷ []) (start_at p code n ∷ []) all)
        ∙ ap (λ (b : Beat). b.next) (sym paced.beat)

    -- without a choice
    code-without : HasSlot old new start asked point put None → events_code p new ≡ code
    code-without h =
        ap (code_of (count_of p)) (slot-indices None h ∙ append-nil (indices_of old) ∙ indices-before)

    none-fell : HasSlot old new start asked point put None
        → (beat_at p code (suc n)).choices ≡ (beat_at p code n).choices
    none-fell h =
        let after : length (indices_of new) ≡ (beat_at p code (suc n)).choices =
        done.fell ∙ ap (λ k. (beat_at p (events_code p new) k).choices) (count-is None h)
        ∙ ap (λ c. (beat_at p c (suc n)).choices) (code-without h) in
        let same : length (indices_of new) ≡ length (indices_in slots) =
        ap length (slot-indices None h ∙ append-nil (indices_of old) ∙ indices-before) in
        sym after ∙ same ∙ paced.fell ∙ ap (λ (b : Beat). b.choices) paced.beat

    falls-not : HasSlot old new start asked point put None → falls_next p pace.beat ≡ false
    falls-not h =
        elim (cases_Bool (falls_next p pace.beat)) [
          | inl some ↦ absurd (
              let more : (beat_at p code (suc n)).choices ≡ (beat_at p code n).choices + 1 =
              ap (λ (b : Beat). b.choices) (beat-chosen p code n (ap (falls_next p) (sym paced.beat) ∙ some)) in
              omega (arith, more, none-fell h))
          | inr none ↦ none
        ]

    abbrev rule_next : ℕ
    rule_next =
        let heard = heard_next p pace asked in
        learner_rule p.rates (olat_of p.levels) heard.accesses (heard.ended - heard.since)

    pub due-without : HasSlot old new start asked point put None → IsDue p pace start asked None
    due-without h = record {
      start_is = start-by None h (ap (λ c. starts p c (suc n)) (code-without h));
      chosen_is = sym (ap (λ b. cond {A = Option ℕ} b (Some rule_next) None) (falls-not h));
    }

    -- with one
    module _ (index : ℕ) (h : HasSlot old new start asked point put (Some index)) where
      indices-more : indices_of new ≡ indices_in slots ++ index ∷ []
      indices-more = slot-indices (Some index) h ∙ ap (λ l. l ++ index ∷ []) indices-before

      index-small : index < count_of p
      index-small =
          (All-pop (λ i. i < count_of p) (indices_of new) (indices_in slots) (Some index) indices-more done.indices).1

      digits : MoreDigits p n index code (indices_in slots)
      digits = more-digits p n index code (indices_in slots) refl paced.indices
          (paced.fell ∙ ap (λ (b : Beat). b.choices) paced.beat) index-small

      code-more : events_code p new ≡ code_of (count_of p) (indices_in slots ++ index ∷ [])
      code-more = ap (code_of (count_of p)) indices-more

      starts-more : starts p (events_code p new) (suc n) ≡ starts p code (suc n)
      starts-more =
          let few = paced.fell ∙ ap (λ (b : Beat). b.choices) paced.beat in
          ap (λ c. starts p c (suc n)) code-more
          ∙ sym (starts-agree p code (code_of (count_of p) (indices_in slots ++ index ∷ [])) (length (indices_in slots))
          n digits.agree (omega (arith, few)))

      beat-same : beat_at p (events_code p new) n ≡ pace.beat
      beat-same = ap (λ c. beat_at p c n) code-more ∙ sym digits.beat_is ∙ sym paced.beat

      one-fell : (beat_at p (events_code p new) (suc n)).choices ≡ pace.beat.choices + 1
      one-fell =
          let after : length (indices_of new) ≡ (beat_at p (events_code p new) (suc n)).choices =
          done.fell ∙ ap (λ k. (beat_at p (events_code p new) k).choices) (count-is (Some index) h) in
          let more : length (indices_of new) ≡ length (indices_in slots) + 1 =
          ap length indices-more ∙ length-append (indices_in slots) (index ∷ []) in
          let before : length (indices_in slots) ≡ pace.beat.choices = paced.fell in
          omega (arith, after, more, before)

      falls-here : falls_next p pace.beat ≡ true
      falls-here =
          elim (cases_Bool (falls_next p pace.beat)) [
            | inl some ↦ some
            | inr none ↦ absurd (
                let same : (beat_at p (events_code p new) (suc n)).choices
                ≡ (beat_at p (events_code p new) n).choices =
                ap (λ (b : Beat). b.choices)
                (beat-without p (events_code p new) n (ap (falls_next p) beat-same ∙ none)) in
                let here : (beat_at p (events_code p new) n).choices ≡ pace.beat.choices =
                ap (λ (b : Beat). b.choices) beat-same in
                omega (arith, same, here, one-fell))
          ]

      start-more : start ≡ pace.beat.next
      start-more = start-by (Some index) h starts-more

      heard-more : heard_of (olat_of p.levels) nothing_heard
          (old ++ (Access start asked ∷ Drawn point h.leaf ∷ h.notes)) ≡ heard_next p pace asked
      heard-more =
          heard_of_append (olat_of p.levels) nothing_heard old (Access start asked ∷ Drawn point h.leaf ∷ h.notes)
          ∙ heard-start (olat_of p.levels) (told_by p old) start asked point h.leaf h.notes h.silent
          ∙ ap (λ heard. with_access heard (record { start = start; asked = asked }) (start + olat_of p.levels))
          (log-tells p old slots said ∙ sym paced.heard)
          ∙ ap (λ s. with_access pace.heard (record { start = s; asked = asked }) (s + olat_of p.levels)) start-more

      rule-more : ChoosesByRule p new → index ≡ rule_next
      rule-more rule =
          let parts : new ≡ (old ++ (Access start asked ∷ Drawn point h.leaf ∷ h.notes)) ++ Chosen index ∷ [] =
          h.events
          ∙ sym (append_assoc old (Access start asked ∷ Drawn point h.leaf ∷ h.notes) (Chosen index ∷ [])) in
          by-rule-at p.rates (olat_of p.levels) nothing_heard
          (old ++ (Access start asked ∷ Drawn point h.leaf ∷ h.notes)) [] (Chosen index)
          (subst (ChoosesByRule p) parts rule)
          ∙ ap (λ (heard : Heard).
          learner_rule p.rates (olat_of p.levels) heard.accesses (heard.ended - heard.since)) heard-more

      pub due-with : ChoosesByRule p new → IsDue p pace start asked (Some index)
      due-with rule = record {
        start_is = start-more;
        chosen_is = ap Some (rule-more rule)
            ∙ sym (ap (λ b. cond {A = Option ℕ} b (Some rule_next) None) falls-here);
      }

    pub due : (chosen : Option ℕ) → HasSlot old new start asked point put chosen → ChoosesByRule p new
        → IsDue p pace start asked chosen
    due None h rule = due-without h
    due (Some index) h rule = due-with index h rule

    -- so the log says one slot more of a play
    pub said-more : (numbers : Numbers) (chosen : Option ℕ) → HasSlot old new start asked point put chosen
        → ChoosesByRule p new
        → said_of_all new ≡ play_events (slots ++ slot_next p pace numbers asked point put None ∷ [])
    said-more numbers chosen h rule =
        let d = due chosen h rule in
        let slot : Slot = slot_next p pace numbers asked point put None in
        let same : slot ≡ bare_slot start asked point put chosen numbers =
        (λ i. record {
          start = sym d.start_is i;
          asked = asked;
          point = point;
          put = put;
          chosen = sym d.chosen_is i;
          appended = None;
          left = numbers;
        }) in
        slot-said chosen h
        ∙ ap (λ l. l ++ (Starts start asked ∷ Draws point ∷ (tags_of put ++ chooses_of chosen))) said
        ∙ ap (λ l. play_events slots ++ l) (sym (bare-events slot start asked point put chosen numbers same))
        ∙ sym (flat_map-append slot_events slots (slot ∷ []))
