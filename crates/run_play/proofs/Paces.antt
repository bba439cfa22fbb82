-- How slots keep the timetable, one after another.
use Rattle.std.proofs.Common.{◌≡◌, ◌<◌, ◌≤◌, ℕ, suc, ◌+◌, true, false, List, [], ◌∷◌, ◌++◌, length, Option, Some}
use Rattle.std.proofs.Common.{None, refl, sym, ap, ◌∙◌, subst, arith, append-nil, length-append}
use Rattle.std.specs.Prelude.{option_to_list}
use Rattle.std.specs.List.{All}
use Rattle.std.proofs.lemmas.List.{map-append, get_or_append_left, get_or_push}
use Rattle.epoch_learner.specs.Heard.{Heard, nothing_heard, with_access}
use Rattle.std.proofs.lemmas.List.Sums.{sum_by-append}
use Rattle.std.proofs.lemmas.List.Concat.{flat_map-append}
use Rattle.std.proofs.lemmas.List.Elements.{All-nil, All-push}
use Rattle.asc_base.specs.TreeShape.{olat_of}
use Rattle.bus_schedule.specs.declared.beat.Beat.{Beat}
use Rattle.bus_schedule.specs.Shown.{code_of}
use Rattle.bus_schedule.specs.Timetable.{Public, AgreeTo, count_of, rate_at, digit_of, falls_next, beat_with, beat_at}
use Rattle.bus_schedule.specs.Timetable.{start_at, end_at, starts_from, starts}
use Rattle.bus_schedule.proofs.CodeLaws.{digit-of-code}
use Rattle.bus_schedule.proofs.ScheduledLaws.{beat-without, beat-chosen}
use Rattle.bus_schedule.proofs.TimetableLaws.{starts-next, beat-agrees, starts-agree}
use Rattle.run_play.specs.OnTime.{heard_slot, heard_slots, heard_in, IsPace}
use Rattle.run_play.specs.Slots.{Pace, first_pace, Slot, heard_then, dummy_count}
use Rattle.run_play.specs.PlayEvents.{starts_in, indices_in, dummies_in, code_in}

-- These slots were taken, by the code of the choices at their ends, up to this pace.
pub record Paced (p : Public) (slots : List Slot) (pace : Pace) : Type 0 where
  pub code : ℕ
  pub count : ℕ
  pub code_is : code ≡ code_in p slots
  pub counted : length slots ≡ count
  pub begun : starts_in slots ≡ starts p code count
  pub beat : pace.beat ≡ beat_at p code count
  pub heard : pace.heard ≡ heard_in p slots
  pub ended : pace.heard.ended ≡ end_at p code count
  pub dummies : pace.dummies ≡ dummies_in slots
  pub within : All (λ index. index < count_of p) (indices_in slots)
  pub fell : length (indices_in slots) ≡ (beat_at p code count).choices

-- this slot is next after a pace, and then comes that one, but for the timetable
pub record IsNext (p : Public) (pace next : Pace) (slot : Slot) : Type 0 where
  pub start : slot.start ≡ pace.beat.next
  pub heard : next.heard ≡ heard_slot (olat_of p.levels) pace.heard slot
  pub dummies : next.dummies ≡ pace.dummies + dummy_count slot.asked

-- none was
pub paced-none : (p : Public) → Paced p [] (first_pace p)
unfolding starts starts_from beat_at code_of heard_slots
paced-none p = record {
  code = 0;
  count = 0;
  code_is = refl;
  counted = refl;
  begun = refl;
  beat = refl;
  heard = refl;
  ended = refl;
  dummies = refl;
  within = All-nil (λ index. index < count_of p);
  fell = refl;
}

one-more : (slots : List Slot) (slot : Slot) (n : ℕ) → length slots ≡ n → length (slots ++ slot ∷ []) ≡ suc n
one-more slots slot n counted = omega (arith, length-append slots (slot ∷ []), counted)

indices-more : (slots : List Slot) (slot : Slot) (chosen : Option ℕ) → slot.chosen ≡ chosen
    → indices_in (slots ++ slot ∷ []) ≡ indices_in slots ++ option_to_list chosen
indices-more slots slot chosen is =
    flat_map-append (λ (s : Slot). option_to_list s.chosen) slots (slot ∷ [])
    ∙ ap (λ l. indices_in slots ++ l) (append-nil (option_to_list slot.chosen))
    ∙ ap (λ o. indices_in slots ++ option_to_list o) is

starts-more : (p : Public) (slots : List Slot) (pace : Pace) (slot : Slot) → (h : Paced p slots pace)
    → slot.start ≡ pace.beat.next → starts_in (slots ++ slot ∷ []) ≡ starts p h.code (suc h.count)
starts-more p slots pace slot h at =
    map-append (λ (s : Slot). s.start) slots (slot ∷ [])
    ∙ ap (λ s. starts_in slots ++ s ∷ []) (at ∙ ap (λ (b : Beat). b.next) h.beat)
    ∙ ap (λ l. l ++ start_at p h.code h.count ∷ []) h.begun
    ∙ sym (starts-next p h.code h.count)

pub heard-ended : (heard : Heard) (chosen : Option ℕ) → (heard_then heard chosen).ended ≡ heard.ended
heard-ended heard None = refl
heard-ended heard (Some index) = refl

ended-more : (p : Public) (slots : List Slot) (pace next : Pace) (slot : Slot) → (h : Paced p slots pace)
    → IsNext p pace next slot → next.heard.ended ≡ end_at p h.code (suc h.count)
ended-more p slots pace next slot h n =
    ap (λ (heard : Heard). heard.ended) n.heard
    ∙ heard-ended (with_access pace.heard (record { start = slot.start; asked = slot.asked })
    (slot.start + olat_of p.levels)) slot.chosen
    ∙ ap (λ start. start + olat_of p.levels) (n.start ∙ ap (λ (b : Beat). b.next) h.beat)

pub heard-last : (olat : ℕ) (heard : Heard) (slots : List Slot) (slot : Slot)
    → heard_slots olat heard (slots ++ slot ∷ []) ≡ heard_slot olat (heard_slots olat heard slots) slot
unfolding heard_slots
heard-last olat heard [] slot = refl
heard-last olat heard (first ∷ slots) slot = heard-last olat (heard_slot olat heard first) slots slot

heard-more : (p : Public) (slots : List Slot) (pace next : Pace) (slot : Slot) → (h : Paced p slots pace)
    → IsNext p pace next slot → next.heard ≡ heard_in p (slots ++ slot ∷ [])
heard-more p slots pace next slot h n =
    n.heard ∙ ap (λ heard. heard_slot (olat_of p.levels) heard slot) h.heard
    ∙ sym (heard-last (olat_of p.levels) nothing_heard slots slot)

dummies-more : (p : Public) (slots : List Slot) (pace next : Pace) (slot : Slot) → (h : Paced p slots pace)
    → IsNext p pace next slot → next.dummies ≡ dummies_in (slots ++ slot ∷ [])
dummies-more p slots pace next slot h n =
    let all : dummies_in (slots ++ slot ∷ []) ≡ dummies_in slots + dummies_in (slot ∷ []) =
    sum_by-append (λ (s : Slot). dummy_count s.asked) slots (slot ∷ []) in
    omega (arith, n.dummies, h.dummies, all)

-- a slot more, at whose end no choice falls
pub paced-without : (p : Public) (slots : List Slot) (pace next : Pace) (slot : Slot) → Paced p slots pace
    → falls_next p pace.beat ≡ false → IsNext p pace next slot → slot.chosen ≡ None
    → next.beat ≡ beat_with p pace.beat pace.beat.rate pace.beat.choices → Paced p (slots ++ slot ∷ []) next
paced-without p slots pace next slot h none n chosen beat =
    let same : indices_in (slots ++ slot ∷ []) ≡ indices_in slots =
    indices-more slots slot None chosen ∙ append-nil (indices_in slots) in
    let beat_is : beat_at p h.code (suc h.count)
    ≡ beat_with p (beat_at p h.code h.count) (beat_at p h.code h.count).rate (beat_at p h.code h.count).choices =
    beat-without p h.code h.count (ap (falls_next p) (sym h.beat) ∙ none) in
    record {
      code = h.code;
      count = suc h.count;
      code_is = h.code_is ∙ ap (code_of (count_of p)) (sym same);
      counted = one-more slots slot h.count h.counted;
      begun = starts-more p slots pace slot h n.start;
      beat = beat ∙ ap (λ (b : Beat). beat_with p b b.rate b.choices) h.beat ∙ sym beat_is;
      heard = heard-more p slots pace next slot h n;
      ended = ended-more p slots pace next slot h n;
      dummies = dummies-more p slots pace next slot h n;
      within = subst (λ l. All (λ index. index < count_of p) l) (sym same) h.within;
      fell = ap length same ∙ h.fell ∙ ap (λ (b : Beat). b.choices) (sym beat_is);
    }

-- ---- a choice more
pub record MoreDigits (p : Public) (n index code : ℕ) (digits : List ℕ) : Type 0 where
  pub within : All (λ i. i < count_of p) (digits ++ index ∷ [])
  pub agree : AgreeTo p code (code_of (count_of p) (digits ++ index ∷ [])) (length digits)
  pub beat_is : beat_at p code n ≡ beat_at p (code_of (count_of p) (digits ++ index ∷ [])) n
  pub digit : digit_of (code_of (count_of p) (digits ++ index ∷ [])) (count_of p)
      (beat_at p (code_of (count_of p) (digits ++ index ∷ [])) n).choices ≡ index

pub more-digits : (p : Public) (n index code : ℕ) (digits : List ℕ) → code ≡ code_of (count_of p) digits
    → All (λ i. i < count_of p) digits → length digits ≡ (beat_at p code n).choices → index < count_of p
    → MoreDigits p n index code digits
more-digits p n index code digits is all fell small =
    let base : ℕ = count_of p in
    let new : ℕ = code_of base (digits ++ index ∷ []) in
    let within : All (λ i. i < count_of p) (digits ++ index ∷ []) =
    All-push (λ i. i < count_of p) digits index all small in
    let more : length (digits ++ index ∷ []) ≡ length digits + 1 = length-append digits (index ∷ []) in
    let agree : AgreeTo p code new (length digits) =
    (λ place below.
    ap (λ c. digit_of c base place) is
    ∙ digit-of-code base digits place all below
    ∙ sym (get_or_append_left digits (index ∷ []) 0 place below)
    ∙ sym (digit-of-code base (digits ++ index ∷ []) place within (omega arith))) in
    let beat_is : beat_at p code n ≡ beat_at p new n =
    beat-agrees p code new (length digits) n agree (omega (arith, fell)) in
    let place : (beat_at p new n).choices ≡ length digits =
    ap (λ (b : Beat). b.choices) (sym beat_is) ∙ sym fell in
    record {
      within = within;
      agree = agree;
      beat_is = beat_is;
      digit = ap (digit_of new base) place
          ∙ digit-of-code base (digits ++ index ∷ []) (length digits) within (omega arith)
          ∙ get_or_push digits index 0 (length digits) refl;
    }

-- a slot more, at whose end this index is chosen
pub paced-chosen : (p : Public) (slots : List Slot) (pace next : Pace) (slot : Slot) (index : ℕ) → Paced p slots pace
    → falls_next p pace.beat ≡ true → index < count_of p → IsNext p pace next slot → slot.chosen ≡ Some index
    → next.beat ≡ beat_with p pace.beat (rate_at p.rates index) (pace.beat.choices + 1)
    → Paced p (slots ++ slot ∷ []) next
paced-chosen p slots pace next slot index h some small n chosen beat =
    let digits : List ℕ = indices_in slots in
    let new : ℕ = code_of (count_of p) (digits ++ index ∷ []) in
    let m : MoreDigits p h.count index h.code digits =
    more-digits p h.count index h.code digits h.code_is h.within h.fell small in
    let indices : indices_in (slots ++ slot ∷ []) ≡ digits ++ index ∷ [] =
    indices-more slots slot (Some index) chosen in
    let beat_is : beat_at p new (suc h.count)
    ≡ beat_with p (beat_at p new h.count) (rate_at p.rates index) ((beat_at p new h.count).choices + 1) =
    beat-chosen p new h.count (ap (falls_next p) (sym (h.beat ∙ m.beat_is)) ∙ some)
    ∙ ap
    (λ i. beat_with p (beat_at p new h.count) (rate_at p.rates i) ((beat_at p new h.count).choices + 1)) m.digit in
    let few : (beat_at p h.code h.count).choices ≤ length digits = omega (arith, h.fell) in
    let same : starts p h.code (suc h.count) ≡ starts p new (suc h.count) =
    starts-agree p h.code new (length digits) h.count m.agree few in
    record {
      code = new;
      count = suc h.count;
      code_is = ap (code_of (count_of p)) (sym indices);
      counted = one-more slots slot h.count h.counted;
      begun = starts-more p slots pace slot h n.start ∙ same;
      beat = beat
          ∙ ap (λ (b : Beat). beat_with p b (rate_at p.rates index) (b.choices + 1)) (h.beat ∙ m.beat_is)
          ∙ sym beat_is;
      heard = heard-more p slots pace next slot h n;
      ended = ended-more p slots pace next slot h n
          ∙ ap (λ (b : Beat). b.next + olat_of p.levels) m.beat_is;
      dummies = dummies-more p slots pace next slot h n;
      within = subst (λ l. All (λ i. i < count_of p) l) (sym indices) m.within;
      fell = ap length indices ∙ length-append digits (index ∷ [])
          ∙ ap (λ k. k + 1) (h.fell ∙ ap (λ (b : Beat). b.choices) m.beat_is)
          ∙ ap (λ (b : Beat). b.choices) (sym beat_is);
    }

-- what is said of it
pub is-pace : (p : Public) (slots : List Slot) (pace : Pace) → Paced p slots pace → IsPace p slots pace
is-pace p slots pace h =
    let beat : pace.beat ≡ beat_at p (code_in p slots) (length slots) =
    h.beat ∙ ap (λ n. beat_at p h.code n) (sym h.counted) ∙ ap (λ c. beat_at p c (length slots)) h.code_is in
    record {
      starts = h.begun ∙ ap (λ n. starts p h.code n) (sym h.counted)
          ∙ ap (λ c. starts p c (length slots)) h.code_is;
      beat = beat;
      heard = h.heard;
      ended = h.ended ∙ ap (λ n. end_at p h.code n) (sym h.counted) ∙ ap (λ c. end_at p c (length slots)) h.code_is;
      dummies = h.dummies;
      indices = h.within;
      fell = h.fell ∙ ap (λ (b : Beat). b.choices) (sym h.beat);
    }

pub from-pace : (p : Public) (slots : List Slot) (pace : Pace) → IsPace p slots pace → Paced p slots pace
from-pace p slots pace h = record {
  code = code_in p slots;
  count = length slots;
  code_is = refl;
  counted = refl;
  begun = h.starts;
  beat = h.beat;
  heard = h.heard;
  ended = h.ended;
  dummies = h.dummies;
  within = h.indices;
  fell = h.fell ∙ ap (λ (b : Beat). b.choices) h.beat;
}
