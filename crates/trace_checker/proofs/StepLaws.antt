-- What is known after each step of the checker.
use Rattle.std.proofs.Common.{◌≡◌, ℕ, zero, suc, ◌+◌, ◌-◌, ◌*◌, ◌^◌, ◌<◌, ◌≤◌, true, false, List, length, refl}
use Rattle.std.proofs.Common.{sym, ◌∙◌, ap, subst, arith, inl, inr, Some}
use Rattle.std.specs.Prelude.{slice_get}
use Rattle.std.specs.List.Sorted.{IsStrictlyIncreasing}
use Rattle.std.proofs.Math.Nat.{pow-succ'}
use Rattle.std.proofs.lemmas.Bool.{cases_lt}
use Rattle.std.proofs.lemmas.Nat.{mul-le, mod_below}
use Rattle.bus_schedule.specs.declared.beat.Beat.{Beat}
use Rattle.bus_schedule.specs.Timetable.{Public, AgreeTo, count_of, rate_at, digit_of, falls_next, beat_with}
use Rattle.bus_schedule.specs.Timetable.{beat_after, beat_at, start_at, starts}
use Rattle.bus_schedule.proofs.CodeLaws.{digit-lower, digit-highest}
use Rattle.bus_schedule.proofs.Digits.{rate-tells}
use Rattle.bus_schedule.proofs.TimetableLaws.{beat_if, beat-agrees, starts-agree}
use Rattle.bus_trace.specs.Trace.{TraceLists}
use Rattle.bus_trace.specs.Grammar.{IsTrace}
use Rattle.bus_trace.specs.declared.trace.Seen.{Seen}
use Rattle.trace_checker.specs.Checker.{Allows, IsAllowed, IsLeast, IsMost, Next, moves_by}
use Rattle.trace_checker.specs.Steps.{start_with, with_index, KnownAt, OpenAt, SlotAt}
use Rattle.trace_checker.specs.declared.progress.Slot.{Slot}
use Rattle.trace_checker.proofs.HeaderLaws.{some_count, rates_rise}
use Rattle.trace_checker.proofs.Allowed.{AllowsLast, allows_last, allows_more, allows_same}

-- ---- one slot of the timetable

after_open : (p : Public) (beat : Beat) (index : ℕ) → falls_next p beat ≡ true
    → beat_after p beat index ≡ beat_with p beat (rate_at p.rates index) (beat.choices + 1)
after_open p beat index fell = ap (beat_if p beat index) fell

after_kept : (p : Public) (beat : Beat) (index : ℕ) → falls_next p beat ≡ false
    → beat_after p beat index ≡ beat_with p beat beat.rate beat.choices
after_kept p beat index fell = ap (beat_if p beat index) fell

-- a start after a choice
pub open_next : (p : Public) (beat : Beat) (index : ℕ) → falls_next p beat ≡ true
    → (beat_after p beat index).next ≡ start_with p beat index
open_next p beat index fell = ap (λ (b : Beat). b.next) (after_open p beat index fell)

pub open_choices : (p : Public) (beat : Beat) (index : ℕ) → falls_next p beat ≡ true
    → (beat_after p beat index).choices ≡ beat.choices + 1
open_choices p beat index fell = ap (λ (b : Beat). b.choices) (after_open p beat index fell)

kept_choices : (p : Public) (beat : Beat) (index : ℕ) → falls_next p beat ≡ false
    → (beat_after p beat index).choices ≡ beat.choices
kept_choices p beat index fell = ap (λ (b : Beat). b.choices) (after_kept p beat index fell)

-- the next one, by a code
pub beat_then : (p : Public) (code last : ℕ) (before : Beat) → before ≡ beat_at p code last
    → beat_at p code (suc last) ≡ beat_after p before (digit_of code (count_of p) before.choices)
unfolding beat_at
beat_then p code last before is =
    ap (λ (b : Beat). beat_after p b (digit_of code (count_of p) b.choices)) (sym is)

-- a digit that is none yet
digit_none : (p : Public) (code places : ℕ) → 1 ≤ count_of p → code < count_of p ^ places
    → digit_of code (count_of p) places ≡ 0
digit_none p code places some fits =
    let same : code + 0 * count_of p ^ places ≡ code = omega arith in
    ap (λ c. digit_of c (count_of p) places) (sym same)
    ∙ digit-highest (count_of p) code places 0 fits (omega arith)

pub digit_small : (p : Public) (code places : ℕ) → 1 ≤ count_of p → digit_of code (count_of p) places < count_of p
digit_small p code places some = mod_below _ (count_of p) some

-- rates rise
rate_up : (rates : List ℕ) (i more : ℕ) → IsStrictlyIncreasing rates → i + more < length rates
    → rate_at rates i ≤ rate_at rates (i + more)
rate_up rates i zero rise within = omega (arith, ap (rate_at rates) (let e : i + 0 ≡ i = omega arith in e))
rate_up rates i (suc more) rise within =
    let low = rate_up rates i more rise (omega arith) in
    let step = rise (i + more) (omega arith) in
    let same : i + more + 1 ≡ i + suc more = omega arith in
    omega (arith, low, step, ap (rate_at rates) same)

pub rate_le : (rates : List ℕ) (i j : ℕ) → IsStrictlyIncreasing rates → i ≤ j → j < length rates
    → rate_at rates i ≤ rate_at rates j
rate_le rates i j rise up within =
    let same : i + (j - i) ≡ j = omega arith in
    omega (arith, rate_up rates i (j - i) rise (omega arith), ap (rate_at rates) same)

-- ---- what other codes have that allow as many lines

known_same : (t : TraceLists) (k code : ℕ) (beat : Beat) (other : ℕ) → KnownAt t k code beat → Allows t k other
    → beat ≡ beat_at t.header other k
known_same t k code beat other known allows =
    known.beat_is
    ∙ beat-agrees t.header code other beat.choices k (known.others other allows)
    (omega (arith, ap (λ (b : Beat). b.choices) known.beat_is))

open_same : (t : TraceLists) (k code : ℕ) (before : Beat) (other : ℕ) (opened : OpenAt t k code before)
    → Allows t k other
    → before ≡ beat_at t.header other opened.last
open_same t k code before other opened allows =
    opened.before_is
    ∙ beat-agrees t.header code other before.choices opened.last (opened.others other allows)
    (omega (arith, ap (λ (b : Beat). b.choices) opened.before_is))

-- where a choice fell, the next start is that of the digit
pub open_start : (t : TraceLists) (k code : ℕ) (before : Beat) (other : ℕ) → OpenAt t k code before → Allows t k other
    → start_at t.header other k ≡ start_with t.header before (digit_of other (count_of t.header) before.choices)
open_start t k code before other opened allows =
    ap (start_at t.header other) opened.is_last
    ∙ ap (λ (b : Beat). b.next) (beat_then t.header other opened.last before
    (open_same t k code before other opened allows))
    ∙ open_next t.header before (digit_of other (count_of t.header) before.choices) opened.falls

-- ---- the next slot, with a start

-- which is known
pub known_slot : (t : TraceLists) (k code : ℕ) (beat : Beat) (start : ℕ) (slot : Slot) → KnownAt t k code beat
    → beat.next ≡ start → slot.code ≡ code → slot.beat ≡ beat → SlotAt t k slot start
known_slot t k code beat start slot known starts code_is beat_is = record {
  allows = subst (Allows t k) (sym code_is) known.allows;
  beat_is = beat_is ∙ known.beat_is ∙ ap (λ c. beat_at t.header c k) (sym code_is);
  fits = subst (λ (b : Beat). slot.code < count_of t.header ^ b.choices) (sym beat_is)
      (subst (λ c. c < count_of t.header ^ beat.choices) (sym code_is) known.fits);
  next = ap (λ (b : Beat). b.next) beat_is ∙ starts;
  others = λ other allows same.
      (subst (λ (b : Beat). AgreeTo t.header slot.code other b.choices) (sym beat_is)
      (subst (λ c. AgreeTo t.header c other beat.choices) (sym code_is) (known.others other allows)));
}

-- or which a rate of this index gives
pub with_index_fits : (base code places index : ℕ) → code < base ^ places → index < base
    → code + index * base ^ places < base ^ (places + 1)
with_index_fits base code places index fits within =
    let weight : (index + 1) * base ^ places ≤ base * base ^ places =
    mul-le (index + 1) (base ^ places) base (base ^ places) (omega arith) (omega arith) in
    let one : (index + 1) * base ^ places ≡ index * base ^ places + base ^ places = omega arith in
    let all : base ^ (places + 1) ≡ base * base ^ places =
    ap (λ n. base ^ n) (let e : places + 1 ≡ suc places = omega arith in e) ∙ pow-succ' base places in
    omega (arith, weight, one, all, fits)

-- the code with the index has the digits that are known
pub index_agrees : (p : Public) (code places index : ℕ) → 1 ≤ count_of p
    → AgreeTo p code (with_index p code places index) places
index_agrees p code places index some =
    λ place below. sym (digit-lower (count_of p) code places index place some below)

pub index_digit : (p : Public) (code places index : ℕ) → code < count_of p ^ places → index < count_of p
    → digit_of (with_index p code places index) (count_of p) places ≡ index
index_digit p code places index fits within = digit-highest (count_of p) code places index fits within

pub index_before : (t : TraceLists) (k code : ℕ) (before : Beat) (index : ℕ) (opened : OpenAt t k code before)
    → 1 ≤ count_of t.header → before ≡ beat_at t.header (with_index t.header code before.choices index) opened.last
index_before t k code before index opened some =
    opened.before_is
    ∙ beat-agrees t.header code (with_index t.header code before.choices index) before.choices opened.last
    (index_agrees t.header code before.choices index some)
    (omega (arith, ap (λ (b : Beat). b.choices) opened.before_is))

pub index_allows : (t : TraceLists) (k code : ℕ) (before : Beat) (index : ℕ) → OpenAt t k code before
    → 1 ≤ count_of t.header → k ≤ length t.accesses → Allows t k (with_index t.header code before.choices index)
index_allows t k code before index opened some within =
    allows_same t k code (with_index t.header code before.choices index) within opened.allows
    (ap (starts t.header code) opened.is_last
    ∙ starts-agree t.header code (with_index t.header code before.choices index) before.choices opened.last
    (index_agrees t.header code before.choices index some)
    (omega (arith, ap (λ (b : Beat). b.choices) opened.before_is))
    ∙ ap (starts t.header (with_index t.header code before.choices index)) (sym opened.is_last))

pub index_beat : (t : TraceLists) (k code : ℕ) (before : Beat) (index : ℕ) → OpenAt t k code before
    → 1 ≤ count_of t.header → index < count_of t.header
    → beat_after t.header before index ≡ beat_at t.header (with_index t.header code before.choices index) k
index_beat t k code before index opened some within =
    let other = with_index t.header code before.choices index in
    ap (beat_after t.header before) (sym (index_digit t.header code before.choices index opened.fits within))
    ∙ sym (beat_then t.header other opened.last before (index_before t k code before index opened some))
    ∙ ap (beat_at t.header other) (sym opened.is_last)

-- its start
pub index_start : (t : TraceLists) (k code : ℕ) (before : Beat) (index : ℕ) → OpenAt t k code before
    → 1 ≤ count_of t.header → index < count_of t.header
    → start_at t.header (with_index t.header code before.choices index) k ≡ start_with t.header before index
index_start t k code before index opened some within =
    ap (λ (b : Beat). b.next) (sym (index_beat t k code before index opened some within))
    ∙ open_next t.header before index opened.falls

-- and its digits are those of each other code that allows as many and has the start
pub index_others : (t : TraceLists) (k code : ℕ) (before : Beat) (index other : ℕ) → OpenAt t k code before
    → IsStrictlyIncreasing t.header.rates → 1 ≤ count_of t.header → index < count_of t.header → Allows t k other
    → digit_of other (count_of t.header) before.choices ≡ index
    → AgreeTo t.header (with_index t.header code before.choices index) other (before.choices + 1)
index_others t k code before index other opened rise some within allows digit place below =
    elim (cases_lt place before.choices) [
      | inl lower ↦
          digit-lower (count_of t.header) code before.choices index place some lower
          ∙ opened.others other allows place lower
      | inr top ↦
          (let here : before.choices ≡ place = omega (arith, top, below) in
          subst (λ n. digit_of (with_index t.header code before.choices index) (count_of t.header) n
          ≡ digit_of other (count_of t.header) n) here
          (index_digit t.header code before.choices index opened.fits within ∙ sym digit))
    ]

same_index : (t : TraceLists) (k code : ℕ) (before : Beat) (index other : ℕ) → OpenAt t k code before
    → IsStrictlyIncreasing t.header.rates → 1 ≤ count_of t.header → index < count_of t.header → Allows t k other
    → start_at t.header other k ≡ start_with t.header before index
    → digit_of other (count_of t.header) before.choices ≡ index
same_index t k code before index other opened rise some within allows starts =
    let digit = digit_of other (count_of t.header) before.choices in
    rate-tells t.header.rates digit index rise (digit_small t.header other before.choices some) within
    (omega (arith, open_start t k code before other opened allows, starts))

pub open_slot : (t : TraceLists) (k code : ℕ) (before : Beat) (start index : ℕ) (slot : Slot) → IsTrace t
    → k ≤ length t.accesses → OpenAt t k code before → index < count_of t.header
    → start_with t.header before index ≡ start → slot.code ≡ with_index t.header code before.choices index
    → slot.beat ≡ beat_after t.header before index → SlotAt t k slot start
open_slot t k code before start index slot is within opened small starts code_is beat_is =
    let some = (some_count t.header is.header).0 in
    let rise = rates_rise t.header is.header in
    let choices : slot.beat.choices ≡ before.choices + 1 =
    ap (λ (b : Beat). b.choices) beat_is ∙ open_choices t.header before index opened.falls in
    record {
      allows = subst (Allows t k) (sym code_is) (index_allows t k code before index opened some within);
      beat_is = beat_is ∙ index_beat t k code before index opened some small
          ∙ ap (λ c. beat_at t.header c k) (sym code_is);
      fits = subst (λ n. slot.code < count_of t.header ^ n) (sym choices)
          (subst (λ c. c < count_of t.header ^ (before.choices + 1)) (sym code_is)
          (with_index_fits (count_of t.header) code before.choices index opened.fits small));
      next = ap (λ (b : Beat). b.next) beat_is ∙ open_next t.header before index opened.falls ∙ starts;
      others = λ other allows same.
          (subst (λ n. AgreeTo t.header slot.code other n) (sym choices)
          (subst (λ c. AgreeTo t.header c other (before.choices + 1)) (sym code_is)
          (index_others t k code before index other opened rise some small allows
          (same_index t k code before index other opened rise some small allows (same ∙ sym starts)))));
    }

-- ---- no slot, with a start

pub known_none : (t : TraceLists) (k code : ℕ) (beat : Beat) (start : ℕ) → KnownAt t k code beat
    → ¬ (beat.next ≡ start) → ¬ Next t k start
known_none t k code beat start known not = λ next.
    not (ap (λ (b : Beat). b.next) (known_same t k code beat next.code known next.allows) ∙ next.starts)

pub open_none : (t : TraceLists) (k code : ℕ) (before : Beat) (start : ℕ) → IsTrace t → OpenAt t k code before
    → ((index : ℕ) → index < count_of t.header → start_with t.header before index ≡ start → ⊥) → ¬ Next t k start
open_none t k code before start is opened none = λ next.
    none (digit_of next.code (count_of t.header) before.choices)
    (digit_small t.header next.code before.choices (some_count t.header is.header).0)
    (sym (open_start t k code before next.code opened next.allows) ∙ next.starts)

pub known_next : (t : TraceLists) (k code : ℕ) (beat : Beat) → KnownAt t k code beat → Next t k beat.next
known_next t k code beat known = record {
  code = code;
  allows = known.allows;
  starts = ap (λ (b : Beat). b.next) (sym known.beat_is);
}

pub known_least : (t : TraceLists) (k code : ℕ) (beat : Beat) → KnownAt t k code beat → IsLeast (Next t k) beat.next
known_least t k code beat known = record {
  has = known_next t k code beat known;
  least = λ other next.
      omega (arith, ap (λ (b : Beat). b.next) (known_same t k code beat next.code known next.allows), next.starts);
}

pub known_most : (t : TraceLists) (k code : ℕ) (beat : Beat) → KnownAt t k code beat → IsMost (Next t k) beat.next
known_most t k code beat known = record {
  has = known_next t k code beat known;
  most = λ other next.
      omega (arith, ap (λ (b : Beat). b.next) (known_same t k code beat next.code known next.allows), next.starts);
}

pub index_next : (t : TraceLists) (k code : ℕ) (before : Beat) (index : ℕ) → OpenAt t k code before
    → 1 ≤ count_of t.header → index < count_of t.header → k ≤ length t.accesses
    → Next t k (start_with t.header before index)
index_next t k code before index opened some small within = record {
  code = with_index t.header code before.choices index;
  allows = index_allows t k code before index opened some within;
  starts = index_start t k code before index opened some small;
}

pub open_least : (t : TraceLists) (k code : ℕ) (before : Beat) → IsTrace t → OpenAt t k code before
    → k ≤ length t.accesses → IsLeast (Next t k) (start_with t.header before 0)
open_least t k code before is opened within =
    let some = (some_count t.header is.header).0 in
    let rise = rates_rise t.header is.header in
    record {
      has = index_next t k code before 0 opened some (omega arith) within;
      least = λ other next.
          omega (
            arith,
            open_start t k code before next.code opened next.allows,
            next.starts,
            rate_le t.header.rates 0 (digit_of next.code (count_of t.header) before.choices) rise (omega arith)
                (digit_small t.header next.code before.choices some),
          );
    }

pub open_most : (t : TraceLists) (k code : ℕ) (before : Beat) → IsTrace t → OpenAt t k code before
    → k ≤ length t.accesses → IsMost (Next t k) (start_with t.header before (count_of t.header - 1))
open_most t k code before is opened within =
    let some = (some_count t.header is.header).0 in
    let rise = rates_rise t.header is.header in
    record {
      has = index_next t k code before (count_of t.header - 1) opened some (omega (arith, some)) within;
      most = λ other next.
          (let small = digit_small t.header next.code before.choices some in
          omega (
            arith,
            open_start t k code before next.code opened next.allows,
            next.starts,
            rate_le t.header.rates (digit_of next.code (count_of t.header) before.choices) (count_of t.header - 1) rise
                (omega (arith, small)) (omega (arith, some)),
          ));
    }

-- ---- behind a slot

slot_allows : (t : TraceLists) (k : ℕ) (slot : Slot) (seen : Seen) → SlotAt t k slot seen.start
    → slice_get t.accesses k ≡ Some seen → moves_by t.header t.end seen.start ≡ seen.moves → 1 ≤ seen.moves
    → Allows t (suc k) slot.code
slot_allows t k slot seen at shows moves some =
    subst (λ n. Allows t n slot.code) (let e : k + 1 ≡ suc k = omega arith in e)
    (allows_more t k slot.code seen at.allows shows (ap (λ (b : Beat). b.next) (sym at.beat_is) ∙ at.next) moves some)

last_of : (t : TraceLists) (k other : ℕ) (seen : Seen) → slice_get t.accesses k ≡ Some seen → Allows t (suc k) other
    → AllowsLast t k other seen
last_of t k other seen shows allows =
    allows_last t k other seen (subst (λ n. Allows t n other) (let e : suc k ≡ k + 1 = omega arith in e) allows) shows

slot_others : (t : TraceLists) (k : ℕ) (slot : Slot) (seen : Seen) → SlotAt t k slot seen.start
    → slice_get t.accesses k ≡ Some seen
    → (other : ℕ) → Allows t (suc k) other → AgreeTo t.header slot.code other slot.beat.choices
slot_others t k slot seen at shows other allows =
    let last = last_of t k other seen shows allows in
    at.others other last.before last.starts

pub slot_known : (t : TraceLists) (k : ℕ) (slot : Slot) (seen : Seen) → IsTrace t → SlotAt t k slot seen.start
    → slice_get t.accesses k ≡ Some seen → moves_by t.header t.end seen.start ≡ seen.moves → 1 ≤ seen.moves
    → falls_next t.header slot.beat ≡ false → KnownAt t (suc k) slot.code (beat_after t.header slot.beat 0)
slot_known t k slot seen is at shows moves many kept =
    let some = (some_count t.header is.header).0 in
    let digit = digit_none t.header slot.code slot.beat.choices some at.fits in
    let choices = kept_choices t.header slot.beat 0 kept in
    record {
      allows = slot_allows t k slot seen at shows moves many;
      beat_is = ap (beat_after t.header slot.beat) (sym digit)
          ∙ sym (beat_then t.header slot.code k slot.beat at.beat_is);
      fits = subst (λ n. slot.code < count_of t.header ^ n) (sym choices) at.fits;
      others = λ other allows.
          subst (λ n. AgreeTo t.header slot.code other n) (sym choices)
          (slot_others t k slot seen at shows other allows);
      kept = λ last same.
          (let here : k ≡ last = omega (arith, same) in
          ap (λ n. falls_next t.header (beat_at t.header slot.code n)) (sym here)
          ∙ ap (falls_next t.header) (sym at.beat_is) ∙ kept);
    }

pub slot_open : (t : TraceLists) (k : ℕ) (slot : Slot) (seen : Seen) → SlotAt t k slot seen.start
    → slice_get t.accesses k ≡ Some seen → moves_by t.header t.end seen.start ≡ seen.moves → 1 ≤ seen.moves
    → falls_next t.header slot.beat ≡ true → OpenAt t (suc k) slot.code slot.beat
slot_open t k slot seen at shows moves many fell = record {
  last = k;
  is_last = refl;
  allows = slot_allows t k slot seen at shows moves many;
  before_is = at.beat_is;
  falls = fell;
  fits = at.fits;
  others = slot_others t k slot seen at shows;
}

-- ---- a line that no code allows

pub no_start : (t : TraceLists) (k : ℕ) (seen : Seen) → slice_get t.accesses k ≡ Some seen → ¬ Next t k seen.start
    → ¬ IsAllowed t (suc k)
no_start t k seen shows none = λ allowed.
    let last = last_of t k allowed.0 seen shows allowed.1 in
    none (record { code = allowed.0; allows = last.before; starts = last.starts })

pub no_moves : (t : TraceLists) (k : ℕ) (seen : Seen) → slice_get t.accesses k ≡ Some seen
    → ¬ (moves_by t.header t.end seen.start ≡ seen.moves) → ¬ IsAllowed t (suc k)
no_moves t k seen shows not = λ allowed. not (last_of t k allowed.0 seen shows allowed.1).moves
