-- How many choices fall, and how many timetables they leave.
use Rattle.std.proofs.Common.{◌≡◌, ◌↔◌, ℕ, zero, suc, ◌+◌, ◌*◌, ◌/◌, ◌%◌, ◌^◌, ◌<◌, ◌≤◌, Bool, true, false, cond}
use Rattle.std.proofs.Common.{refl, sym, ◌∙◌, ap, arith, inl, inr}
use Rattle.std.specs.Prelude.{nat_lt, nat_le}
use Rattle.std.proofs.Math.Nat.{pow-zero, pow-suc, one-le-pow, mul-div-le, div-eq_of_lt, mul-zero, max-eq_right}
use Rattle.std.proofs.Math.Pow.{pow_mono}
use Rattle.std.proofs.lemmas.Bool.{cases_Bool, and_parts, and_from, lt-ltb, cases_lt, ltb-true, le-leb, lt-leb}
use Rattle.std.proofs.lemmas.Nat.{pow_pos, pow-add, mul-le, mod_below}
use Rattle.asc_base.specs.TreeShape.{olat_of}
use Rattle.asc_base.proofs.Extremes.{greatest_is}
use Rattle.asc_base.proofs.Levels.{lt-pow}
use Rattle.bus_schedule.specs.declared.beat.Beat.{Beat}
use Rattle.bus_schedule.specs.Timetable.{Public, AgreeTo, count_of, bits_of, most_of, choices_of, epoch_at, rate_at}
use Rattle.bus_schedule.specs.Timetable.{digit_of, falls_next, beat_with, beat_after, beat_at, end_at, timetable}
use Rattle.bus_schedule.proofs.CodeLaws.{digit-rest}
use Rattle.bus_schedule.proofs.TimetableLaws.{beat_if, after-is, start-above, end-before, timetable-agrees}
use Rattle.bus_schedule.proofs.Epochs.{epoch_at-rises, epoch_at-zero}

-- after an end at which a choice falls, and after one at which none does
after-true : (p : Public) (beat : Beat) (index : ℕ) → falls_next p beat ≡ true
    → beat_after p beat index ≡ beat_with p beat (rate_at p.rates index) (beat.choices + 1)
after-true p beat index e = ap (beat_if p beat index) e

after-false : (p : Public) (beat : Beat) (index : ℕ) → falls_next p beat ≡ false
    → beat_after p beat index ≡ beat_with p beat beat.rate beat.choices
after-false p beat index e = ap (beat_if p beat index) e

-- a choice takes the rate of its digit
pub rate-chosen : (p : Public) (code n : ℕ) → falls_next p (beat_at p code n) ≡ true
    → ((beat_at p code (suc n)).rate ≡ rate_at p.rates (digit_of code (count_of p) (beat_at p code n).choices))
    × ((beat_at p code (suc n)).choices ≡ (beat_at p code n).choices + 1)
unfolding beat_at
rate-chosen p code n fell =
    let after = after-true p (beat_at p code n) (digit_of code (count_of p) (beat_at p code n).choices) fell in
    (ap (λ (beat : Beat). beat.rate) after, ap (λ (beat : Beat). beat.choices) after)

-- where none falls, the rate stays
pub rate-kept : (p : Public) (code n : ℕ) → falls_next p (beat_at p code n) ≡ false
    → ((beat_at p code (suc n)).rate ≡ (beat_at p code n).rate)
    × ((beat_at p code (suc n)).choices ≡ (beat_at p code n).choices)
unfolding beat_at
rate-kept p code n fell =
    let after = after-false p (beat_at p code n) (digit_of code (count_of p) (beat_at p code n).choices) fell in
    (ap (λ (beat : Beat). beat.rate) after, ap (λ (beat : Beat). beat.choices) after)

rate-first : (p : Public) (code : ℕ) → (beat_at p code 0).rate ≡ rate_at p.rates p.first
unfolding beat_at
rate-first p code = refl

-- a rate in force is one of the rates
pub rate-among : (p : Public) (code n : ℕ) → p.first < count_of p
    → (index : ℕ) × (index < count_of p) × ((beat_at p code n).rate ≡ rate_at p.rates index)
rate-among p code zero h = (p.first, h, rate-first p code)
rate-among p code (suc n) h =
    elim (cases_Bool (falls_next p (beat_at p code n))) [
      | inl fell ↦ (
        digit_of code (count_of p) (beat_at p code n).choices,
        mod_below (code / count_of p ^ (beat_at p code n).choices) (count_of p) (omega arith),
        (rate-chosen p code n fell).0,
      )
      | inr none ↦ (
          let before : (index : ℕ) × (index < count_of p) × ((beat_at p code n).rate ≡ rate_at p.rates index) =
          rate-among p code n h in
          (before.0, before.1, (rate-kept p code n none).0 ∙ before.2)
          )
    ]

-- the epoch reached is that of the last end
pub reached-last : (p : Public) (code n : ℕ) → 1 ≤ p.epoch
    → (beat_at p code n).reached ≡ epoch_at p.epoch (end_at p code n)
unfolding beat_at
reached-last p code zero some = sym (epoch_at-zero p.epoch some)
reached-last p code (suc n) some =
    (after-is p (beat_at p code n) (digit_of code (count_of p) (beat_at p code n).choices)).1
    ∙ max-eq_right (omega (
      arith,
      reached-last p code n some,
      epoch_at-rises p.epoch (end_at p code n) (end_at p code (suc n)) (omega (arith, end-before p code n)),
    ))

-- the end of the slot that is next is in a later epoch than every end before it, and choices are left
abbrev is_later : Public → Beat → Bool
is_later p beat = nat_lt beat.reached (epoch_at p.epoch (beat.next + olat_of p.levels))

abbrev is_left : Public → Beat → Bool
is_left p beat = nat_lt beat.choices (choices_of p)

-- where a choice falls
pub falls-where : (p : Public) (code n : ℕ) → 1 ≤ p.epoch → (falls_next p (beat_at p code n) ≡ true)
    ↔ ((epoch_at p.epoch (end_at p code n) < epoch_at p.epoch (end_at p code (suc n)))
    × ((beat_at p code n).choices < choices_of p))
falls-where p code n some = (
  λ fell.
      let both = and_parts (is_later p (beat_at p code n)) (is_left p (beat_at p code n)) fell in (
        omega (arith, reached-last p code n some, ltb-true _ _ both.0),
        ltb-true (beat_at p code n).choices (choices_of p) both.1,
      ),
  λ h.
      and_from (is_later p (beat_at p code n)) (is_left p (beat_at p code n))
      (lt-ltb _ _ (omega (arith, reached-last p code n some, h.0)))
      (lt-ltb (beat_at p code n).choices (choices_of p) h.1),
)

-- no choice falls past the last that is allowed
after-most : (p : Public) (beat : Beat) (index : ℕ) → beat.choices ≤ choices_of p
    → (beat_after p beat index).choices ≤ choices_of p
after-most p beat index h = go (falls_next p beat) refl
  where
    go : (fell : Bool) → falls_next p beat ≡ fell → (beat_if p beat index fell).choices ≤ choices_of p
    go true e =
        let some : beat.choices < choices_of p =
        ltb-true beat.choices (choices_of p) (and_parts (is_later p beat) (is_left p beat) e).1 in
        omega arith
    go false e = h

pub choices-few : (p : Public) (code n : ℕ) → (beat_at p code n).choices ≤ choices_of p
unfolding beat_at
choices-few p code zero = omega arith
choices-few p code (suc n) =
    after-most p (beat_at p code n) (digit_of code (count_of p) (beat_at p code n).choices) (choices-few p code n)

-- one rate alone leaves nothing to choose
pub most-one : (count leak : ℕ) → count ≤ 1 → most_of count leak ≡ 0
unfolding most_of
most-one count leak one = ap (λ b. cond b 0 (leak / bits_of count)) (le-leb count 1 one)

-- more rates share the budget
pub most-more : (count leak : ℕ) → 1 < count → most_of count leak ≡ leak / bits_of count
unfolding most_of
most-more count leak more = ap (λ b. cond b 0 (leak / bits_of count)) (lt-leb count 1 more)

-- a budget below one choice's bits allows none
pub most-none : (count leak : ℕ) → leak < bits_of count → most_of count leak ≡ 0
most-none count leak h =
    elim (cases_lt 1 count) [
      | inl more ↦ most-more count leak more ∙ div-eq_of_lt h
      | inr one ↦ most-one count leak one
    ]

-- the choices that are allowed take no more bits than the budget has
pub most-bits : (count leak : ℕ) → bits_of count * most_of count leak ≤ leak
most-bits count leak =
    elim (cases_lt 1 count) [
      | inl more ↦ (
          let same : bits_of count * most_of count leak ≡ bits_of count * (leak / bits_of count) =
          ap (λ n. bits_of count * n) (most-more count leak more) in
          omega (arith, same, mul-div-le leak (bits_of count))
          )
      | inr one ↦ (
          let same : bits_of count * most_of count leak ≡ 0 =
          ap (λ n. bits_of count * n) (most-one count leak one) ∙ mul-zero (bits_of count) in
          omega (arith, same)
          )
    ]

-- the bits of a choice, by the powers of two around the number of rates
pub bits_of-is : (count bits : ℕ) → 2 ^ bits ≤ count → count < 2 * 2 ^ bits → bits_of count ≡ bits
unfolding bits_of
bits_of-is count bits low high =
    greatest_is (λ k. nat_le (2 ^ k) count) count bits (omega (arith, lt-pow bits))
    (inr (le-leb _ _ low))
    (λ j above within. lt-leb _ _ (omega (arith, pow_mono {i = bits + 1} {j = j} (omega arith), pow-add 2 bits 1)))

-- so that of a power of two is its logarithm
pub bits_of-pow : (bits : ℕ) → bits_of (2 ^ bits) ≡ bits
bits_of-pow bits = bits_of-is (2 ^ bits) bits (omega arith) (omega (arith, pow_pos bits))

-- how many choices are allowed among so many rates
pub most-pow : (bits leak : ℕ) → 1 ≤ bits → most_of (2 ^ bits) leak ≡ leak / bits
most-pow bits leak some =
    most-more (2 ^ bits) leak (omega (arith, pow_mono {i = 1} {j = bits} some)) ∙ ap (λ n. leak / n) (bits_of-pow bits)

-- a power of a power
pow-mul : (base i j : ℕ) → (base ^ i) ^ j ≡ base ^ (i * j)
pow-mul base i zero = pow-zero (base ^ i) ∙ sym (ap (λ n. base ^ n) (mul-zero i) ∙ pow-zero base)
pow-mul base i (suc j) =
    let next : i * suc j ≡ i * j + i = omega arith in
    pow-suc (base ^ i) j
    ∙ ap (λ n. n * base ^ i) (pow-mul base i j)
    ∙ sym (ap (λ n. base ^ n) next ∙ pow-add base (i * j) i)

-- the codes of so many choices
pub codes-few : (p : Public) (bits places : ℕ) → count_of p ≡ 2 ^ bits → places ≤ choices_of p
    → count_of p ^ places ≤ 2 ^ p.leak
codes-few p bits places e few =
    let same : bits_of (count_of p) ≡ bits = ap bits_of e ∙ bits_of-pow bits in
    let all : bits * choices_of p ≤ p.leak =
    rw (← same) (most-bits (count_of p) p.leak) in
    let some : bits * places ≤ bits * choices_of p = mul-le bits places bits (choices_of p) (omega arith) few in
    let told : bits * places ≤ p.leak = omega arith in
    let power : count_of p ^ places ≡ 2 ^ (bits * places) = ap (λ n. n ^ places) e ∙ pow-mul 2 bits places in
    omega (arith, power, pow_mono {i = bits * places} {j = p.leak} told)

-- what is left of a code below a place agrees with it up to there
pub agree-rest : (p : Public) (code places : ℕ) → 1 ≤ count_of p → AgreeTo p (code % count_of p ^ places) code places
agree-rest p code places some = λ place below. digit-rest (count_of p) code places place some below

pub rest-below : (p : Public) (code places : ℕ) → 1 ≤ count_of p → code % count_of p ^ places < count_of p ^ places
rest-below p code places some =
    mod_below code (count_of p ^ places) (one-le-pow places (count_of p) some)

-- each timetable is that of a code below the number of codes of the choices that fell
pub few-upto : (p : Public) (code places n end : ℕ) → 1 ≤ count_of p → (beat_at p code n).choices ≤ places
    → end ≤ end_at p code (suc n)
    → (other : ℕ) × (other < count_of p ^ places) × (timetable p other end ≡ timetable p code end)
few-upto p code places n end some fell h = (
  code % count_of p ^ places,
  rest-below p code places some,
  sym (timetable-agrees p code (code % count_of p ^ places) places n end
      (λ place below. sym (agree-rest p code places some place below)) fell h),
)

pub few-timetables : (p : Public) (code end : ℕ) → 1 ≤ count_of p
    → (other : ℕ) × (other < count_of p ^ choices_of p) × (timetable p other end ≡ timetable p code end)
few-timetables p code end some =
    few-upto p code (choices_of p) end end some (choices-few p code end) (omega (arith, start-above p code end))

-- and so of a code below the power of two of the budget
pub few-in-budget : (p : Public) (bits code end : ℕ) → count_of p ≡ 2 ^ bits
    → (other : ℕ) × (other < 2 ^ p.leak) × (timetable p other end ≡ timetable p code end)
few-in-budget p bits code end e =
    let some : 1 ≤ count_of p = omega (arith, e, pow_pos bits) in
    let few : (other : ℕ) × (other < count_of p ^ choices_of p) × (timetable p other end ≡ timetable p code end) =
    few-timetables p code end some in
    (few.0, omega (arith, few.1, codes-few p bits (choices_of p) e (omega arith)), few.2)
