-- What starts tell of the code, and how codes compare by their digits.
use Rattle.std.proofs.Common.{◌≡◌, ℕ, zero, suc, ◌+◌, ◌-◌, ◌*◌, ◌%◌, ◌^◌, ◌<◌, ◌≤◌, true, cond, List}
use Rattle.std.proofs.Common.{length, get_or, refl, sym, ◌∙◌, ap, subst, inl, inr, arith}
use Rattle.std.specs.Prelude.{nat_lt, nat_le, max, ◌&&◌}
use Rattle.std.specs.List.{filter}
use Rattle.std.specs.List.Sorted.{IsStrictlyIncreasing}
use Rattle.std.proofs.Math.Arith.{mod-mul}
use Rattle.std.proofs.Math.Nat.{pow-zero, pow-succ', one-le-pow, mod-one, mod-le, mod-eq_of_lt}
use Rattle.std.proofs.lemmas.Bool.{cases_Bool, cases_lt, cases_order}
use Rattle.std.proofs.lemmas.List.Sums.{length-filter, count_by-le-length}
use Rattle.std.proofs.lemmas.Nat.{mod_below, mul-le}
use Rattle.asc_base.specs.TreeShape.{olat_of}
use Rattle.bus_schedule.specs.declared.beat.Beat.{Beat}
use Rattle.bus_schedule.specs.Timetable.{Public, AgreeTo, count_of, choices_of, epoch_at, rate_at, digit_of}
use Rattle.bus_schedule.specs.Timetable.{falls_next, beat_after, beat_at, start_at, timetable, ended_by, fallen}
use Rattle.bus_schedule.proofs.TimetableLaws.{after-is, start-next, beat-agrees}
use Rattle.bus_schedule.proofs.TimetableParts.{timetable-at}
use Rattle.bus_schedule.proofs.ChoiceLaws.{rate-chosen, rate-kept}

-- each number of a rising list is below every later one
rising-lt : (xs : List ℕ) (i more : ℕ) → IsStrictlyIncreasing xs → i + suc more < length xs
    → get_or xs i 0 < get_or xs (i + suc more) 0
rising-lt xs i zero rise within =
    let next : i + 1 ≡ i + suc 0 = omega arith in
    subst (λ n. get_or xs i 0 < get_or xs n 0) next (rise i (omega arith))
rising-lt xs i (suc more) rise within =
    let low = rising-lt xs i more rise (omega arith) in
    let high = rise (i + suc more) (omega arith) in
    let same : i + suc more + 1 ≡ i + suc (suc more) = omega arith in
    omega (arith, low, subst (λ n. get_or xs (i + suc more) 0 < get_or xs n 0) same high)

rising-before : (xs : List ℕ) (i j : ℕ) → IsStrictlyIncreasing xs → i < j → j < length xs
    → get_or xs i 0 < get_or xs j 0
rising-before xs i j rise before within =
    let same : i + suc (j - i - 1) ≡ j = omega arith in
    subst (λ n. get_or xs i 0 < get_or xs n 0) same (rising-lt xs i (j - i - 1) rise (omega arith))

-- so a rate tells its index
pub rate-tells : (rates : List ℕ) (i j : ℕ) → IsStrictlyIncreasing rates → i < length rates → j < length rates
    → rate_at rates i ≡ rate_at rates j → i ≡ j
rate-tells rates i j rise low high same =
    elim (cases_order i j) [
      | inl here ↦ here
      | inr apart ↦ elim apart [
        | inl before ↦ absurd (omega (arith, same, rising-before rates i j rise before high))
        | inr after ↦ absurd (omega (arith, same, rising-before rates j i rise after low))
      ]
    ]

-- a start that comes after a choice tells its digit
pub next-tells : (p : Public) (code other n : ℕ) → IsStrictlyIncreasing p.rates → 1 ≤ count_of p
    → AgreeTo p code other (beat_at p code n).choices → falls_next p (beat_at p code n) ≡ true
    → start_at p code (suc n) ≡ start_at p other (suc n)
    → digit_of code (count_of p) (beat_at p code n).choices ≡ digit_of other (count_of p) (beat_at p code n).choices
next-tells p code other n rise some agree fell same =
    let beats : beat_at p code n ≡ beat_at p other n =
    beat-agrees p code other (beat_at p code n).choices n agree (omega arith) in
    let here = rate-chosen p code n fell in
    let there = rate-chosen p other n (ap (falls_next p) (sym beats) ∙ fell) in
    let places : (beat_at p other n).choices ≡ (beat_at p code n).choices = ap (λ (b : Beat). b.choices) (sym beats) in
    let next : start_at p code n ≡ start_at p other n = ap (λ (b : Beat). b.next) beats in
    let rates : (beat_at p code (suc n)).rate ≡ (beat_at p other (suc n)).rate =
    omega (arith, start-next p code n, start-next p other n, same, next) in
    rate-tells p.rates _ _ rise (mod_below _ (count_of p) some) (mod_below _ (count_of p) some)
    (sym here.0 ∙ rates ∙ there.0)
    ∙ ap (digit_of other (count_of p)) places

-- the starts up to a slot's tell the digits of the choices that fell before it
pub starts-tell : (p : Public) (code other n : ℕ) → IsStrictlyIncreasing p.rates → 1 ≤ count_of p
    → ((k : ℕ) → k ≤ n → start_at p code k ≡ start_at p other k)
    → AgreeTo p code other (beat_at p code n).choices
unfolding beat_at
starts-tell p code other zero rise some same = λ place below. absurd (omega arith)
starts-tell p code other (suc n) rise some same =
    let before : AgreeTo p code other (beat_at p code n).choices =
    starts-tell p code other n rise some (λ k h. same k (omega arith)) in
    elim (cases_Bool (falls_next p (beat_at p code n))) [
      | inl fell ↦ (
          let digit = next-tells p code other n rise some before fell (same (suc n) (omega arith)) in
          λ place below. elim (cases_lt place (beat_at p code n).choices) [
            | inl lower ↦ before place lower
            | inr top ↦ (
                let at : (beat_at p code n).choices ≡ place =
                omega (arith, below, top, (rate-chosen p code n fell).1) in
                subst (λ k. digit_of code (count_of p) k ≡ digit_of other (count_of p) k) at digit
                )
          ]
          )
      | inr stays ↦ (λ place below. before place (omega (arith, below, (rate-kept p code n stays).1)))
    ]

-- whether choices fall depends on the starts alone
pub record SameFalls (one other : Beat) : Type 0 where
  pub reached : one.reached ≡ other.reached
  pub choices : one.choices ≡ other.choices

after-same : (p : Public) (one other : Beat) (i j : ℕ) → one.next ≡ other.next → SameFalls one other
    → SameFalls (beat_after p one i) (beat_after p other j)
after-same p one other i j next same =
    let here = after-is p one i in
    let there = after-is p other j in
    let falls : falls_next p one ≡ falls_next p other =
    ap (λ n. nat_lt one.reached (epoch_at p.epoch (n + olat_of p.levels)) && nat_lt one.choices (choices_of p)) next
    ∙ ap (λ r. nat_lt r (epoch_at p.epoch (other.next + olat_of p.levels)) && nat_lt one.choices (choices_of p))
    same.reached
    ∙ ap (λ c. nat_lt other.reached (epoch_at p.epoch (other.next + olat_of p.levels)) && nat_lt c (choices_of p))
    same.choices in
    record {
      reached = here.1
          ∙ ap (λ r. max r (epoch_at p.epoch (one.next + olat_of p.levels))) same.reached
          ∙ ap (λ n. max other.reached (epoch_at p.epoch (n + olat_of p.levels))) next
          ∙ sym there.1;
      choices = here.0
          ∙ ap (λ b. cond b (one.choices + 1) one.choices) falls
          ∙ ap (λ c. cond (falls_next p other) (c + 1) c) same.choices
          ∙ sym there.0;
    }

pub falls-same : (p : Public) (code other n : ℕ) → ((k : ℕ) → k < n → start_at p code k ≡ start_at p other k)
    → SameFalls (beat_at p code n) (beat_at p other n)
unfolding beat_at
falls-same p code other zero same = record { reached = refl; choices = refl }
falls-same p code other (suc n) same =
    after-same p (beat_at p code n) (beat_at p other n)
    (digit_of code (count_of p) (beat_at p code n).choices)
    (digit_of other (count_of p) (beat_at p other n).choices)
    (same n (omega arith)) (falls-same p code other n (λ k below. same k (omega arith)))

ended-few : (p : Public) (code end : ℕ) → ended_by p code end ≤ length (timetable p code end)
unfolding ended_by
ended-few p code end =
    let ends = λ (start : ℕ). nat_le (start + olat_of p.levels) end in
    omega (arith, length-filter ends (timetable p code end), count_by-le-length ends (timetable p code end))

-- so equal timetables have equally many choices
pub fallen-same : (p : Public) (code other end : ℕ) → timetable p code end ≡ timetable p other end
    → fallen p code end ≡ fallen p other end
unfolding ended_by
fallen-same p code other end same =
    let ended : ended_by p code end ≡ ended_by p other end =
    ap (λ l. length (filter (λ start. nat_le (start + olat_of p.levels) end) l)) same in
    let falls : SameFalls (beat_at p code (ended_by p code end)) (beat_at p other (ended_by p code end)) =
    falls-same p code other (ended_by p code end)
    (λ k below.
    sym (timetable-at p code end k (omega (arith, ended-few p code end)))
    ∙ ap (λ l. get_or l k 0) same
    ∙ timetable-at p other end k (omega (arith, ended-few p code end, ap length same))) in
    falls.choices ∙ ap (λ m. (beat_at p other m).choices) ended

-- codes that have the same first digits
rest-same : (base one other places : ℕ) → 1 ≤ base
    → ((place : ℕ) → place < places → digit_of one base place ≡ digit_of other base place)
    → one % base ^ places ≡ other % base ^ places
rest-same base one other zero some same =
    ap (λ n. one % n) (pow-zero base) ∙ mod-one one ∙ sym (ap (λ n. other % n) (pow-zero base) ∙ mod-one other)
rest-same base one other (suc places) some same =
    parts one
    ∙ ap (λ d. d * base ^ places + one % base ^ places) (same places (omega arith))
    ∙ ap (λ r. digit_of other base places * base ^ places + r)
    (rest-same base one other places some (λ place below. same place (omega arith)))
    ∙ sym (parts other)
  where
    parts : (n : ℕ) → n % base ^ suc places ≡ digit_of n base places * base ^ places + n % base ^ places
    parts n = ap (λ m. n % m) (pow-succ' base places)
        ∙ mod-mul n {m = base} {c = base ^ places} some (one-le-pow places base some)

-- of two codes that have the same first digits the one that has no more isn't greater
pub code-least : (base code other places : ℕ) → 1 ≤ base → code < base ^ places
    → ((place : ℕ) → place < places → digit_of code base place ≡ digit_of other base place) → code ≤ other
code-least base code other places some few same =
    omega (
      arith,
      mod-eq_of_lt few,
      rest-same base code other places some same,
      mod-le other (base ^ places),
    )

-- and of two that have the same first digits, where the one has one digit more at most, that digit decides
code-by-next : (base code other places : ℕ) → 1 ≤ base → code < base ^ suc places
    → ((place : ℕ) → place < places → digit_of code base place ≡ digit_of other base place)
    → (code ≡ digit_of code base places * base ^ places + code % base ^ places)
    × (digit_of other base places * base ^ places + code % base ^ places ≤ other)
code-by-next base code other places some few same =
    let rest : code % base ^ places ≡ other % base ^ places = rest-same base code other places some same in (
      sym (mod-eq_of_lt few) ∙ parts code,
      omega (arith, parts other, mod-le other (base ^ suc places), rest),
    )
  where
    parts : (n : ℕ) → n % base ^ suc places ≡ digit_of n base places * base ^ places + n % base ^ places
    parts n = ap (λ m. n % m) (pow-succ' base places)
        ∙ mod-mul n {m = base} {c = base ^ places} some (one-le-pow places base some)

pub code-next-le : (base code other places : ℕ) → 1 ≤ base → code < base ^ suc places
    → ((place : ℕ) → place < places → digit_of code base place ≡ digit_of other base place)
    → digit_of code base places ≤ digit_of other base places → code ≤ other
code-next-le base code other places some few same up =
    let split = code-by-next base code other places some few same in
    let weight : digit_of code base places * base ^ places ≤ digit_of other base places * base ^ places =
    mul-le (digit_of code base places) (base ^ places) (digit_of other base places) (base ^ places) up (omega arith) in
    omega (arith, split.0, split.1)

pub code-next-lt : (base code other places : ℕ) → 1 ≤ base → code < base ^ suc places
    → ((place : ℕ) → place < places → digit_of code base place ≡ digit_of other base place)
    → digit_of code base places < digit_of other base places → code < other
code-next-lt base code other places some few same up =
    let split = code-by-next base code other places some few same in
    let weight : (digit_of code base places + 1) * base ^ places ≤ digit_of other base places * base ^ places =
    mul-le (digit_of code base places + 1) (base ^ places) (digit_of other base places) (base ^ places)
    (omega arith) (omega arith) in
    let one : (digit_of code base places + 1) * base ^ places
    ≡ digit_of code base places * base ^ places + base ^ places = omega arith in
    omega (arith, split.0, split.1, one-le-pow places base some)
