-- What a start of four rates tells of the code.
use Rattle.std.proofs.Common.{◌≡◌, ℕ, zero, suc, ◌<◌, ◌≤◌, true, refl, sym, ◌∙◌, arith}
use Rattle.std.specs.List.Sorted.{IsStrictlyIncreasing}
use Rattle.asc_base.specs.Greatest.{greatest}
use Rattle.bus_schedule.specs.Timetable.{bits_of, most_of, digit_of, epoch_at, falls_next, beat_at, start_at}
use Rattle.bus_schedule.specs.Rows.{four_rates}
use Rattle.bus_schedule.proofs.Digits.{next-tells, code-least}

rates-rise : IsStrictlyIncreasing four_rates.rates
rates-rise zero within = omega arith
rates-rise (suc zero) within = omega arith
rates-rise (suc (suc zero)) within = omega arith
rates-rise (suc (suc (suc i))) within = absurd (omega arith)

-- no choice before the 44th end, and one there
none-before : (beat_at four_rates 3 43).choices ≡ 0
unfolding greatest bits_of most_of epoch_at beat_at
none-before = refl

falls-there : falls_next four_rates (beat_at four_rates 3 43) ≡ true
unfolding greatest bits_of most_of epoch_at beat_at
falls-there = refl

starts-there : start_at four_rates 3 44 ≡ 49472
unfolding greatest bits_of most_of epoch_at beat_at
starts-there = refl

pub first-digit : (other : ℕ) → start_at four_rates other 44 ≡ 49472 → digit_of other 4 0 ≡ 3
first-digit other at =
    let same : digit_of 3 4 (beat_at four_rates 3 43).choices ≡ digit_of other 4 (beat_at four_rates 3 43).choices =
    next-tells four_rates 3 other 43 rates-rise (omega arith) (λ place below. absurd (omega (arith, none-before)))
    falls-there (starts-there ∙ sym at) in
    sym (rw none-before at same)

pub least-code : (other : ℕ) → start_at four_rates other 44 ≡ 49472 → 3 ≤ other
least-code other at =
    code-least 4 3 other 1 (omega arith) (omega arith) (λ place below. first place below)
  where
    first : (place : ℕ) → place < 1 → digit_of 3 4 place ≡ digit_of other 4 place
    first zero below = sym (first-digit other at)
    first (suc place) below = absurd (omega arith)
