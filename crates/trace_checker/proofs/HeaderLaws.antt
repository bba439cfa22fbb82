-- What a header says of the timetable.
use Rattle.std.proofs.Common.{◌≡◌, ℕ, ◌+◌, ◌^◌, ◌<◌, ◌≤◌, get_or, sym, ◌∙◌, ap, arith}
use Rattle.std.proofs.Math.Pow.{pow_mono}
use Rattle.std.proofs.lemmas.List.{get_or-take, take_all}
use Rattle.std.specs.List.Sorted.{IsStrictlyIncreasing}
use Rattle.std.proofs.Common.{subst}
use Rattle.asc_base.specs.Settings.{IsPowerTo}
use Rattle.bus_schedule.specs.Timetable.{Public, count_of, bits_of, choices_of, rate_at}
use Rattle.bus_schedule.specs.Timetable.{falls, falls_next}
use Rattle.bus_schedule.specs.Timing.{IsTimingOf}
use Rattle.bus_schedule.specs.declared.beat.Beat.{Beat}
use Rattle.bus_schedule.specs.declared.beat.Timing.{Timing}
use Rattle.asc_base.specs.TreeShape.{olat_of}
use Rattle.std.proofs.Common.{◌*◌}
use Rattle.std.proofs.Math.Nat.{mul_comm}
use Rattle.std.proofs.lemmas.Nat.{mul-le}
use Rattle.bus_schedule.proofs.ChoiceLaws.{codes-few, most-bits, most-one, bits_of-pow}
use Rattle.std.proofs.Common.{zero, suc}
use Rattle.std.proofs.Common.{◌⊎◌, inl, inr}
use Rattle.std.proofs.lemmas.Bool.{cases_lt}
use Rattle.bus_trace.specs.declared.trace.Header.{Header}
use Rattle.bus_trace.specs.Grammar.{IsHeader}
use Rattle.bus_trace.specs.Trace.{public_of}

pub rate_is : (h : Header) (index : ℕ) → index < h.rates.count
    → rate_at (public_of h).rates index ≡ get_or h.rates.list index 0
rate_is h index small = get_or-take h.rates.count h.rates.list index 0 small

-- there is a rate, and there are at most 16
pub some_count : (p : Public) → IsHeader p → (1 ≤ count_of p) × (count_of p ≤ 16)
some_count p is = bounds is.rates.power
  where
    bounds : IsPowerTo 4 (count_of p) → (1 ≤ count_of p) × (count_of p ≤ 16)
    bounds (power, most, same) =
        let low = pow_mono {i = 0} {j = power} (omega arith) in
        let high = pow_mono {i = power} {j = 4} most in
        (omega (arith, same, low), omega (arith, same, high))

-- the rates rise
pub rates_rise : (p : Public) → IsHeader p → IsStrictlyIncreasing p.rates
rates_rise p is = subst IsStrictlyIncreasing (take_all (count_of p) p.rates (omega arith)) is.rates.rise

-- the codes of the choices that may fall are below 2 ^ 60
pub codes_fit : (p : Public) (places : ℕ) → IsHeader p → places ≤ choices_of p → count_of p ^ places ≤ 2 ^ 60
codes_fit p places is few =
    let power = is.rates.power in
    let low = codes-few p power.0 places power.2 few in
    let high = pow_mono {i = p.leak} {j = 60} is.leak in
    omega (arith, low, high)

-- whether a choice falls, by what decides it
pub falls_is : (p : Public) (timing : Timing) (beat : Beat) → IsTimingOf p timing
    → falls_next p beat ≡ falls timing.epoch timing.most beat.reached beat.choices (beat.next + olat_of timing.levels)
falls_is p timing beat is =
    ap (λ e. falls e (choices_of p) beat.reached beat.choices (beat.next + olat_of p.levels)) (sym is.epoch)
    ∙ ap (λ m. falls timing.epoch m beat.reached beat.choices (beat.next + olat_of p.levels)) (sym is.most)
    ∙ ap (λ l. falls timing.epoch timing.most beat.reached beat.choices (beat.next + olat_of l)) (sym is.levels)

-- so many choices tell no more bits than the budget
pub bits_few : (p : Public) (choices : ℕ) → IsHeader p → choices ≤ choices_of p
    → choices * bits_of (count_of p) ≤ 60
bits_few p choices is few =
    let all = most-bits (count_of p) p.leak in
    let part = mul-le choices (bits_of (count_of p)) (choices_of p) (bits_of (count_of p)) few (omega arith) in
    omega (arith, all, part, is.leak, mul_comm (choices_of p) (bits_of (count_of p)))

-- a choice among some rates takes a bit
bits_some : (p : Public) → IsHeader p → 1 < count_of p → 1 ≤ bits_of (count_of p)
bits_some p is more = some is.rates.power
  where
    some : IsPowerTo 4 (count_of p) → 1 ≤ bits_of (count_of p)
    some (zero, most, same) = absurd (omega (arith, same, more))
    some (suc power, most, same) =
        let bits : bits_of (count_of p) ≡ suc power = ap bits_of same ∙ bits_of-pow (suc power) in
        omega (arith, bits)

-- few choices are allowed
pub choices_small : (p : Public) → IsHeader p → choices_of p ≤ 60
choices_small p is = few (cases_lt 1 (count_of p))
  where
    few : (1 < count_of p) ⊎ (count_of p ≤ 1) → choices_of p ≤ 60
    few (inl more) =
        let bits : 1 ≤ bits_of (count_of p) = bits_some p is more in
        let all = bits_few p (choices_of p) is (omega arith) in
        let weight = mul-le (choices_of p) 1 (choices_of p) (bits_of (count_of p)) (omega arith) bits in
        omega (arith, all, weight)
    few (inr one) = omega (arith, most-one (count_of p) p.leak one)
