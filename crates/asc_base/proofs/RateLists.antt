-- What is known of rates in their range.
use Rattle.std.proofs.Common.{◌≡◌, ℕ, suc, ◌+◌, ◌-◌, ◌<◌, ◌≤◌, List, [], ◌∷◌, ◌++◌, length, get_or, set, take, drop}
use Rattle.std.proofs.Common.{replicate, max, inl, inr, arith}
use Rattle.std.specs.Prelude.{All, fold}
use Rattle.std.proofs.Common.{length-drop, ap, ◌∙◌}
use Rattle.std.proofs.Math.Pow.{pow_mono}
use Rattle.std.proofs.lemmas.Bool.{cases_lt, cases_order}
use Rattle.std.proofs.lemmas.List.{get_or-drop, length-replicate, get_or-replicate}
use Rattle.std.proofs.lemmas.Grind.{common_steps, elements, same_number_lists}
use Rattle.asc_base.specs.Settings.{IsPowerTo, IsFromTo, AreRates, greatest_rate}

-- there are at most 16
pub power_count-le : (count : ℕ) → IsPowerTo 4 count → (1 ≤ count) × (count ≤ 16)
power_count-le count (power, few, same) =
    let low = pow_mono {i = 0} {j = power} (omega arith) in
    let high = pow_mono {i = power} {j = 4} few in
    (omega (arith, same, low), omega (arith, same, high))

pub rate_count-le : (list : List ℕ) (count : ℕ) → AreRates list count → (1 ≤ count) × (count ≤ 16)
rate_count-le list count rates = power_count-le count rates.power

-- none of numbers up to a bound is greater than it, and neither is their greatest
pub fold-max-le : (list : List ℕ) (start most : ℕ) → start ≤ most → All (IsFromTo 64 most) list
    → fold max start list ≤ most
fold-max-le [] start most within all = within
fold-max-le (x ∷ list) start most within all =
    let bound = all 0 0 (omega arith) in
    fold-max-le list (max start x) most (omega arith) (λ k d below. all (suc k) d (omega arith))

pub greatest_rate-le : (list : List ℕ) (count : ℕ) → AreRates list count → greatest_rate list count ≤ 1048576
greatest_rate-le list count rates = fold-max-le (take count list) 0 1048576 (omega arith) rates.bounds

-- one number more in place of a zero
pub set-narrow : (list : List ℕ) (place number : ℕ) → length list ≡ 16 → place < 16 → number ≡ get_or list place 0
    → set (take place list ++ replicate (16 - place) 0) place number ≡ take (place + 1) list ++ replicate
    (16 - (place + 1)) 0
set-narrow list place number whole within same =
    same_number_lists _ _ (grind (arith, common_steps))
    (λ k below. elim (cases_order k place) [
      | inl here ↦ grind (arith, elements)
      | inr there ↦ elim there [
        | inl before ↦ grind (arith, elements)
        | inr after ↦ grind (arith, elements)
      ]
    ])

-- a rate is at most 1,048,576
pub rate-le : (list : List ℕ) (count place : ℕ) → AreRates list count → length list ≡ 16 → place < count
    → get_or list place 0 ≤ 1048576
rate-le list count place rates whole within =
    let few = rate_count-le list count rates in
    let bound = rates.bounds place 0 (grind (arith, common_steps)) in
    let same : get_or (take count list) place 0 ≡ get_or list place 0 = grind (arith, elements) in
    omega (arith, bound, same)

pub take-narrow : (list : List ℕ) (count : ℕ) → length list ≡ 16 → count ≤ 16
    → take count (take count list ++ replicate (16 - count) 0) ≡ take count list
take-narrow list count whole few = grind (arith, common_steps)

pub drop-narrow : (list : List ℕ) (count : ℕ) → length list ≡ 16 → count ≤ 16
    → drop count (take count list ++ replicate (16 - count) 0) ≡ replicate (16 - count) 0
drop-narrow list count whole few = grind (arith, common_steps)

-- and so is what stands in each of the places, where those behind the last rate have zeros
pub rates-le : (list : List ℕ) (count : ℕ) → AreRates list count → drop count list ≡ replicate (16 - count) 0
    → All (λ rate. rate ≤ 1048576) list
rates-le list count rates rest k d below =
    elim (cases_lt k count) [
      | inl among ↦
          (let bound = rates.bounds k d (grind (arith, common_steps)) in
          let same : get_or (take count list) k d ≡ get_or list k d = grind (arith, elements) in
          omega (arith, bound, same))
      | inr behind ↦
          (let back : count + (k - count) ≡ k = omega arith in
          let there : get_or (drop count list) (k - count) d ≡ get_or list k d =
          get_or-drop count list (k - count) d ∙ ap (λ i. get_or list i d) back in
          let long : length (drop count list) ≡ length list - count = length-drop count list in
          let none : ℕ = 0 in
          let zeros = length-replicate (16 - count) none in
          let zero_there : get_or (replicate (16 - count) none) (k - count) d ≡ none =
          get_or-replicate (16 - count) (k - count) none d (omega (arith, long, zeros, ap length rest)) in
          omega (arith, there, zero_there, ap (λ l. get_or l (k - count) d) rest))
    ]
