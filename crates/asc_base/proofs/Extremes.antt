-- What pins the least and the greatest number at which a test holds.
use Rattle.std.proofs.Common.{◌≡◌, ℕ, zero, suc, ◌<◌, ◌≤◌, Bool, true, false, ◌⊎◌, refl, ap, inl, inr, arith}
use Rattle.std.proofs.lemmas.Bool.{cases_Bool, cases_lt}
use Rattle.asc_base.specs.Greatest.{least, greatest}

-- one step of the search from the bound down
pub greatest-suc_true : (holds : ℕ → Bool) (bound : ℕ) → holds (suc bound) ≡ true
    → greatest holds (suc bound) ≡ suc bound
unfolding greatest
greatest-suc_true holds bound e = rw e

pub greatest-suc_false : (holds : ℕ → Bool) (bound : ℕ) → holds (suc bound) ≡ false
    → greatest holds (suc bound) ≡ greatest holds bound
unfolding greatest
greatest-suc_false holds bound e = rw e

pub greatest-zero : (holds : ℕ → Bool) → greatest holds 0 ≡ 0
unfolding greatest
greatest-zero holds = refl

-- the greatest number is none above the bound
pub greatest-le : (holds : ℕ → Bool) (bound : ℕ) → greatest holds bound ≤ bound
greatest-le holds zero = omega (arith, greatest-zero holds)
greatest-le holds (suc bound) =
    elim (cases_Bool (holds (suc bound))) [
      | inl found ↦ omega (arith, greatest-suc_true holds bound found)
      | inr other ↦ omega (arith, greatest-suc_false holds bound other, greatest-le holds bound)
    ]

-- the test holds at the greatest number, unless that is 0
pub greatest_found : (holds : ℕ → Bool) (bound : ℕ)
    → (greatest holds bound ≡ 0) ⊎ (holds (greatest holds bound) ≡ true)
greatest_found holds zero = inl (greatest-zero holds)
greatest_found holds (suc bound) =
    elim (cases_Bool (holds (suc bound))) [
      | inl found ↦ inr (rw (greatest-suc_true holds bound found) found)
      | inr other ↦ rw (greatest-suc_false holds bound other) (greatest_found holds bound)
    ]

-- and at none above it
pub greatest_above : (holds : ℕ → Bool) (bound j : ℕ) → greatest holds bound < j → j ≤ bound → holds j ≡ false
greatest_above holds zero j above within = absurd (omega arith)
greatest_above holds (suc bound) j above within =
    elim (cases_Bool (holds (suc bound))) [
      | inl found ↦ absurd (omega (arith, greatest-suc_true holds bound found))
      | inr other ↦ elim (cases_lt j (suc bound)) [
        | inl below ↦ greatest_above holds bound j (omega (arith, greatest-suc_false holds bound other)) (omega arith)
        | inr last ↦ (let same : j ≡ suc bound = omega arith in rw same other)
      ]
    ]

-- a number is the greatest, where the test holds at it, or it is 0, and the test holds at none above it
pub greatest_is : (holds : ℕ → Bool) (bound k : ℕ) → k ≤ bound → (k ≡ 0) ⊎ (holds k ≡ true)
    → ((j : ℕ) → k < j → j ≤ bound → holds j ≡ false) → greatest holds bound ≡ k
greatest_is holds bound k within here above =
    elim (cases_lt (greatest holds bound) k) [
      | inl under ↦ elim here [
        | inl none ↦ absurd (omega arith)
        | inr found ↦ (let missed : holds k ≡ false = greatest_above holds bound k under within in cc)
      ]
      | inr over ↦ elim (cases_lt k (greatest holds bound)) [
        | inl beyond ↦ elim (greatest_found holds bound) [
          | inl none ↦ absurd (omega arith)
          | inr found ↦ (let missed : holds (greatest holds bound) ≡ false =
              above (greatest holds bound) beyond (greatest-le holds bound) in cc)
        ]
        | inr same ↦ omega arith
      ]
    ]

-- one step of the search from 0 up
pub least-suc_true : (holds : ℕ → Bool) (bound : ℕ) → holds 0 ≡ true → least holds (suc bound) ≡ 0
unfolding least
least-suc_true holds bound e = rw e

pub least-suc_false : (holds : ℕ → Bool) (bound : ℕ) → holds 0 ≡ false
    → least holds (suc bound) ≡ suc (least (λ k. holds (suc k)) bound)
unfolding least
least-suc_false holds bound e = rw e

pub least-zero : (holds : ℕ → Bool) → least holds 0 ≡ 0
unfolding least
least-zero holds = refl

-- the least number is none above the bound
pub least-le : (holds : ℕ → Bool) (bound : ℕ) → least holds bound ≤ bound
least-le holds zero = omega (arith, least-zero holds)
least-le holds (suc bound) =
    elim (cases_Bool (holds 0)) [
      | inl found ↦ omega (arith, least-suc_true holds bound found)
      | inr other ↦ omega (arith, least-suc_false holds bound other, least-le (λ k. holds (suc k)) bound)
    ]

-- the test holds at the least number, unless that is the bound
pub least_found : (holds : ℕ → Bool) (bound : ℕ) → (least holds bound ≡ bound) ⊎ (holds (least holds bound) ≡ true)
least_found holds zero = inl (least-zero holds)
least_found holds (suc bound) =
    elim (cases_Bool (holds 0)) [
      | inl found ↦ inr (rw (least-suc_true holds bound found) found)
      | inr other ↦ rw (least-suc_false holds bound other) (elim (least_found (λ k. holds (suc k)) bound) [
        | inl last ↦ inl (ap suc last)
        | inr found ↦ inr found
      ])
    ]

-- and at none below it
pub least_below : (holds : ℕ → Bool) (bound j : ℕ) → j < least holds bound → holds j ≡ false
least_below holds zero j below = absurd (omega (arith, least-zero holds))
least_below holds (suc bound) zero below =
    elim (cases_Bool (holds 0)) [
      | inl found ↦ absurd (omega (arith, least-suc_true holds bound found))
      | inr other ↦ other
    ]
least_below holds (suc bound) (suc j) below =
    elim (cases_Bool (holds 0)) [
      | inl found ↦ absurd (omega (arith, least-suc_true holds bound found))
      | inr other ↦ least_below (λ k. holds (suc k)) bound j (omega (arith, least-suc_false holds bound other))
    ]

-- a number is the least, where the test holds at it and at none below it
pub least_is : (holds : ℕ → Bool) (bound k : ℕ) → k ≤ bound → holds k ≡ true
    → ((j : ℕ) → j < k → holds j ≡ false) → least holds bound ≡ k
least_is holds bound k within here below =
    elim (cases_lt (least holds bound) k) [
      | inl under ↦ elim (least_found holds bound) [
        | inl last ↦ absurd (omega arith)
        | inr found ↦ (let missed : holds (least holds bound) ≡ false = below (least holds bound) under in cc)
      ]
      | inr over ↦ elim (cases_lt k (least holds bound)) [
        | inl beyond ↦ (let missed : holds k ≡ false = least_below holds bound k beyond in cc)
        | inr same ↦ omega arith
      ]
    ]

-- where the test holds at some number up to the bound, it holds at the least
pub least_holds : (holds : ℕ → Bool) (bound k : ℕ) → k ≤ bound → holds k ≡ true
    → (least holds bound ≤ k) × (holds (least holds bound) ≡ true)
least_holds holds bound k within here =
    elim (cases_lt k (least holds bound)) [
      | inl beyond ↦ (let missed : holds k ≡ false = least_below holds bound k beyond in cc)
      | inr up_to ↦ (
        up_to,
        elim (least_found holds bound) [
          | inl last ↦ (let same : least holds bound ≡ k = omega arith in rw same here)
          | inr found ↦ found
        ],
      )
    ]
