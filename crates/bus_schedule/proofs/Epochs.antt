-- The epoch of a time, by the times at which epochs start.
use Rattle.std.proofs.Common.{◌≡◌, ℕ, false, ◌+◌, ◌-◌, ◌*◌, ◌^◌, ◌<◌, ◌≤◌, inl, inr, sym, ap, ◌∙◌, arith, add-one}
use Rattle.std.specs.Prelude.{nat_le}
use Rattle.std.proofs.Math.Nat.{two-pow-succ}
use Rattle.std.proofs.Math.Pow.{pow_mono}
use Rattle.std.proofs.lemmas.Bool.{cases_lt, leb-true, leb-false, le-leb, lt-leb}
use Rattle.std.proofs.lemmas.Nat.{pow_pos, mul-le}
use Rattle.asc_base.specs.Greatest.{greatest}
use Rattle.asc_base.proofs.Extremes.{greatest-le, greatest_found, greatest_above, greatest_is}
use Rattle.bus_schedule.specs.Timetable.{epoch_at}

-- a later epoch starts no earlier
pub epoch-rises : (epoch i j : ℕ) → i ≤ j → epoch * (2 ^ i - 1) ≤ epoch * (2 ^ j - 1)
epoch-rises epoch i j up =
    mul-le epoch (2 ^ i - 1) epoch (2 ^ j - 1) (omega arith) (omega (arith, pow_mono {i = i} {j = j} up))

odd-times : (a y : ℕ) → a * (2 * y + 1) ≡ 2 * (a * y) + a
odd-times a y = omega arith

-- where the epoch after the next one starts
pub epoch-twice : (epoch i : ℕ) → 2 * (epoch * (2 ^ (i + 1) - 1)) + epoch ≡ epoch * (2 ^ (i + 1 + 1) - 1)
epoch-twice epoch i =
    let twice : 2 ^ (i + 1 + 1) ≡ 2 ^ (i + 1) + 2 ^ (i + 1) =
    ap (λ n. 2 ^ n) (add-one (i + 1)) ∙ two-pow-succ (i + 1) in
    let odd : 2 ^ (i + 1 + 1) - 1 ≡ 2 * (2 ^ (i + 1) - 1) + 1 = omega (arith, twice, pow_pos (i + 1)) in
    sym (ap (λ n. epoch * n) odd ∙ odd-times epoch (2 ^ (i + 1) - 1))

-- times below 2 ^ 40 are in epochs up to 40
pub epoch-most : (epoch i time : ℕ) → 1 ≤ epoch → epoch * (2 ^ i - 1) ≤ time → time < 2 ^ 40 → i < 41
epoch-most epoch i time some from below =
    elim (cases_lt i 41) [
      | inl few ↦ few
      | inr many ↦ (
          let far : 1 * (2 ^ 41 - 1) ≤ epoch * (2 ^ 41 - 1) =
          mul-le 1 (2 ^ 41 - 1) epoch (2 ^ 41 - 1) some (omega arith) in
          absurd (omega (arith, epoch-rises epoch 41 i many))
          )
    ]

-- a time from an epoch's start on and before the next one's is in this epoch
pub epoch_at-is : (epoch time i : ℕ) → 1 ≤ epoch → time < 2 ^ 40 → epoch * (2 ^ i - 1) ≤ time
    → time < epoch * (2 ^ (i + 1) - 1) → epoch_at epoch time ≡ i
unfolding epoch_at
epoch_at-is epoch time i some small from below =
    greatest_is (λ i. nat_le (epoch * (2 ^ i - 1)) time) 40 i
    (omega (arith, epoch-most epoch i time some from small))
    (inr (le-leb _ _ from))
    (λ j over up_to. lt-leb _ _ (omega (arith, epoch-rises epoch (i + 1) j (omega arith))))

-- a later time is in no earlier epoch
pub epoch_at-rises : (epoch time later : ℕ) → time ≤ later → epoch_at epoch time ≤ epoch_at epoch later
unfolding epoch_at
epoch_at-rises epoch time later up =
    let starts = λ (at i : ℕ). nat_le (epoch * (2 ^ i - 1)) at in
    elim (cases_lt (greatest (starts later) 40) (greatest (starts time) 40)) [
      | inl over ↦ elim (greatest_found (starts time) 40) [
        | inl none ↦ absurd (omega arith)
        | inr found ↦ (
            let from : epoch * (2 ^ greatest (starts time) 40 - 1) ≤ time =
            leb-true (epoch * (2 ^ greatest (starts time) 40 - 1)) time found in
            let none : nat_le (epoch * (2 ^ greatest (starts time) 40 - 1)) later ≡ false =
            greatest_above (starts later) 40 (greatest (starts time) 40) over (greatest-le (starts time) 40) in
            absurd (omega (arith, leb-false (epoch * (2 ^ greatest (starts time) 40 - 1)) later none))
            )
      ]
      | inr up_to ↦ up_to
    ]

-- time 0 is in epoch 0
pub epoch_at-zero : (epoch : ℕ) → 1 ≤ epoch → epoch_at epoch 0 ≡ 0
epoch_at-zero epoch some =
    epoch_at-is epoch 0 0 some (omega arith) (omega arith) (omega arith)

-- a time is in its epoch
pub epoch_at-holds : (epoch time : ℕ) → 1 ≤ epoch → time < 2 ^ 40
    → (epoch * (2 ^ epoch_at epoch time - 1) ≤ time) × (time < epoch * (2 ^ (epoch_at epoch time + 1) - 1))
unfolding epoch_at
epoch_at-holds epoch time some small =
    let starts = λ (i : ℕ). nat_le (epoch * (2 ^ i - 1)) time in (
      elim (greatest_found starts 40) [
        | inl none ↦ rw none (omega arith)
        | inr found ↦ leb-true (epoch * (2 ^ greatest starts 40 - 1)) time found
      ],
      elim (cases_lt time (epoch * (2 ^ (greatest starts 40 + 1) - 1))) [
        | inl below ↦ below
        | inr from ↦ (
            let few : greatest starts 40 + 1 < 41 = epoch-most epoch (greatest starts 40 + 1) time some from small in
            let none : nat_le (epoch * (2 ^ (greatest starts 40 + 1) - 1)) time ≡ false =
            greatest_above starts 40 (greatest starts 40 + 1) (omega arith) (omega arith) in
            absurd (omega (arith, leb-false (epoch * (2 ^ (greatest starts 40 + 1) - 1)) time none))
            )
      ],
    )
