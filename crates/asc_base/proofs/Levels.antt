-- The level of the leaves.
use Rattle.std.specs.Prelude.{nat_le, max}
use Rattle.std.proofs.Common.{◌≡◌, ℕ, zero, suc, ◌+◌, ◌^◌, ◌<◌, ◌≤◌, ◌⊎◌, Bool, inl, inr, arith}
use Rattle.std.proofs.Math.Nat.{two-pow-succ}
use Rattle.std.proofs.Math.Pow.{pow_mono}
use Rattle.std.proofs.lemmas.Bool.{cases_lt, le-leb, lt-leb, leb-true, leb-false}
use Rattle.std.proofs.lemmas.Nat.{pow_pos}
use Rattle.asc_base.specs.Greatest.{greatest}
use Rattle.asc_base.specs.TreeShape.{levels_of}
use Rattle.asc_base.proofs.Extremes.{greatest_is, greatest_found, greatest_above}

-- a number is below its power of two
pub lt-pow : (k : ℕ) → k < 2 ^ k
lt-pow zero = omega (arith, pow_pos 0)
lt-pow (suc k) = omega (arith, two-pow-succ k, lt-pow k)

-- the level of the leaves is at least 1, its buckets' number plus one is at most that of the blocks or it is 1, and
-- at no
-- greater level it would be
pub record IsLevel (total levels : ℕ) : Type 0 where
  pub some : 1 ≤ levels
  pub room : (levels ≡ 1) ⊎ (2 ^ (levels + 1) ≤ total)
  pub greatest : total < 2 ^ (levels + 2)

-- a tree with leaves at this level has room for no more buckets than there are blocks
abbrev fits : ℕ → ℕ → Bool
fits total level = nat_le (2 ^ (level + 1)) total

pub levels_of_is : (total levels : ℕ) → IsLevel total levels → levels_of total ≡ levels
unfolding levels_of
levels_of_is total levels h =
    elim (cases_lt levels 2) [
      | inl lowest ↦ elim (greatest_found (fits total) total) [
        | inl none ↦ omega (arith, h.some)
        | inr found ↦ elim (cases_lt (greatest (fits total) total) 2) [
          | inl low ↦ omega (arith, h.some)
          | inr high ↦ (let room = leb-true _ _ found in
              let more : 2 ^ (levels + 2) ≤ 2 ^ (greatest (fits total) total + 1) = pow_mono (omega arith) in
              absurd (omega (arith, h.greatest, room)))
        ]
      ]
      | inr higher ↦ elim h.room [
        | inl one ↦ absurd (omega arith)
        | inr room ↦
            (let within : levels ≤ total = omega (
              arith,
              lt-pow levels,
              pow_mono {i = levels} {j = levels + 1} (omega arith),
            ) in
            let same : greatest (fits total) total ≡ levels =
            greatest_is (fits total) total levels within (inr (le-leb _ _ room))
            (λ j over up_to. lt-leb _ _ (omega (
              arith,
              h.greatest,
              pow_mono {i = levels + 2} {j = j + 1} (omega arith),
            ))) in
            omega arith)
      ]
    ]

pub levels_of_level : (total : ℕ) → IsLevel total (levels_of total)
unfolding levels_of
levels_of_level total = record {
  some = omega arith;
  room = elim (greatest_found (fits total) total) [
    | inl none ↦ inl (omega arith)
    | inr found ↦ elim (cases_lt (greatest (fits total) total) 1) [
      | inl low ↦ inl (omega arith)
      | inr high ↦
          (let same : max 1 (greatest (fits total) total) ≡ greatest (fits total) total = omega arith in
          inr (rw same (leb-true _ _ found)))
    ]
  ];
  greatest = elim (cases_lt total (max 1 (greatest (fits total) total) + 1)) [
    | inl few ↦ omega (arith, lt-pow (max 1 (greatest (fits total) total) + 2))
    | inr many ↦
        (let out = greatest_above (fits total) total (max 1 (greatest (fits total) total) + 1) (omega arith)
        (omega arith) in
        let less = leb-false _ _ out in
        let more : 2 ^ (max 1 (greatest (fits total) total) + 1 + 1) ≤ 2 ^ (max 1 (greatest (fits total) total) + 2) =
        pow_mono (omega arith) in
        omega (arith, less, more))
  ];
}

-- no greater level has so many buckets above its leaves
pub levels_of-ge : (total level : ℕ) → 2 ^ (level + 1) ≤ total → level ≤ levels_of total
levels_of-ge total level room =
    elim (cases_lt (levels_of total) level) [
      | inl deeper ↦
          absurd (omega (
            arith,
            (levels_of_level total).greatest,
            pow_mono {i = levels_of total + 2} {j = level + 1} (omega arith),
          ))
      | inr within ↦ within
    ]
