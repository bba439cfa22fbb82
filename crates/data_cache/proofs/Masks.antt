-- The rest of a division by a power of two, by a mask.
use Rattle.std.proofs.Common.{◌≡◌, ℕ, suc, ◌-◌, ◌/◌, ◌%◌, ◌^◌, ◌<◌, ◌≤◌, ap, sym, subst, ◌∙◌, inl, inr}
use Rattle.std.specs.Int.{bit_at}
use Rattle.std.specs.Int.Bits.{bit_and}
use Rattle.std.proofs.lemmas.Nat.{leading_top, and_mask, pow_pos}
use Rattle.std.proofs.lemmas.Nat.Bits.{bit_at_and, bit_at-zero}
use Rattle.std.proofs.Math.Nat.{pow-suc}
use Rattle.std.proofs.lemmas.Bool.{cases_lt}
use native.Mathlib.Omega.{arith}

-- a number from 2 ^ k on and below twice that has the bit k
top_bit : (n k : ℕ) → 2 ^ k ≤ n → n < 2 ^ suc k → bit_at n k ≡ 1
top_bit n k least below =
    let once : n / 2 ^ k ≡ 1 = grind (arith, least, below, pow-suc 2 k, pow_pos k) in
    ap (λ m. m % 2) once

-- a number that shares no bit with the one below it is the power of two of its top bit
lone_bit : (count k : ℕ) → 2 ^ k ≤ count → count < 2 ^ suc k → bit_and count (count - 1) ≡ 0 → count ≡ 2 ^ k
lone_bit count k least below apart = elim (cases_lt (2 ^ k) count) [
  | inl more ↦
      let one = top_bit count k least below in
      let before = top_bit (count - 1) k (omega (arith, more)) (omega (arith, below)) in
      let none : bit_at (bit_and count (count - 1)) k ≡ 0 = ap (λ m. bit_at m k) apart ∙ bit_at-zero k in
      let both = bit_at_and count (count - 1) k in
      absurd (omega (arith, one, before, none, both))
  | inr fewer ↦ omega (arith, least, fewer)
]

-- the mask of such a number gives the rest of a division by it
pub masked_is : (n count : ℕ) → 0 < count → count < 2 ^ 64 → bit_and count (count - 1) ≡ 0
    → bit_and n (count - 1) ≡ n % count
masked_is n count some small apart =
    let top = leading_top 64 count some small in
    subst (λ m. bit_and n (m - 1) ≡ n % m) (sym (lone_bit count top.0 top.2 top.3 apart)) (and_mask n top.0)
