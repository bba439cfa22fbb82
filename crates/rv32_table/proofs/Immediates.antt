-- The immediates of each form: from bits to the number and back.
use Rattle.std.proofs.Common.{◌≡◌, ℕ, ◌-◌, ◌%◌, ◌^◌, ◌<◌, ◌≤◌, refl, ◌∙◌, ap, arith, false, suc, inl, inr}
use Rattle.std.specs.Prelude.{ℤ, pos, negsuc, ◌-ℤ◌, nat_lt}
use Rattle.std.specs.Int.{w32, cast_unsigned}
use Rattle.std.proofs.lemmas.Int.{ints}
use Rattle.std.proofs.lemmas.Bool.{cases_lt}
use Rattle.std.proofs.lemmas.Bool.Decides.{nat_tests}
use Rattle.rv32_table.specs.Fields.{signed}
use Rattle.rv32_table.specs.Fits.{IsSigned}

by_order : {P : Type 0} (a b : ℕ) → (a < b → P) → (b ≤ a → P) → P
by_order a b f g = elim (cases_lt a b) [ inl below ↦ f below | inr above ↦ g above ]

-- which of both a number of some bits is

signed-low_12 : (value : ℕ) → value < 2048 → signed 12 value ≡ pos value
signed-low_12 value below = grind (arith, nat_tests)

signed-high_12 : (value : ℕ) → 2048 ≤ value → value < 4096 → signed 12 value ≡ negsuc (4095 - value)
signed-high_12 value above below =
    let test : nat_lt value 2048 ≡ false = grind (arith, nat_tests) in
    let high : signed 12 value ≡ (pos value -ℤ pos 4096) = rw test refl in
    let number : (pos value -ℤ pos 4096) ≡ negsuc (4095 - value) = omega (arith, ints) in
    high ∙ number

-- the low 12 bits of a number of 12 bits are these bits
pub cast-signed_12 : (value : ℕ) → value < 4096 → cast_unsigned w32 (signed 12 value) % 2 ^ 12 ≡ value
cast-signed_12 value below = by_order value 2048
    (λ low. ap (λ (z : ℤ). cast_unsigned w32 z % 2 ^ 12) (signed-low_12 value low) ∙ (omega arith))
    (λ high. ap (λ (z : ℤ). cast_unsigned w32 z % 2 ^ 12) (signed-high_12 value high below) ∙ (omega arith))

-- 12 bits are a number of 12 bits
pub IsSigned-signed_12 : (value : ℕ) → value < 4096 → IsSigned 12 (signed 12 value)
IsSigned-signed_12 value below = by_order value 2048
    (λ low. let e : signed 12 value ≡ pos value = signed-low_12 value low in
    record { low = omega (arith, ints, e); high = omega (arith, ints, e) })
    (λ high. let e : signed 12 value ≡ negsuc (4095 - value) = signed-high_12 value high below in
    record { low = omega (arith, ints, e); high = omega (arith, ints, e) })

-- a number of 12 bits is that of its low 12 bits
pub signed-cast_12 : (number : ℤ) → IsSigned 12 number → signed 12 (cast_unsigned w32 number % 2 ^ 12) ≡ number
signed-cast_12 (pos n) fits =
    let below : n < 2048 = omega (arith, ints, fits.high) in
    let same : n % 2 ^ 12 ≡ n = omega arith in
    ap (signed 12) same ∙ signed-low_12 n below
signed-cast_12 (negsuc n) fits =
    let below : n < 2048 = omega (arith, ints, fits.low) in
    let same : (2 ^ 32 - suc n) % 2 ^ 12 ≡ 4095 - n = omega arith in
    let back : 4095 - (4095 - n) ≡ n = omega arith in
    ap (signed 12) same ∙ signed-high_12 (4095 - n) (omega arith) (omega arith) ∙ ap negsuc back

signed-low_13 : (value : ℕ) → value < 4096 → signed 13 value ≡ pos value
signed-low_13 value below = grind (arith, nat_tests)

signed-high_13 : (value : ℕ) → 4096 ≤ value → value < 8192 → signed 13 value ≡ negsuc (8191 - value)
signed-high_13 value above below =
    let test : nat_lt value 4096 ≡ false = grind (arith, nat_tests) in
    let high : signed 13 value ≡ (pos value -ℤ pos 8192) = rw test refl in
    let number : (pos value -ℤ pos 8192) ≡ negsuc (8191 - value) = omega (arith, ints) in
    high ∙ number

-- the low 13 bits of a number of 13 bits are these bits
pub cast-signed_13 : (value : ℕ) → value < 8192 → cast_unsigned w32 (signed 13 value) % 2 ^ 13 ≡ value
cast-signed_13 value below = by_order value 4096
    (λ low. ap (λ (z : ℤ). cast_unsigned w32 z % 2 ^ 13) (signed-low_13 value low) ∙ (omega arith))
    (λ high. ap (λ (z : ℤ). cast_unsigned w32 z % 2 ^ 13) (signed-high_13 value high below) ∙ (omega arith))

-- 13 bits are a number of 13 bits
pub IsSigned-signed_13 : (value : ℕ) → value < 8192 → IsSigned 13 (signed 13 value)
IsSigned-signed_13 value below = by_order value 4096
    (λ low. let e : signed 13 value ≡ pos value = signed-low_13 value low in
    record { low = omega (arith, ints, e); high = omega (arith, ints, e) })
    (λ high. let e : signed 13 value ≡ negsuc (8191 - value) = signed-high_13 value high below in
    record { low = omega (arith, ints, e); high = omega (arith, ints, e) })

-- a number of 13 bits is that of its low 13 bits
pub signed-cast_13 : (number : ℤ) → IsSigned 13 number → signed 13 (cast_unsigned w32 number % 2 ^ 13) ≡ number
signed-cast_13 (pos n) fits =
    let below : n < 4096 = omega (arith, ints, fits.high) in
    let same : n % 2 ^ 13 ≡ n = omega arith in
    ap (signed 13) same ∙ signed-low_13 n below
signed-cast_13 (negsuc n) fits =
    let below : n < 4096 = omega (arith, ints, fits.low) in
    let same : (2 ^ 32 - suc n) % 2 ^ 13 ≡ 8191 - n = omega arith in
    let back : 8191 - (8191 - n) ≡ n = omega arith in
    ap (signed 13) same ∙ signed-high_13 (8191 - n) (omega arith) (omega arith) ∙ ap negsuc back

signed-low_21 : (value : ℕ) → value < 1048576 → signed 21 value ≡ pos value
signed-low_21 value below = grind (arith, nat_tests)

signed-high_21 : (value : ℕ) → 1048576 ≤ value → value < 2097152 → signed 21 value ≡ negsuc (2097151 - value)
signed-high_21 value above below =
    let test : nat_lt value 1048576 ≡ false = grind (arith, nat_tests) in
    let high : signed 21 value ≡ (pos value -ℤ pos 2097152) = rw test refl in
    let number : (pos value -ℤ pos 2097152) ≡ negsuc (2097151 - value) = omega (arith, ints) in
    high ∙ number

-- the low 21 bits of a number of 21 bits are these bits
pub cast-signed_21 : (value : ℕ) → value < 2097152 → cast_unsigned w32 (signed 21 value) % 2 ^ 21 ≡ value
cast-signed_21 value below = by_order value 1048576
    (λ low. ap (λ (z : ℤ). cast_unsigned w32 z % 2 ^ 21) (signed-low_21 value low) ∙ (omega arith))
    (λ high. ap (λ (z : ℤ). cast_unsigned w32 z % 2 ^ 21) (signed-high_21 value high below) ∙ (omega arith))

-- 21 bits are a number of 21 bits
pub IsSigned-signed_21 : (value : ℕ) → value < 2097152 → IsSigned 21 (signed 21 value)
IsSigned-signed_21 value below = by_order value 1048576
    (λ low. let e : signed 21 value ≡ pos value = signed-low_21 value low in
    record { low = omega (arith, ints, e); high = omega (arith, ints, e) })
    (λ high. let e : signed 21 value ≡ negsuc (2097151 - value) = signed-high_21 value high below in
    record { low = omega (arith, ints, e); high = omega (arith, ints, e) })

-- a number of 21 bits is that of its low 21 bits
pub signed-cast_21 : (number : ℤ) → IsSigned 21 number → signed 21 (cast_unsigned w32 number % 2 ^ 21) ≡ number
signed-cast_21 (pos n) fits =
    let below : n < 1048576 = omega (arith, ints, fits.high) in
    let same : n % 2 ^ 21 ≡ n = omega arith in
    ap (signed 21) same ∙ signed-low_21 n below
signed-cast_21 (negsuc n) fits =
    let below : n < 1048576 = omega (arith, ints, fits.low) in
    let same : (2 ^ 32 - suc n) % 2 ^ 21 ≡ 2097151 - n = omega arith in
    let back : 2097151 - (2097151 - n) ≡ n = omega arith in
    ap (signed 21) same ∙ signed-high_21 (2097151 - n) (omega arith) (omega arith) ∙ ap negsuc back
