-- Digits read from the front stay small.
use Rattle.std.proofs.Common.{◌≡◌, ℕ, ◌+◌, ◌*◌, ◌<◌, ◌≤◌, ◌^◌, List, drop, ◌∷◌, ap, sym, ◌∙◌, arith, suc}
use Rattle.std.specs.Prelude.{Bool, true, if◌then◌else◌, nat_lt, refl}
use Rattle.std.specs.Char.{digit_value}
use Rattle.std.proofs.Math.Nat.{mul-le-mul_left, pow-suc, pow-le-pow_right}
use Rattle.std.proofs.lemmas.Bool.{lt-ltb}
use Rattle.rv32_asm.specs.Scanning.{digits_after}

-- after so many digits: the rest completes the number, which is below a power
pub record IsReading (radix : ℕ) (text : List ℕ) (index number : ℕ) : Type 0 where
  pub rest : digits_after radix number (drop index text) ≡ digits_after radix 0 text
  pub small : number < 16 ^ index

-- one digit more
pub below_more : (number index radix digit : ℕ) → number < 16 ^ index → radix ≤ 16 → digit < radix
    → number * radix + digit < 16 ^ suc index
below_more number index radix digit small low below =
    omega (arith, mul-le-mul_left number low, pow-suc 16 index)

-- so many digits have room
pub room : (number index : ℕ) → number < 16 ^ index → index ≤ 10 → number < 2 ^ 40
room number index small low =
    let most : 16 ^ index ≤ 16 ^ 10 = pow-le-pow_right (omega arith) low in omega arith

-- there is room for one digit more
pub times_small : (number index radix : ℕ) → number < 16 ^ index → radix ≤ 16 → index ≤ 10 → number * radix < 2 ^ 44
times_small number index radix small low most =
    omega (arith, mul-le-mul_left number low, room number index small most)

if_true : {A : Type 0} (b : Bool) → b ≡ true → (x y : A) → (if b then x else y) ≡ x
if_true b e x y = rw e refl

-- a digit is read
pub read_more : (radix : ℕ) (text : List ℕ) (index number byte : ℕ) (rest : List ℕ) → IsReading radix text index number
    → radix ≤ 16 → drop index text ≡ byte ∷ rest → drop (suc index) text ≡ rest → digit_value byte < radix
    → IsReading radix text (suc index) (number * radix + digit_value byte)
read_more radix text index number byte rest reading low here behind below =
    let more : digits_after radix number (byte ∷ rest) ≡ digits_after radix 0 text =
    ap (digits_after radix number) (sym here) ∙ reading.rest in
    record {
      rest = rw behind (sym (if_true (nat_lt (digit_value byte) radix) (lt-ltb (digit_value byte) radix below) _ _)
          ∙ more);
      small = below_more number index radix (digit_value byte) reading.small low below;
    }
