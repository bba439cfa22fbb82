-- A decimal text read again is its number.
use Rattle.std.proofs.Common.{◌≡◌, ◌∙◌, ℕ, ◌+◌, ◌*◌, ◌/◌, ◌%◌, ◌^◌, ◌<◌, ◌≤◌, List, [], ◌∷◌, ◌++◌, length, ap, refl}
use Rattle.std.proofs.Common.{arith, rules, Bool, true, false}
use Rattle.std.specs.Prelude.{◌==◌, nat_lt, nat_le, ◌&&◌, if◌then◌else◌, Option, Some, None}
use Rattle.std.specs.List.{list_all}
use Rattle.std.specs.Char.{digit_value}
use Rattle.std.specs.Fmt.{decimal}
use Rattle.std.proofs.lemmas.Fmt.{decimal_by_steps, length-decimal-le, decimal_nonempty}
use Rattle.std.proofs.lemmas.Bool.{lt-ltb}
use Rattle.rv32_asm.specs.Scanning.{is_between, digits_after, digits_of}
use Rattle.rv32_asm.proofs.TestLaws.{and_first, and_second, and_both, below, all_both, if_true}

abbrev pub is_digit : ℕ → Bool
is_digit byte = is_between 48 57 byte

pub if_some : (test : Bool) (x y z : Option ℕ) (m : ℕ) → (x ≡ Some m → y ≡ z) → (if test then x else None) ≡ Some m
    → (if test then y else None) ≡ z
if_some true x y z m more e = more e
if_some false x y z m more e = absurd (cc)

-- digits behind digits
pub digits_after-append : (radix n m : ℕ) (xs ys : List ℕ) → digits_after radix n xs ≡ Some m
    → digits_after radix n (xs ++ ys) ≡ digits_after radix m ys
digits_after-append radix n m [] ys e = let same : n ≡ m = cc in ap (λ k. digits_after radix k ys) same
digits_after-append radix n m (byte ∷ xs) ys e =
    if_some (nat_lt (digit_value byte) radix) (digits_after radix (n * radix + digit_value byte) xs)
    (digits_after radix (n * radix + digit_value byte) (xs ++ ys)) (digits_after radix m ys) m
    (digits_after-append radix (n * radix + digit_value byte) m xs ys) e

-- the digits of a number, and the number of these digits
pub record IsDecimal (n : ℕ) (digits : List ℕ) : Type 0 where
  pub all : list_all is_digit digits ≡ true
  pub value : digits_after 10 0 digits ≡ Some n

same_number : (m n : ℕ) → (m == n) ≡ true → m ≡ n
same_number m n e = search rules

abbrev is_right : ℕ → Bool
is_right digit = is_digit (48 + digit) && (digit_value (48 + digit) == digit)

right : (digit : ℕ) → digit < 10 → is_right digit ≡ true
right digit small = below is_right 10 digit refl small

glyph : (digit : ℕ) → digit < 10 → is_digit (48 + digit) ≡ true
glyph digit small = and_first (is_digit (48 + digit)) (digit_value (48 + digit) == digit) (right digit small)

value : (digit : ℕ) → digit < 10 → digit_value (48 + digit) ≡ digit
value digit small =
    same_number (digit_value (48 + digit)) digit
    (and_second (is_digit (48 + digit)) (digit_value (48 + digit) == digit) (right digit small))

-- a digit more
pub one_digit : (number digit : ℕ) → digit < 10 → digits_after 10 number ((48 + digit) ∷ [])
    ≡ Some (number * 10 + digit)
one_digit number digit small =
    let same : digit_value (48 + digit) ≡ digit = value digit small in
    ap (λ v. if nat_lt v 10 then Some (number * 10 + v) else None) same
    ∙ if_true (nat_lt digit 10) (lt-ltb digit 10 small) (Some (number * 10 + digit)) None

pub decimal_is : (n : ℕ) → n < 2 ^ 64 → IsDecimal n (decimal n)
decimal_is n small = decimal_by_steps IsDecimal one more n small
  where
    one : (n : ℕ) → n < 10 → IsDecimal n ((48 + n) ∷ [])
    one n small = record {
      all = and_both (is_digit (48 + n)) true (glyph n small) refl;
      value = one_digit 0 n small ∙ ap Some (omega arith);
    }

    more : (n : ℕ) (digits : List ℕ) → 10 ≤ n → IsDecimal (n / 10) digits → IsDecimal n (digits ++ ((48 + n % 10) ∷ []))
    more n digits large before = record {
      all = all_both is_digit digits ((48 + n % 10) ∷ []) before.all
          (and_both (is_digit (48 + n % 10)) true (glyph (n % 10) (omega arith)) refl);
      value = digits_after-append 10 0 (n / 10) digits ((48 + n % 10) ∷ []) before.value
          ∙ one_digit (n / 10) (n % 10) (omega arith) ∙ ap Some (omega arith);
    }

-- a number of at most ten digits
pub decimal_of : (n : ℕ) → n < 10 ^ 10 → digits_of 10 10 (decimal n) ≡ Some n
decimal_of n small =
    let word : n < 2 ^ 64 = omega arith in
    let some : 1 ≤ length (decimal n) = decimal_nonempty n word in
    let few : length (decimal n) ≤ 10 = length-decimal-le 10 n (omega arith) small word in
    if_true (nat_le 1 (length (decimal n)) && nat_le (length (decimal n)) 10)
    (and_both (nat_le 1 (length (decimal n))) (nat_le (length (decimal n)) 10) (search rules) (search rules))
    (digits_after 10 0 (decimal n)) None
    ∙ (decimal_is n word).value
