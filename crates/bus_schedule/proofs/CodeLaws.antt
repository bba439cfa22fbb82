-- Codes and their digits.
use Rattle.std.proofs.Common.{◌≡◌, ℕ, zero, suc, ◌+◌, ◌-◌, ◌*◌, ◌/◌, ◌%◌, ◌^◌, ◌<◌, ◌≤◌, List, [], ◌∷◌, ◌++◌}
use Rattle.std.proofs.Common.{length, get_or, All, sym, ◌∙◌, ap, arith}
use Rattle.std.proofs.Math.Nat.{pow-zero, pow-suc, pow-succ', one-le-pow, mul_assoc, mul_comm, mul-one, mul-add}
use Rattle.std.proofs.Math.Nat.{add-mul-div_right, add-mul-mod_self_right, mod-add-div', mod-eq_of_lt}
use Rattle.std.proofs.Math.Nat.{div-div-eq-div-mul, div-one}
use Rattle.std.proofs.lemmas.Nat.{pow-add, mul-le, div-mul-add, mod-mul-add}
use Rattle.bus_schedule.specs.Timetable.{digit_of}
use Rattle.bus_schedule.specs.Shown.{code_of}

-- one more digit
pub code-append : (base : ℕ) (digits : List ℕ) (index : ℕ)
    → code_of base (digits ++ index ∷ []) ≡ code_of base digits + index * base ^ length digits
unfolding code_of
code-append base [] index =
    let one : index * base ^ length {A = ℕ} [] ≡ index = ap (λ n. index * n) (pow-zero base) ∙ mul-one index in
    omega (arith, one)
code-append base (digit ∷ digits) index =
    ap (λ n. digit + base * n) (code-append base digits index)
    ∙ spread (code_of base digits) (base ^ length digits)
    ∙ ap (λ n. digit + base * code_of base digits + index * n) (sym (pow-succ' base (length digits)))
  where
    spread : (code weight : ℕ) → digit + base * (code + index * weight) ≡ digit + base * code + index * (base * weight)
    spread code weight =
        let turned : base * (index * weight) ≡ index * (base * weight) =
        sym (mul_assoc base index weight) ∙ ap (λ n. n * weight) (mul_comm base index) ∙ mul_assoc index base weight in
        omega (arith, mul-add base code (index * weight), turned)

-- a code has a place above all its digits
pub code-below : (base : ℕ) (digits : List ℕ) → All (λ digit. digit < base) digits
    → code_of base digits < base ^ length digits
unfolding code_of
code-below base [] within = let one : base ^ length {A = ℕ} [] ≡ 1 = pow-zero base in omega (arith, one)
code-below base (digit ∷ digits) within =
    let rest : code_of base digits < base ^ length digits =
    code-below base digits (λ k d h. within (suc k) d (omega arith)) in
    let below : code_of base digits + 1 ≤ base ^ length digits = omega arith in
    omega (
      arith,
      within 0 0 (omega arith),
      mul-le base (code_of base digits + 1) base (base ^ length digits) (omega arith) below,
      mul-add base (code_of base digits) 1,
      pow-succ' base (length digits),
    )

-- the digits of a code
pub digit-of-code : (base : ℕ) (digits : List ℕ) (place : ℕ) → All (λ digit. digit < base) digits
    → place < length digits → digit_of (code_of base digits) base place ≡ get_or digits place 0
unfolding code_of
digit-of-code base [] place within below = absurd (omega arith)
digit-of-code base (digit ∷ digits) zero within below =
    ap (λ n. (digit + base * code_of base digits) / n % base) (pow-zero base)
    ∙ ap (λ n. n % base) (div-one (digit + base * code_of base digits))
    ∙ ap (λ n. n % base) (turn digit base (code_of base digits))
    ∙ mod-mul-add (code_of base digits) base digit (within 0 0 (omega arith))
  where
    turn : (d b c : ℕ) → d + b * c ≡ c * b + d
    turn d b c = omega (arith, mul_comm b c)
digit-of-code base (digit ∷ digits) (suc place) within below =
    ap (λ n. (digit + base * code_of base digits) / n % base) (pow-succ' base place)
    ∙ ap (λ n. n % base) (sym (div-div-eq-div-mul (digit + base * code_of base digits) base (base ^ place)))
    ∙ ap (λ n. n / base ^ place % base)
    (ap (λ n. n / base) (turn digit base (code_of base digits))
    ∙ div-mul-add (code_of base digits) base digit (within 0 0 (omega arith)))
    ∙ digit-of-code base digits place (λ k d h. within (suc k) d (omega arith)) (omega arith)
  where
    turn : (d b c : ℕ) → d + b * c ≡ c * b + d
    turn d b c = omega (arith, mul_comm b c)

-- a higher digit leaves the lower ones
pub digit-lower : (base code places index place : ℕ) → 1 ≤ base → place < places
    → digit_of (code + index * base ^ places) base place ≡ digit_of code base place
digit-lower base code places index place some below =
    let weight : ℕ = base ^ place in
    let rest : ℕ = index * base ^ (places - place - 1) in
    let parts : base ^ places ≡ base ^ (places - place - 1) * base * base ^ place =
    ap (λ n. base ^ n) (split places place below)
    ∙ pow-add base (suc (places - place - 1)) place
    ∙ ap (λ n. n * base ^ place) (pow-suc base (places - place - 1)) in
    let moved : index * base ^ places ≡ index * base ^ (places - place - 1) * base * base ^ place =
    ap (λ n. index * n) parts
    ∙ sym (mul_assoc index (base ^ (places - place - 1) * base) (base ^ place))
    ∙ ap (λ n. n * base ^ place) (sym (mul_assoc index (base ^ (places - place - 1)) base)) in
    ap (λ n. (code + n) / base ^ place % base) moved
    ∙ ap (λ n. n % base)
    (add-mul-div_right code (index * base ^ (places - place - 1) * base) {z = base ^ place}
    (one-le-pow place base some))
    ∙ add-mul-mod_self_right (code / base ^ place) (index * base ^ (places - place - 1)) base
  where
    split : (places place : ℕ) → place < places → places ≡ suc (places - place - 1) + place
    split places place below = omega arith

-- the highest digit
pub digit-highest : (base code places index : ℕ) → code < base ^ places → index < base
    → digit_of (code + index * base ^ places) base places ≡ index
digit-highest base code places index below within =
    let turned : code + index * base ^ places ≡ index * base ^ places + code = omega arith in
    ap (λ n. n / base ^ places % base) turned
    ∙ ap (λ n. n % base) (div-mul-add index (base ^ places) code below)
    ∙ mod-eq_of_lt within

-- what is left of a code below a place has the same digits below it
pub digit-rest : (base code places place : ℕ) → 1 ≤ base → place < places
    → digit_of (code % base ^ places) base place ≡ digit_of code base place
digit-rest base code places place some below =
    sym (digit-lower base (code % base ^ places) places (code / base ^ places) place some below)
    ∙ ap (λ n. digit_of n base place) (mod-add-div' code (base ^ places))
