-- Digits and the numbers that they make, in any base.
use Rattle.std.proofs.Common.{◌≡◌, ℕ, zero, suc, ◌+◌, ◌-◌, ◌*◌, ◌/◌, ◌%◌, ◌^◌, ◌<◌, ◌≤◌, List, [], ◌∷◌, ◌++◌, length}
use Rattle.std.proofs.Common.{get_or, refl, sym, ap, ◌∙◌, arith, zero-add}
use Rattle.std.specs.Int.Digits.{number_from_digits, number_from_digits_after}
use Rattle.std.proofs.lemmas.Nat.{div-mul-add, mod-mul-add, mod_below, mul-add-lt, pow-add}
use Rattle.std.proofs.Math.Nat.{pow-suc, pow-zero, mul_assoc, mul_comm, add-mul, div-div-eq-div-mul, mul-add-div_right}
use Rattle.std.proofs.Math.Nat.{mul-add-mod_self_right, one-le-pow}
use lib.Arith.{mod-mul}
use Rattle.posmap_counters.specs.Digits.{digits}

-- every number of a list is below the base
abbrev pub Below : ℕ → List ℕ → Type 0
Below base ds = (k : ℕ) → get_or ds k 0 < base

pub Below-tail : (base d : ℕ) (ds : List ℕ) → Below base (d ∷ ds) → Below base ds
Below-tail base d ds below k = below (suc k)

pub pow_above : (base k : ℕ) → 0 < base → 0 < base ^ k
pow_above base k some = one-le-pow k base some

-- one more digit in front of a product
spread : (n b d p : ℕ) → (n * b + d) * p ≡ n * (p * b) + d * p
spread n b d p =
    add-mul (n * b) d p
    ∙ ap (λ x. x + d * p) (mul_assoc n b p ∙ ap (λ x. n * x) (mul_comm b p))

-- the number of digits after those of n
pub number_after : (b n : ℕ) (ds : List ℕ) → number_from_digits_after b n ds
    ≡ n * b ^ length ds + number_from_digits b ds
number_after b n [] = rw (pow-zero b) (omega arith)
number_after b n (d ∷ ds) =
    let here = number_after b (n * b + d) ds in
    let first = number_after b (0 * b + d) ds in
    let wide = spread n b d (b ^ length ds) in
    let narrow = spread 0 b d (b ^ length ds) in
    rw (pow-suc b (length ds)) (omega (arith, here, first, wide, narrow))

-- a number of so many digits is below the power
pub number_below : (b : ℕ) (ds : List ℕ) → Below b ds → number_from_digits b ds < b ^ length ds
number_below b [] below = rw (pow-zero b) (omega arith)
number_below b (d ∷ ds) below =
    let later : number_from_digits b ds < b ^ length ds = number_below b ds (Below-tail b d ds below) in
    let first : number_from_digits_after b (0 * b + d) ds ≡ (0 * b + d) * b ^ length ds + number_from_digits b ds =
    number_after b (0 * b + d) ds in
    let narrow = spread 0 b d (b ^ length ds) in
    rw (pow-suc b (length ds)) (below_next d b (b ^ length ds) (number_from_digits b ds) _ (below 0) later
    (omega (arith, first, narrow)))
  where
    below_next : (d b p low x : ℕ) → d < b → low < p → x ≡ d * p + low → x < p * b
    below_next d b p low x under less is = rw is (mul-add-lt d p low b under less)

pub length-digits : (b k n : ℕ) → length (digits b k n) ≡ k
unfolding digits
length-digits b zero n = refl
length-digits b (suc k) n = ap suc (length-digits b k n)

pub digits_below : (b k n : ℕ) → 0 < b → Below b (digits b k n)
unfolding digits
digits_below b zero n some i = some
digits_below b (suc k) n some zero = mod_below (n / b ^ k) b some
digits_below b (suc k) n some (suc i) = digits_below b k n some i

-- the digits of the number of digits
pub digits-number_after : (b n : ℕ) (ds : List ℕ) → 0 < b → Below b ds
    → digits b (length ds) (number_from_digits_after b n ds) ≡ ds
unfolding digits
digits-number_after b n [] some below = refl
digits-number_after b n (d ∷ ds) some below =
    let tail = Below-tail b d ds below in
    let whole : number_from_digits_after b (n * b + d) ds / b ^ length ds ≡ n * b + d =
    rw (number_after b (n * b + d) ds) (div-mul-add (n * b + d) (b ^ length ds) (number_from_digits b ds)
    (number_below b ds tail)) in
    let first : number_from_digits_after b (n * b + d) ds / b ^ length ds % b ≡ d =
    rw whole (mod-mul-add n b d (below 0)) in
    ap (λ x. x ∷ digits b (length ds) (number_from_digits_after b (n * b + d) ds)) first
    ∙ ap (λ rest. d ∷ rest) (digits-number_after b (n * b + d) ds some tail)

pub digits-number : (b k : ℕ) (ds : List ℕ) → 0 < b → Below b ds → length ds ≡ k
    → digits b k (number_from_digits b ds) ≡ ds
digits-number b k ds some below long = rw (← long) (digits-number_after b 0 ds some below)

-- the number of the digits of a number
pub number-digits : (b k n : ℕ) → 0 < b → number_from_digits b (digits b k n) ≡ n % b ^ k
unfolding digits
number-digits b zero n some = rw (pow-zero b) (omega arith)
number-digits b (suc k) n some =
    let q : ℕ = n / b ^ k % b in
    let first = number_after b (0 * b + q) (digits b k n) in
    let later = number-digits b k n some in
    let split : n % (b * b ^ k) ≡ (n / b ^ k % b) * b ^ k + n % b ^ k = mod-mul n some (pow_above b k some) in
    rw (pow-suc b k, mul_comm (b ^ k) b, split) (first
    ∙ rw (length-digits b k n, later) (omega (arith, spread 0 b q (b ^ k))))

-- a multiple of a greater power, as a multiple of the next power
higher : (b k e n m : ℕ) → suc k ≤ e → n * b ^ e + m ≡ n * b ^ (e - suc k) * b * b ^ k + m
higher b k e n m within =
    let parts : e ≡ (e - suc k) + 1 + k = omega arith in
    let power : b ^ e ≡ b ^ (e - suc k) * b * b ^ k =
    ap (λ x. b ^ x) parts ∙ pow-add b ((e - suc k) + 1) k
    ∙ ap (λ x. x * b ^ k) (pow-add b (e - suc k) 1 ∙ ap (λ x. b ^ (e - suc k) * x) (one_power b)) in
    ap (λ x. n * x + m) power
    ∙ ap (λ x. x + m) (sym (mul_assoc n (b ^ (e - suc k) * b) (b ^ k))
    ∙ ap (λ x. x * b ^ k) (sym (mul_assoc n (b ^ (e - suc k)) b)))
  where
    one_power : (b : ℕ) → b ^ 1 ≡ b
    one_power b = pow-suc b 0 ∙ ap (λ x. x * b) (pow-zero b) ∙ omega arith

-- the low digits don't see what stands above them
low_digits : (b k e n m : ℕ) → 0 < b → k ≤ e → digits b k (n * b ^ e + m) ≡ digits b k m
unfolding digits
low_digits b zero e n m some within = refl
low_digits b (suc k) e n m some within =
    let z : ℕ = n * b ^ (e - suc k) in
    let whole : (n * b ^ e + m) / b ^ k ≡ z * b + m / b ^ k =
    ap (λ x. x / b ^ k) (higher b k e n m within) ∙ mul-add-div_right (pow_above b k some) (z * b) m in
    let first : (n * b ^ e + m) / b ^ k % b ≡ m / b ^ k % b =
    ap (λ x. x % b) whole ∙ mul-add-mod_self_right z b (m / b ^ k) in
    ap (λ x. x ∷ digits b k (n * b ^ e + m)) first
    ∙ ap (λ rest. m / b ^ k % b ∷ rest) (low_digits b k e n m some (omega arith))

-- digits in two parts
pub digits-append : (b j k n m : ℕ) → 0 < b → m < b ^ k
    → digits b (j + k) (n * b ^ k + m) ≡ digits b j n ++ digits b k m
unfolding digits
digits-append b zero k n m some low = ap (λ x. digits b x (n * b ^ k + m)) (zero-add k)
    ∙ low_digits b k k n m some (omega arith)
digits-append b (suc j) k n m some low =
    let more : suc j + k ≡ suc (j + k) = omega arith in
    let whole : (n * b ^ k + m) / b ^ (j + k) ≡ n / b ^ j =
    ap (λ x. (n * b ^ k + m) / x) (pow-add b j k ∙ mul_comm (b ^ j) (b ^ k))
    ∙ sym (div-div-eq-div-mul (n * b ^ k + m) (b ^ k) (b ^ j))
    ∙ ap (λ x. x / b ^ j) (div-mul-add n (b ^ k) m low) in
    ap (λ x. digits b x (n * b ^ k + m)) more
    ∙ ap (λ x. x % b ∷ digits b (j + k) (n * b ^ k + m)) whole
    ∙ ap (λ rest. n / b ^ j % b ∷ rest) (digits-append b j k n m some low)
