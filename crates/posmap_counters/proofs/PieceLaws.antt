-- Lines piece by piece: seven bytes are four own counts.
use Rattle.std.proofs.Common.{◌≡◌, ℕ, ◌+◌, ◌-◌, ◌*◌, ◌/◌, ◌%◌, ◌^◌, ◌<◌, ◌≤◌, List, [], ◌∷◌, ◌++◌, length, take, drop}
use Rattle.std.proofs.Common.{get_or, refl, sym, ap, ◌∙◌, arith, append_assoc, replicate, zero, suc, set, append-nil}
use Rattle.std.proofs.Common.{lit<, Fits, w8, rules}
use Rattle.std.specs.Int.{w64, to_be_bytes}
use Rattle.std.specs.Int.Digits.{number_from_digits}
use borrow.Rule.Slice.PartMut.{put_mid}
use Rattle.std.proofs.lemmas.Int.Digits.{number_after_append}
use Rattle.std.proofs.lemmas.List.{take-append-drop, take-take, drop-take, length-take, length-take-le, length-drop}
use Rattle.std.proofs.lemmas.List.{drop-drop, length-append, take_all}
use Rattle.std.proofs.lemmas.Slice.{take-put_mid}
use Rattle.std.proofs.lemmas.Nat.{one_shl}
use Rattle.std.proofs.Math.Nat.{pow-le-pow_right}
use Rattle.posmap_counters.specs.Digits.{digits}
use Rattle.posmap_counters.specs.Group.{AreOwn, line_of, own_of}
use Rattle.posmap_counters.proofs.DigitLaws.{Below, number_after, number_below, digits-append, length-digits}
use Rattle.posmap_counters.proofs.DigitLaws.{digits_below}
use Rattle.posmap_counters.proofs.LineLaws.{Below-take, Below-drop}

-- the number of four digits, and of seven
pub number_4 : (b : ℕ) (ds : List ℕ) → length ds ≡ 4
    → number_from_digits b ds ≡ ((get_or ds 0 0 * b + get_or ds 1 0) * b + get_or ds 2 0) * b + get_or ds 3 0
number_4 b [] long = absurd (omega arith)
number_4 b (p ∷ []) long = absurd (omega arith)
number_4 b (p ∷ q ∷ []) long = absurd (omega arith)
number_4 b (p ∷ q ∷ r ∷ []) long = absurd (omega arith)
number_4 b (p ∷ q ∷ r ∷ s ∷ []) long = ap (λ x. ((x * b + q) * b + r) * b + s) (first b p)
  where
    first : (b p : ℕ) → 0 * b + p ≡ p
    first b p = omega arith
number_4 b (p ∷ q ∷ r ∷ s ∷ t ∷ ds) long = absurd (omega arith)

pub number_7 : (ds : List ℕ) → length ds ≡ 7
    → number_from_digits 256 ds
    ≡ ((((((get_or ds 0 0 * 256 + get_or ds 1 0) * 256 + get_or ds 2 0) * 256 + get_or ds 3 0) * 256
    + get_or ds 4 0) * 256 + get_or ds 5 0) * 256) + get_or ds 6 0
number_7 [] long = absurd (omega arith)
number_7 (p ∷ []) long = absurd (omega arith)
number_7 (p ∷ q ∷ []) long = absurd (omega arith)
number_7 (p ∷ q ∷ r ∷ []) long = absurd (omega arith)
number_7 (p ∷ q ∷ r ∷ s ∷ []) long = absurd (omega arith)
number_7 (p ∷ q ∷ r ∷ s ∷ t ∷ []) long = absurd (omega arith)
number_7 (p ∷ q ∷ r ∷ s ∷ t ∷ u ∷ []) long = absurd (omega arith)
number_7 (p ∷ q ∷ r ∷ s ∷ t ∷ u ∷ v ∷ []) long = omega arith
number_7 (p ∷ q ∷ r ∷ s ∷ t ∷ u ∷ v ∷ w ∷ ds) long = absurd (omega arith)

-- the number of the first eight bytes
pub number_front : (line : List ℕ) → 8 ≤ length line
    → number_from_digits 256 (take 8 line)
    ≡ (((((((get_or line 0 0 * 256 + get_or line 1 0) * 256 + get_or line 2 0) * 256 + get_or line 3 0) * 256
    + get_or line 4 0) * 256 + get_or line 5 0) * 256) + get_or line 6 0) * 256 + get_or line 7 0
number_front [] long = absurd (omega arith)
number_front (p ∷ []) long = absurd (omega arith)
number_front (p ∷ q ∷ []) long = absurd (omega arith)
number_front (p ∷ q ∷ r ∷ []) long = absurd (omega arith)
number_front (p ∷ q ∷ r ∷ s ∷ []) long = absurd (omega arith)
number_front (p ∷ q ∷ r ∷ s ∷ t ∷ []) long = absurd (omega arith)
number_front (p ∷ q ∷ r ∷ s ∷ t ∷ u ∷ []) long = absurd (omega arith)
number_front (p ∷ q ∷ r ∷ s ∷ t ∷ u ∷ v ∷ []) long = absurd (omega arith)
number_front (p ∷ q ∷ r ∷ s ∷ t ∷ u ∷ v ∷ w ∷ line) long = omega arith

-- a part of a list and the next part
take_next : (i k : ℕ) (xs : List ℕ) → take (i + k) xs ≡ take i xs ++ take k (drop i xs)
take_next i k xs =
    sym (take-append-drop i (take (i + k) xs))
    ∙ ap (λ front. front ++ drop i (take (i + k) xs)) (take-take i (i + k) xs (omega arith))
    ∙ ap (λ back. take i xs ++ back) (drop-take i k xs)

number-append : (b : ℕ) (xs ys : List ℕ) → number_from_digits b (xs ++ ys)
    ≡ number_from_digits b xs * b ^ length ys + number_from_digits b ys
number-append b xs ys = number_after_append b 0 xs ys ∙ number_after b (number_from_digits b xs) ys

-- one more piece: k digits in the one base are j in the other
pub piece_more : (a b j k p q : ℕ) (source : List ℕ) → 0 < a → 0 < b → a ^ j ≡ b ^ k → Below a source
    → p + j ≤ length source
    → digits b (q + k) (number_from_digits a (take (p + j) source))
    ≡ digits b q (number_from_digits a (take p source)) ++ digits b k (number_from_digits a (take j (drop p source)))
piece_more a b j k p q source some_a some_b same below within =
    let size : length (take j (drop p source)) ≡ j =
    length-take-le j (drop p source) (omega (arith, length-drop p source)) in
    let low : number_from_digits a (take j (drop p source)) < a ^ j =
    rw size at (number_below a (take j (drop p source)) (Below-take a j (drop p source) some_a
    (Below-drop a p source below))) in
    let number : number_from_digits a (take (p + j) source)
    ≡ number_from_digits a (take p source) * b ^ k + number_from_digits a (take j (drop p source)) =
    ap (number_from_digits a) (take_next p j source)
    ∙ number-append a (take p source) (take j (drop p source))
    ∙ ap (λ x. number_from_digits a (take p source) * x + number_from_digits a (take j (drop p source)))
    (ap (λ x. a ^ x) size ∙ same) in
    ap (digits b (q + k)) number
    ∙ digits-append b q k (number_from_digits a (take p source)) (number_from_digits a (take j (drop p source))) some_b
    (rw (← same) low)

-- eight bytes, highest first
pub be_bytes-digits : (n : ℕ) → to_be_bytes w64 n ≡ digits 256 8 n
unfolding digits
be_bytes-digits n = let last : n / 1 ≡ n = omega arith in rw last refl

-- the last seven of them
pub packed_is : (bytes : List ℕ) (m n : ℕ) → bytes ≡ to_be_bytes w64 n → n ≡ m
    → (get_or bytes 1 0 ∷ get_or bytes 2 0 ∷ get_or bytes 3 0 ∷ get_or bytes 4 0 ∷ get_or bytes 5 0 ∷ get_or bytes 6 0
    ∷ get_or bytes 7 0 ∷ []) ≡ digits 256 7 m
unfolding digits
packed_is bytes m n are same = let last : m / 1 ≡ m = omega arith in rw (are, same, last) refl

-- four counters of a number of 56 bits
pub four_is : (m n : ℕ) → n ≡ m → m < 2 ^ 56
    → (n / 4398046511104 ∷ n / 268435456 % 16384 ∷ n / 16384 % 16384 ∷ n % 16384 ∷ []) ≡ digits 16384 4 m
unfolding digits
four_is m n same below =
    let last : m / 1 ≡ m = omega arith in
    let first : m / 4398046511104 % 16384 ≡ m / 4398046511104 = omega arith in
    rw (same, last, first) refl

-- what a write of a part leaves has the old length
pub length-put_mid : (a k : ℕ) (xs ys : List ℕ) → a + k ≤ length xs → length ys ≡ k
    → length (put_mid a k xs ys) ≡ length xs
length-put_mid a k xs ys within size =
    omega (
      arith,
      length-append (take a xs) (ys ++ drop k (drop a xs)),
      length-append ys (drop k (drop a xs)),
      length-take a xs,
      length-drop k (drop a xs),
      length-drop a xs,
    )

-- one more piece of a line
pub line_more : (group p k : ℕ) (line seven own : List ℕ) → length line ≡ 64 → length own ≡ 32 → AreOwn own → p < 8
    → k ≡ 7
    → take (8 + 7 * p) line ≡ digits 256 8 group ++ digits 256 (7 * p) (number_from_digits 16384 (take (4 * p) own))
    → seven ≡ digits 256 7 (number_from_digits 16384 (take 4 (drop (4 * p) own)))
    → (length (put_mid (8 + 7 * p) k line seven) ≡ 64)
    × (take (8 + 7 * (p + 1)) (put_mid (8 + 7 * p) k line seven)
    ≡ digits 256 8 group ++ digits 256 (7 * (p + 1)) (number_from_digits 16384 (take (4 * (p + 1)) own)))
line_more group p k line seven own long size are inside width held is =
    let seven_long : length seven ≡ 7 = ap length is
    ∙ length-digits 256 7 (number_from_digits 16384 (take 4 (drop (4 * p) own))) in
    let bytes : 7 * (p + 1) ≡ 7 * p + 7 = omega arith in
    let counts : 4 * (p + 1) ≡ 4 * p + 4 = omega arith in (
      length-put_mid (8 + 7 * p) k line seven (omega arith) (seven_long ∙ sym width) ∙ long,
      take-put_mid (8 + 7 * p) k line seven (8 + 7 * (p + 1)) (omega arith) (omega arith)
          ∙ ap (λ x. x ++ seven) held
          ∙ append_assoc (digits 256 8 group) (digits 256 (7 * p) (number_from_digits 16384 (take (4 * p) own))) seven
          ∙ ap (λ x. digits 256 8 group ++ (digits 256 (7 * p) (number_from_digits 16384 (take (4 * p) own)) ++ x)) is
          ∙ ap (λ x. digits 256 8 group ++ x) (sym (piece_more 16384 256 4 7 (4 * p) (7 * p) own (omega arith)
          (omega arith) refl are (omega arith)))
          ∙ rw (bytes, counts) refl,
    )

-- all pieces of a line
pub line_whole : (group p : ℕ) (line own : List ℕ) → length line ≡ 64 → length own ≡ 32 → p ≡ 8
    → take (8 + 7 * p) line ≡ digits 256 8 group ++ digits 256 (7 * p) (number_from_digits 16384 (take (4 * p) own))
    → line ≡ line_of group own
unfolding line_of
line_whole group p line own long size last held =
    sym (take_all 64 line (omega arith))
    ∙ ap (λ x. take (8 + 7 * x) line) (sym last) ∙ held
    ∙ ap (λ x. digits 256 8 group ++ digits 256 (7 * x) (number_from_digits 16384 (take (4 * x) own))) last
    ∙ ap (λ x. digits 256 8 group ++ digits 256 56 (number_from_digits 16384 x)) (take_all 32 own (omega arith))

-- one more piece of own counts
pub own_more : (p k : ℕ) (line four own : List ℕ) → length line ≡ 64 → length own ≡ 32 → Below 256 line → p < 8 → k ≡ 4
    → take (4 * p) own ≡ digits 16384 (4 * p) (number_from_digits 256 (take (7 * p) (drop 8 line)))
    → four ≡ digits 16384 4 (number_from_digits 256 (take 7 (drop (8 + 7 * p) line)))
    → (length (put_mid (4 * p) k own four) ≡ 32)
    × (take (4 * (p + 1)) (put_mid (4 * p) k own four)
    ≡ digits 16384 (4 * (p + 1)) (number_from_digits 256 (take (7 * (p + 1)) (drop 8 line))))
own_more p k line four own long size are inside width held is =
    let four_long : length four ≡ 4 = ap length is
    ∙ length-digits 16384 4 (number_from_digits 256 (take 7 (drop (8 + 7 * p) line))) in
    let bytes : 7 * (p + 1) ≡ 7 * p + 7 = omega arith in
    let counts : 4 * (p + 1) ≡ 4 * p + 4 = omega arith in (
      length-put_mid (4 * p) k own four (omega arith) (four_long ∙ sym width) ∙ size,
      take-put_mid (4 * p) k own four (4 * (p + 1)) (omega arith) (omega arith)
          ∙ ap (λ x. x ++ four) held
          ∙ ap (λ x. digits 16384 (4 * p) (number_from_digits 256 (take (7 * p) (drop 8 line))) ++ x)
          (is ∙ ap (λ x. digits 16384 4 (number_from_digits 256 (take 7 x))) (sym (drop-drop (7 * p) 8 line)))
          ∙ sym (piece_more 256 16384 7 4 (7 * p) (4 * p) (drop 8 line) (omega arith) (omega arith) refl
          (Below-drop 256 8 line are) (omega (arith, length-drop 8 line)))
          ∙ rw (bytes, counts) refl,
    )

-- all pieces of own counts
pub own_whole : (p : ℕ) (line own : List ℕ) → length line ≡ 64 → length own ≡ 32 → p ≡ 8
    → take (4 * p) own ≡ digits 16384 (4 * p) (number_from_digits 256 (take (7 * p) (drop 8 line)))
    → own ≡ own_of line
unfolding own_of
own_whole p line own long size last held =
    sym (take_all 32 own (omega arith))
    ∙ ap (λ x. take (4 * x) own) (sym last) ∙ held
    ∙ ap (λ x. digits 16384 (4 * x) (number_from_digits 256 (take (7 * x) (drop 8 line)))) last
    ∙ ap (λ x. digits 16384 32 (number_from_digits 256 x)) (take_all 56 (drop 8 line)
    (omega (arith, length-drop 8 line)))

-- the own counts in a line are in their range
pub own_below : (line : List ℕ) → AreOwn (own_of line)
unfolding own_of
own_below line = digits_below 16384 32 (number_from_digits 256 (drop 8 line)) (omega arith)

-- own counts of 0 are
pub zeros_below : (n : ℕ) → AreOwn (replicate n 0)
zeros_below zero child = omega arith
zeros_below (suc n) zero = omega arith
zeros_below (suc n) (suc child) = zeros_below n child

-- and they stay so under a write
pub own_set : (own : List ℕ) (child value : ℕ) → AreOwn own → value < 16384 → AreOwn (set own child value)
own_set [] child value are low k = are k
own_set (x ∷ own) zero value are low zero = low
own_set (x ∷ own) zero value are low (suc k) = are (suc k)
own_set (x ∷ own) (suc child) value are low zero = are 0
own_set (x ∷ own) (suc child) value are low (suc k) = own_set own child value (λ i. are (suc i)) low k

-- no digits
pub digits-zero : (base number : ℕ) → [] ≡ digits base 0 number
unfolding digits
digits-zero base number = refl

pub no_digits : (n base number : ℕ) (line : List ℕ) → take n line ≡ digits base n number
    → take n line ≡ digits base n number ++ digits base 0 0
unfolding digits
no_digits n base number line held = held ∙ sym (append-nil (digits base n number))

-- an own count below the greatest of so many bits has room for one more
pub room : (ic own : ℕ) → ic ≤ 14 → own < 1 * 2 ^ ic % 2 ^ 16 - 1 → own + 1 < 16384
room ic own most below =
    let whole : 1 * 2 ^ ic % 2 ^ 16 ≡ 2 ^ ic = one_shl ic 16 (omega arith) in
    let bound : 2 ^ ic ≤ 2 ^ 14 = pow-le-pow_right (lit< tt) most in
    omega (arith, whole, bound)

-- bytes are below 256
pub bytes_fit : (bytes : List ℕ) → ((i : ℕ) → Fits w8 (get_or bytes i 0)) → Below 256 bytes
bytes_fit bytes fit i = search (rules, fit i)
