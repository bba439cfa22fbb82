-- Lines of counters.
use Rattle.std.proofs.Common.{◌≡◌, ℕ, ◌+◌, ◌^◌, ◌<◌, ◌≤◌, List, length, take, drop, ap, ◌∙◌, arith}
use Rattle.std.specs.Int.Digits.{number_from_digits}
use Rattle.std.proofs.lemmas.List.{take_at, drop_at, take-append-drop, length-take, length-take-le, length-drop}
use Rattle.std.proofs.lemmas.List.{get_or-drop, get_or-take, get_or_past}
use Rattle.std.proofs.lemmas.Bool.{cases_lt}
use Rattle.std.proofs.Math.Nat.{mod-eq_of_lt}
use Rattle.std.proofs.Common.{inl, inr}
use Rattle.posmap_counters.specs.Digits.{digits}
use Rattle.asc_base.specs.Bytes.{AreBytes}
use Rattle.asc_base.proofs.Bytes.{byte_of}
use Rattle.posmap_counters.specs.Group.{AreOwn, line_of, group_of, own_of}
use Rattle.posmap_counters.proofs.DigitLaws.{Below, number-digits, digits-number, number_below, length-digits}

-- the numbers of a part are below the base
pub Below-drop : (base at : ℕ) (ds : List ℕ) → Below base ds → Below base (drop at ds)
Below-drop base at ds below k = rw (get_or-drop at ds k 0) (below (at + k))

pub Below-take : (base n : ℕ) (ds : List ℕ) → 0 < base → Below base ds → Below base (take n ds)
Below-take base n ds some below k =
    elim (cases_lt k n) [
      | inl within ↦ rw (get_or-take n ds k 0 within) (below k)
      | inr past ↦ rw (get_or_past (take n ds) k 0 (omega (arith, length_take n ds))) some
    ]
  where
    length_take : (n : ℕ) (ds : List ℕ) → length (take n ds) ≤ n
    length_take n ds = omega (arith, length-take n ds)

pub group-line : (group : ℕ) (own : List ℕ) → group < 2 ^ 64 → group_of (line_of group own) ≡ group
unfolding line_of group_of
group-line group own fits =
    ap (number_from_digits 256) (take_at (digits 256 8 group) (digits 256 56 (number_from_digits 16384 own)) 8
    (length-digits 256 8 group))
    ∙ number-digits 256 8 group (omega arith) ∙ mod-eq_of_lt fits

-- 32 counters of 14 bits are a number of 56 bytes
own_number : (own : List ℕ) → length own ≡ 32 → AreOwn own → number_from_digits 16384 own < 256 ^ 56
own_number own long are = rw long at (number_below 16384 own are)

pub own-line : (group : ℕ) (own : List ℕ) → length own ≡ 32 → AreOwn own → own_of (line_of group own) ≡ own
unfolding line_of own_of
own-line group own long are =
    ap (λ rest. digits 16384 32 (number_from_digits 256 rest))
    (drop_at (digits 256 8 group) (digits 256 56 (number_from_digits 16384 own)) 8 (length-digits 256 8 group))
    ∙ ap (digits 16384 32) (number-digits 256 56 (number_from_digits 16384 own) (omega arith)
    ∙ mod-eq_of_lt (own_number own long are))
    ∙ digits-number 16384 32 own (omega arith) are long

-- the number of 56 bytes is one of 32 counters
line_number : (line : List ℕ) → length line ≡ 64 → Below 256 line → number_from_digits 256 (drop 8 line) < 16384 ^ 32
line_number line long are =
    let size : length (drop 8 line) ≡ 56 = omega (arith, length-drop 8 line) in
    rw size at (number_below 256 (drop 8 line) (Below-drop 256 8 line are))

pub line-counters : (line : List ℕ) → length line ≡ 64 → AreBytes line → line_of (group_of line) (own_of line) ≡ line
unfolding line_of own_of group_of
line-counters line long bytes =
    let are : Below 256 line = λ k. byte_of line k bytes in
    let front : digits 256 8 (number_from_digits 256 (take 8 line)) ≡ take 8 line =
    digits-number 256 8 (take 8 line) (omega arith) (Below-take 256 8 line (omega arith) are)
    (length-take-le 8 line (omega arith)) in
    let number : number_from_digits 16384 (digits 16384 32 (number_from_digits 256 (drop 8 line)))
    ≡ number_from_digits 256 (drop 8 line) =
    number-digits 16384 32 (number_from_digits 256 (drop 8 line)) (omega arith)
    ∙ mod-eq_of_lt (line_number line long are) in
    let back : digits 256 56 (number_from_digits 256 (drop 8 line)) ≡ drop 8 line =
    digits-number 256 56 (drop 8 line) (omega arith) (Below-drop 256 8 line are) (omega (arith, length-drop 8 line)) in
    rw (front, number, back) (take-append-drop 8 line)
