-- The moves of one slot: how many they are, the time of each, and how many come before a time.
use Rattle.std.proofs.Common.{◌≡◌, ◌↔◌, ℕ, zero, suc, ◌+◌, ◌-◌, ◌*◌, ◌/◌, ◌%◌, ◌<◌, ◌≤◌, min, Bool, true, false}
use Rattle.std.proofs.Common.{cond, List, [], ◌∷◌, ◌++◌, length, take, Some, refl, sym, ◌∙◌, ap, arith, inl, inr}
use Rattle.std.proofs.Common.{length-append}
use Rattle.std.specs.Prelude.{nat_lt, slice_get}
use Rattle.std.specs.Option.{option_map}
use Rattle.std.proofs.Math.Seq.{take-append-add}
use Rattle.std.proofs.lemmas.Bool.{lt-ltb, le-ltb, cases_lt}
use Rattle.std.proofs.lemmas.List.{take_all, take-append-le}
use Rattle.std.proofs.lemmas.List.Elements.{filter-append}
use Rattle.bus_watch.specs.declared.log.Move.{Move}
use Rattle.bus_watch.proofs.PathLaws.{length-along}
use Rattle.bus_watch.specs.Path.{move_along, along, reads, writes_start, writes, slot_moves}
use Rattle.bus_schedule.specs.Schedule.{moves_before_time, move_time_of}

slice_get-left : {A : Type 0} (xs ys : List A) (k : ℕ) → k < length xs → slice_get (xs ++ ys) k ≡ slice_get xs k
slice_get-left [] ys k h = absurd (omega arith)
slice_get-left (x ∷ xs) ys zero h = refl
slice_get-left (x ∷ xs) ys (suc k) h = slice_get-left xs ys k (omega arith)

slice_get-right : {A : Type 0} (xs ys : List A) (k j : ℕ) → k ≡ length xs + j
    → slice_get (xs ++ ys) k ≡ slice_get ys j
slice_get-right [] ys k j h = ap (slice_get ys) (let e : k ≡ j = omega arith in e)
slice_get-right (x ∷ xs) ys zero j h = absurd (omega arith)
slice_get-right (x ∷ xs) ys (suc k) j h = slice_get-right xs ys k j (omega arith)

pub along-suc : (levels : ℕ) (write : Bool) (first leaf k : ℕ)
    → along levels write first leaf (suc k)
    ≡ along levels write first leaf k ++ move_along levels write first leaf k ∷ []
unfolding along
along-suc levels write first leaf k = refl

pub length-slot : (levels start leaf : ℕ) → length (slot_moves levels start leaf) ≡ 2 * (levels + 1)
length-slot levels start leaf =
    omega (
      arith,
      length-append (reads levels start leaf) (writes levels start leaf),
      length-along levels false start leaf
          (levels + 1),
      length-along levels true (writes_start levels start) leaf (levels + 1),
    )

pub along-at : (levels : ℕ) (write : Bool) (first leaf n k : ℕ) → k < n
    → slice_get (along levels write first leaf n) k ≡ Some (move_along levels write first leaf k)
unfolding along
along-at levels write first leaf zero k h = absurd (omega arith)
along-at levels write first leaf (suc n) k h =
    let counted : length (along levels write first leaf n) ≡ n = length-along levels write first leaf n in
    elim (cases_lt k n) [
      | inl before ↦ slice_get-left (along levels write first leaf n) (move_along levels write first leaf n ∷ []) k
          (omega arith)
          ∙ along-at levels write first leaf n k before
      | inr after ↦
          (let last : k ≡ n = omega arith in
          slice_get-right (along levels write first leaf n) (move_along levels write first leaf n ∷ []) k 0
          (omega arith)
          ∙ ap (λ i. Some (move_along levels write first leaf i)) (sym last))
    ]

-- the first moves of a path
along-first : (levels : ℕ) (write : Bool) (first leaf k more : ℕ)
    → take k (along levels write first leaf (k + more)) ≡ along levels write first leaf k
unfolding along
along-first levels write first leaf k zero =
    let same : k + 0 ≡ k = omega arith in
    ap (λ n. take k (along levels write first leaf n)) same
    ∙ take_all k (along levels write first leaf k) (omega (arith, length-along levels write first leaf k))
along-first levels write first leaf k (suc more) =
    let next : k + suc more ≡ suc (k + more) = omega arith in
    ap (λ n. take k (along levels write first leaf n)) next
    ∙ take-append-le k (along levels write first leaf (k + more))
    (move_along levels write first leaf (k + more) ∷ [])
    (omega (arith, length-along levels write first leaf (k + more)))
    ∙ along-first levels write first leaf k more

-- and of a slot
pub slot-reads : (levels start leaf k : ℕ) → k ≤ levels + 1
    → take k (slot_moves levels start leaf) ≡ along levels false start leaf k
slot-reads levels start leaf k h =
    let all : levels + 1 ≡ k + (levels + 1 - k) = omega arith in
    take-append-le k (reads levels start leaf) (writes levels start leaf)
    (omega (arith, length-along levels false start leaf (levels + 1)))
    ∙ ap (λ n. take k (along levels false start leaf n)) all
    ∙ along-first levels false start leaf k (levels + 1 - k)

pub slot-writes : (levels start leaf k : ℕ) → k ≤ levels + 1
    → take (levels + 1 + k) (slot_moves levels start leaf)
    ≡ reads levels start leaf ++ along levels true (writes_start levels start) leaf k
slot-writes levels start leaf k h =
    let all : levels + 1 ≡ k + (levels + 1 - k) = omega arith in
    let counted : levels + 1 ≡ length (reads levels start leaf) =
    sym (length-along levels false start leaf (levels + 1)) in
    ap (λ n. take (n + k) (slot_moves levels start leaf)) counted
    ∙ take-append-add (reads levels start leaf) (writes levels start leaf) k
    ∙ ap (λ l. reads levels start leaf ++ l)
    (ap (λ n. take k (along levels true (writes_start levels start) leaf n)) all
    ∙ along-first levels true (writes_start levels start) leaf k (levels + 1 - k))

-- the time of the k-th move of a slot
pub slot-time : (levels start leaf k : ℕ) → k < 2 * (levels + 1)
    → option_map (λ (m : Move). m.time) (slice_get (slot_moves levels start leaf) k)
    ≡ Some (move_time_of start levels k)
slot-time levels start leaf k h =
    let counted : length (reads levels start leaf) ≡ levels + 1 =
    length-along levels false start leaf (levels + 1) in
    elim (cases_lt k (levels + 1)) [
      | inl before ↦
          ap (option_map (λ (m : Move). m.time))
          (slice_get-left (reads levels start leaf) (writes levels start leaf) k (omega arith)
          ∙ along-at levels false start leaf (levels + 1) k before)
          ∙ ap (λ b. Some (cond b (start + 40 * k) (writes_start levels start + 40 * (k - (levels + 1)))))
          (sym (lt-ltb k (levels + 1) before))
      | inr after ↦
          ap (option_map (λ (m : Move). m.time))
          (slice_get-right (reads levels start leaf) (writes levels start leaf) k (k - (levels + 1)) (omega arith)
          ∙ along-at levels true (writes_start levels start) leaf (levels + 1) (k - (levels + 1)) (omega arith))
          ∙ ap (λ b. Some (cond b (start + 40 * k) (writes_start levels start + 40 * (k - (levels + 1)))))
          (sym (le-ltb k (levels + 1) after))
    ]

-- how often 40 goes into a number, rounded up
abbrev pub forties : ℕ → ℕ
forties cycles = cycles / 40 + min 1 (cycles % 40)

min-more : (n c : ℕ) → n < c → min (suc n) c ≡ min n c + 1
min-more n c h = omega arith

-- how many moves of a path come before a time
pub along-before : (levels : ℕ) (write : Bool) (first leaf n end : ℕ)
    → length (moves_before_time end (along levels write first leaf n)) ≡ min (forties (end - first)) n
unfolding along
along-before levels write first leaf zero end = omega arith
along-before levels write first leaf (suc n) end =
    let last : Move = move_along levels write first leaf n in
    let rest : length (moves_before_time end (along levels write first leaf n)) ≡ min (forties (end - first)) n =
    along-before levels write first leaf n end in
    let parts : length (moves_before_time end (along levels write first leaf n ++ last ∷ [])) ≡ length
    (moves_before_time end (along levels write first leaf n)) + length (moves_before_time end (last ∷ [])) =
    ap length (filter-append (λ (m : Move). nat_lt m.time end) (along levels write first leaf n) (last ∷ []))
    ∙ length-append (moves_before_time end (along levels write first leaf n)) (moves_before_time end (last ∷ [])) in
    elim (cases_lt (first + 40 * n) end) [
      | inl before ↦
          (let one : length (moves_before_time end (last ∷ [])) ≡ 1 =
          ap (λ b. length (cond b (last ∷ []) [])) (lt-ltb (first + 40 * n) end before) in
          let more : n < forties (end - first) = omega arith in
          omega (arith, parts, one, rest, more))
      | inr after ↦
          (let none : length (moves_before_time end (last ∷ [])) ≡ 0 =
          ap (λ b. length (cond b (last ∷ []) [])) (le-ltb (first + 40 * n) end after) in
          let same : forties (end - first) ≤ n = omega arith in
          omega (arith, parts, none, rest, same))
    ]

-- how many moves of a slot come before a time
pub slot-before : (levels start leaf end : ℕ)
    → length (moves_before_time end (slot_moves levels start leaf))
    ≡ min (forties (end - start)) (levels + 1) + min (forties (end - start - (40 * (levels + 1) + 16))) (levels + 1)
slot-before levels start leaf end =
    let pause : end - (writes_start levels start) ≡ end - start - (40 * (levels + 1) + 16) = omega arith in
    ap length (filter-append (λ (m : Move). nat_lt m.time end) (reads levels start leaf) (writes levels start leaf))
    ∙ length-append (moves_before_time end (reads levels start leaf))
    (moves_before_time end (writes levels start leaf))
    ∙ ap (λ n. n + length (moves_before_time end (writes levels start leaf)))
    (along-before levels false start leaf (levels + 1) end)
    ∙ ap (λ n. min (forties (end - start)) (levels + 1) + n)
    (along-before levels true (writes_start levels start) leaf (levels + 1) end
    ∙ ap (λ c. min (forties c) (levels + 1)) pause)

-- a slot has a move before a time exactly where it starts before it
pub slot-begun : (levels start leaf end : ℕ)
    → (0 < length (moves_before_time end (slot_moves levels start leaf))) ↔ (start < end)
slot-begun levels start leaf end =
    let number = slot-before levels start leaf end in (
      λ some. elim (cases_lt start end) [
        | inl before ↦ before
        | inr after ↦ absurd (omega (arith, number))
      ],
      λ before.
          let one : 1 ≤ forties (end - start) = omega arith in
          omega (arith, number),
    )
