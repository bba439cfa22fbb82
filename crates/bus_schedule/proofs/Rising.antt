-- Lists whose elements come in order of time, and where a time cuts them.
use Rattle.std.proofs.Common.{◌≡◌, ℕ, suc, ◌+◌, ◌-◌, ◌<◌, ◌≤◌, cond, List, [], ◌∷◌, ◌++◌, length, refl, sym, ◌∙◌}
use Rattle.std.proofs.Common.{ap, arith, subst, inl, inr, length-append, get_or}
use Rattle.std.specs.Prelude.{nat_lt}
use Rattle.std.specs.List.{filter, All, AllPairs}
use Rattle.std.proofs.lemmas.Bool.{lt-ltb, le-ltb, cases_lt}
use Rattle.std.proofs.lemmas.List.{get_or_append_left, get_or-append_right, get_or_push}
use Rattle.std.proofs.lemmas.List.Elements.{All-head, All-tail, All-nil, All-cons, All-weaker, All-filter}
use Rattle.bus_schedule.specs.Schedule.{GoesOn}

-- All but one of them, and what the first of them is to the others.
pub pairs-tail : {X : Type 0} (R : X → X → Type 0) (x : X) (xs : List X) → AllPairs R (x ∷ xs) → AllPairs R xs
pairs-tail R x xs p = λ i j d before within. p (suc i) (suc j) d (omega arith) (omega arith)

pub pairs-head : {X : Type 0} (R : X → X → Type 0) (x : X) (xs : List X) → AllPairs R (x ∷ xs) → All (R x) xs
pairs-head R x xs p = λ k d within. p 0 (suc k) d (omega arith) (omega arith)

-- two lists, the first before the second
pub pairs-append : {X : Type 0} (R : X → X → Type 0) (xs ys : List X) → AllPairs R xs → AllPairs R ys
    → All (λ x. All (R x) ys) xs → AllPairs R (xs ++ ys)
pairs-append R xs ys p q between = λ i j d before within.
    let counted : length (xs ++ ys) ≡ length xs + length ys = length-append xs ys in
    elim (cases_lt j (length xs)) [
      | inl left ↦
          (let i_in : i < length xs = omega arith in
          subst (λ x. R x (get_or (xs ++ ys) j d)) (sym (get_or_append_left xs ys d i i_in))
          (subst (R (get_or xs i d)) (sym (get_or_append_left xs ys d j left)) (p i j d before left)))
      | inr right ↦
          (let j_in : j - length xs < length ys = omega arith in
          subst (R (get_or (xs ++ ys) i d)) (sym (get_or-append_right xs ys (length xs) j d refl right))
          (elim (cases_lt i (length xs)) [
            | inl first ↦ subst (λ x. R x (get_or ys (j - length xs) d)) (sym (get_or_append_left xs ys d i first))
                (between i d first (j - length xs) d j_in)
            | inr second ↦
                (let later : i - length xs < j - length xs = omega arith in
                subst (λ x. R x (get_or ys (j - length xs) d))
                (sym (get_or-append_right xs ys (length xs) i d refl second))
                (q (i - length xs) (j - length xs) d later j_in))
          ]))
    ]

pub pairs-left : {X : Type 0} (R : X → X → Type 0) (xs ys : List X) → AllPairs R (xs ++ ys) → AllPairs R xs
pairs-left R xs ys p = λ i j d before within.
    let i_in : i < length xs = omega arith in
    let all : j < length (xs ++ ys) = omega (arith, length-append xs ys) in
    subst (λ x. R x (get_or xs j d)) (get_or_append_left xs ys d i i_in)
    (subst (R (get_or (xs ++ ys) i d)) (get_or_append_left xs ys d j within) (p i j d before all))

-- what all before the last of them are to it
pub pairs-last : {X : Type 0} (R : X → X → Type 0) (xs : List X) (y : X) → AllPairs R (xs ++ y ∷ [])
    → All (λ x. R x y) xs
pairs-last R xs y p = λ k d within.
    let all : length xs < length (xs ++ y ∷ []) = omega (arith, length-append xs (y ∷ [])) in
    subst (λ x. R x y) (get_or_append_left xs (y ∷ []) d k within)
    (subst (R (get_or (xs ++ y ∷ []) k d)) (get_or_push xs y d (length xs) refl) (p k (length xs) d within all))

-- all come before a time
pub filter-all : {X : Type 0} (at : X → ℕ) (end : ℕ) (xs : List X) → All (λ x. at x < end) xs
    → filter (λ x. nat_lt (at x) end) xs ≡ xs
filter-all at end [] h = refl
filter-all at end (x ∷ xs) h =
    ap (λ b. cond b (x ∷ filter (λ y. nat_lt (at y) end) xs) (filter (λ y. nat_lt (at y) end) xs))
    (lt-ltb (at x) end (All-head (λ y. at y < end) x xs h))
    ∙ ap (λ l. x ∷ l) (filter-all at end xs (All-tail (λ y. at y < end) x xs h))

-- none of them does
pub filter-none : {X : Type 0} (at : X → ℕ) (end : ℕ) (xs : List X) → All (λ x. end ≤ at x) xs
    → filter (λ x. nat_lt (at x) end) xs ≡ []
filter-none at end [] h = refl
filter-none at end (x ∷ xs) h =
    ap (λ b. cond b (x ∷ filter (λ y. nat_lt (at y) end) xs) (filter (λ y. nat_lt (at y) end) xs))
    (le-ltb (at x) end (All-head (λ y. end ≤ at y) x xs h))
    ∙ filter-none at end xs (All-tail (λ y. end ≤ at y) x xs h)

-- what comes before a time is the first part of what comes in order
pub cut-rising : {X : Type 0} (at : X → ℕ) (gap end : ℕ) (xs : List X) → AllPairs (λ x y. at x + gap ≤ at y) xs
    → GoesOn at end (filter (λ x. nat_lt (at x) end) xs) xs
cut-rising at gap end [] p = record { more = []; parts = refl; after = All-nil (λ x. end ≤ at x) }
cut-rising at gap end (x ∷ xs) p = elim (cases_lt (at x) end) [
  | inl before ↦
      (let c : GoesOn at end (filter (λ y. nat_lt (at y) end) xs) xs =
      cut-rising at gap end xs (pairs-tail (λ x y. at x + gap ≤ at y) x xs p) in
      record {
        more = c.more;
        parts = ap (λ l. x ∷ l) c.parts
            ∙ ap
            (λ b. cond b (x ∷ filter (λ y. nat_lt (at y) end) xs) (filter (λ y. nat_lt (at y) end) xs) ++ c.more)
            (sym (lt-ltb (at x) end before));
        after = c.after;
      })
  | inr late ↦
      (let all : All (λ y. end ≤ at y) (x ∷ xs) =
      All-cons (λ y. end ≤ at y) x xs late
      (All-weaker (λ y. at x + gap ≤ at y) (λ y. end ≤ at y) (λ y h. omega arith) xs
      (pairs-head (λ x y. at x + gap ≤ at y) x xs p)) in
      record { more = x ∷ xs; parts = ap (λ l. l ++ (x ∷ xs)) (sym (filter-none at end (x ∷ xs) all)); after = all })
]

-- So what comes before a later time goes on from what comes before an earlier one.
pub cut-later : {X : Type 0} (at : X → ℕ) (gap end later : ℕ) (xs : List X) → end ≤ later
    → AllPairs (λ x y. at x + gap ≤ at y) xs
    → GoesOn at end (filter (λ x. nat_lt (at x) end) xs) (filter (λ x. nat_lt (at x) later) xs)
cut-later at gap end later [] h p = record { more = []; parts = refl; after = All-nil (λ x. end ≤ at x) }
cut-later at gap end later (x ∷ xs) h p = elim (cases_lt (at x) end) [
  | inl before ↦
      (let c : GoesOn at end (filter (λ y. nat_lt (at y) end) xs) (filter (λ y. nat_lt (at y) later) xs) =
      cut-later at gap end later xs h (pairs-tail (λ x y. at x + gap ≤ at y) x xs p) in
      record {
        more = c.more;
        parts = ap (λ b. cond b (x ∷ filter (λ y. nat_lt (at y) later) xs) (filter (λ y. nat_lt (at y) later) xs))
            (lt-ltb (at x) later (omega arith))
            ∙ ap (λ l. x ∷ l) c.parts
            ∙ ap
            (λ b. cond b (x ∷ filter (λ y. nat_lt (at y) end) xs) (filter (λ y. nat_lt (at y) end) xs) ++ c.more)
            (sym (lt-ltb (at x) end before));
        after = c.after;
      })
  | inr late ↦
      (let all : All (λ y. end ≤ at y) (x ∷ xs) =
      All-cons (λ y. end ≤ at y) x xs late
      (All-weaker (λ y. at x + gap ≤ at y) (λ y. end ≤ at y) (λ y h. omega arith) xs
      (pairs-head (λ x y. at x + gap ≤ at y) x xs p)) in
      record {
        more = filter (λ y. nat_lt (at y) later) (x ∷ xs);
        parts = ap (λ l. l ++ filter (λ y. nat_lt (at y) later) (x ∷ xs)) (sym (filter-none at end (x ∷ xs) all));
        after = All-filter (λ y. nat_lt (at y) later) (λ y. end ≤ at y) (x ∷ xs) all;
      })
]
