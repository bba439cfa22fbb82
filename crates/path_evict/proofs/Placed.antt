-- What is placed and what stays, of any items.
use Rattle.std.proofs.Common.{◌≡◌, ◌<◌, ◌≤◌, ◌+◌, ℕ, zero, suc, Bool, true, false, if◌then◌else◌, List, [], ◌∷◌}
use Rattle.std.proofs.Common.{length, map, drop, get_or, is_none, Option, None, Some, count_by, All}
use Rattle.std.proofs.Common.{refl, sym, ◌∙◌, ap, ap₂, inl, inr, arith}
use Rattle.std.specs.Prelude.{nat_lt, AllPairs}
use Rattle.std.proofs.lemmas.Bool.{cases_Bool, cases_lt, lt-ltb, le-ltb}
use Rattle.std.proofs.lemmas.Bool.Decides.{eqb_tells}
use Rattle.std.proofs.lemmas.List.{drop_more}
use Rattle.std.proofs.lemmas.List.Elements.{All-cons, All-head, All-tail}
use Rattle.asc_base.specs.Has.{Has}
use Rattle.asc_base.proofs.Lookups.{count_by-yes, count_by-no, count_by-cons}
use Rattle.asc_base.proofs.Members.{all_has, has_all}
use Rattle.path_evict.specs.Placement.{slots, Fits, IsPlacement, stands_at}
use Rattle.path_evict.specs.Placed.{where_placed, taken_at, kept, count_below}

pub where_placed-yes : {A : Type 0} (test : Option ℕ → Bool) (place : Option ℕ) (places : List (Option ℕ)) (item : A)
    (items : List A) → test place ≡ true
    → where_placed test (place ∷ places) (item ∷ items) ≡ item ∷ where_placed test places items
where_placed-yes test place places item items is = rw is refl

pub where_placed-no : {A : Type 0} (test : Option ℕ → Bool) (place : Option ℕ) (places : List (Option ℕ)) (item : A)
    (items : List A) → test place ≡ false
    → where_placed test (place ∷ places) (item ∷ items) ≡ where_placed test places items
where_placed-no test place places item items is = rw is refl

-- an item whose place meets the test is the first of those from there on
pub where_placed-next : {A : Type 0} (test : Option ℕ → Bool) (places : List (Option ℕ)) (items : List A) (at : ℕ)
    (p : Option ℕ) (d : A) → at < length places → at < length items → test (get_or places at p) ≡ true
    → where_placed test (drop at places) (drop at items)
    ≡ get_or items at d ∷ where_placed test (drop (at + 1) places) (drop (at + 1) items)
where_placed-next test places items at p d in_places in_items is =
    ap₂ (where_placed test) (drop_more places at p in_places) (drop_more items at d in_items)
    ∙ where_placed-yes test (get_or places at p) (drop (at + 1) places) (get_or items at d) (drop (at + 1) items) is

-- another one is passed over
pub where_placed-skip : {A : Type 0} (test : Option ℕ → Bool) (places : List (Option ℕ)) (items : List A) (at : ℕ)
    (p : Option ℕ) → at < length places → at < length items → test (get_or places at p) ≡ false
    → where_placed test (drop at places) (drop at items) ≡ where_placed test (drop (at + 1) places)
    (drop (at + 1) items)
where_placed-skip test places [] at p in_places in_items is = absurd (omega arith)
where_placed-skip test places (first ∷ items) at p in_places in_items is =
    ap₂ (where_placed test) (drop_more places at p in_places) (drop_more (first ∷ items) at first in_items)
    ∙ where_placed-no test (get_or places at p) (drop (at + 1) places) (get_or (first ∷ items) at first)
    (drop (at + 1) (first ∷ items)) is

-- what is placed was among the items
pub where_placed-has : {A : Type 0} (test : Option ℕ → Bool) (places : List (Option ℕ)) (items : List A) (x : A)
    → Has x (where_placed test places items) → Has x items
where_placed-has test [] items x h = absurd h
where_placed-has test (place ∷ places) [] x h = absurd h
where_placed-has test (place ∷ places) (item ∷ items) x h = by (test place) h (where_placed-has test places items x)
  where
    by : (b : Bool) → Has x (if b then (item ∷ where_placed test places items) else where_placed test places items)
        → (Has x (where_placed test places items) → Has x items) → Has x (item ∷ items)
    by true (inl is) next = inl is
    by true (inr h) next = inr (next h)
    by false h next = inr (next h)

pub All-where_placed : {A : Type 0} (P : A → Type 0) (test : Option ℕ → Bool) (places : List (Option ℕ))
    (items : List A) → All P items → All P (where_placed test places items)
All-where_placed P test places items all =
    has_all P (where_placed test places items) (λ x h. all_has P x items all (where_placed-has test places items x h))

-- the order is kept: what each earlier and later item have, each earlier and later placed one have
pub AllPairs-where_placed : {A : Type 0} (R : A → A → Type 0) (test : Option ℕ → Bool) (places : List (Option ℕ))
    (items : List A) → AllPairs R items → AllPairs R (where_placed test places items)
AllPairs-where_placed R test [] items all = λ i j d less within. absurd (omega arith)
AllPairs-where_placed R test (place ∷ places) [] all = λ i j d less within. absurd (omega arith)
AllPairs-where_placed R test (place ∷ places) (item ∷ items) all =
    by (test place) (AllPairs-where_placed R test places items
    (λ i j d less within. all (suc i) (suc j) d (omega arith) (omega arith)))
  where
    later : All (R item) (where_placed test places items)
    later = All-where_placed (R item) test places items (λ k d below. all 0 (suc k) d (omega arith) (omega arith))

    in_front : AllPairs R (where_placed test places items) → AllPairs R (item ∷ where_placed test places items)
    in_front next zero zero d less within = absurd (omega arith)
    in_front next zero (suc j) d less within = later j d (omega arith)
    in_front next (suc i) zero d less within = absurd (omega arith)
    in_front next (suc i) (suc j) d less within = next i j d (omega arith) (omega arith)

    by : (b : Bool) → AllPairs R (where_placed test places items)
        → AllPairs R (if b then (item ∷ where_placed test places items) else where_placed test places items)
    by true next = in_front next
    by false next = next

-- a function of each item commutes with the placing
pub map-where_placed : {A B : Type 0} (f : A → B) (test : Option ℕ → Bool) (places : List (Option ℕ)) (items : List A)
    → map f (where_placed test places items) ≡ where_placed test places (map f items)
map-where_placed f test [] items = refl
map-where_placed f test (place ∷ places) [] = refl
map-where_placed f test (place ∷ places) (item ∷ items) =
    elim (cases_Bool (test place)) [
      | inl is ↦ ap (map f) (where_placed-yes test place places item items is)
          ∙ ap (λ rest. f item ∷ rest) (map-where_placed f test places items)
          ∙ sym (where_placed-yes test place places (f item) (map f items) is)
      | inr other ↦ ap (map f) (where_placed-no test place places item items other)
          ∙ map-where_placed f test places items
          ∙ sym (where_placed-no test place places (f item) (map f items) other)
    ]

-- no more are placed than places meet the test, and as many where each item has a place
pub length-where_placed : {A : Type 0} (test : Option ℕ → Bool) (places : List (Option ℕ)) (items : List A)
    → length (where_placed test places items) ≤ count_by test places
length-where_placed test [] items = omega arith
length-where_placed test (place ∷ places) [] = omega arith
length-where_placed test (place ∷ places) (item ∷ items) =
    let next = length-where_placed test places items in
    elim (cases_Bool (test place)) [
      | inl is ↦ omega (
        arith,
        next,
        ap length (where_placed-yes test place places item items is),
        count_by-yes test place places is,
      )
      | inr other ↦ omega (
        arith,
        next,
        ap length (where_placed-no test place places item items other),
        count_by-no test place places other,
      )
    ]

pub length-where_all : {A : Type 0} (test : Option ℕ → Bool) (places : List (Option ℕ)) (items : List A)
    → length places ≡ length items → length (where_placed test places items) ≡ count_by test places
length-where_all test [] items whole = refl
length-where_all test (place ∷ places) [] whole = absurd (omega arith)
length-where_all test (place ∷ places) (item ∷ items) whole =
    let next = length-where_all test places items (omega arith) in
    elim (cases_Bool (test place)) [
      | inl is ↦ omega (
        arith,
        next,
        ap length (where_placed-yes test place places item items is),
        count_by-yes test place places is,
      )
      | inr other ↦ omega (
        arith,
        next,
        ap length (where_placed-no test place places item items other),
        count_by-no test place places other,
      )
    ]

-- no level takes more than its bucket's slots
pub length-taken_at : {A : Type 0} (level : ℕ) (depths : List ℕ) (places : List (Option ℕ)) (items : List A)
    → IsPlacement depths places → length (taken_at level places items) ≤ slots
length-taken_at level depths places items placement =
    omega (arith, length-where_placed (stands_at level) places items, placement.room level)

-- no item is taken below its depth
pub depth-taken_at : {A : Type 0} (depth : A → ℕ) (level : ℕ) (places : List (Option ℕ)) (items : List A)
    → Fits (map depth items) places → All (λ x. level ≤ depth x) (taken_at level places items)
depth-taken_at depth level [] items fits = λ k d less. absurd (omega arith)
depth-taken_at depth level (place ∷ places) [] fits = λ k d less. absurd (omega arith)
depth-taken_at depth level (None ∷ places) (item ∷ items) fits = depth-taken_at depth level places items fits
depth-taken_at depth level (Some place ∷ places) (item ∷ items) fits =
    let next = depth-taken_at depth level places items fits.1 in
    elim (eqb_tells place level) [
      | inl same ↦ rw same.0
          (All-cons (λ x. level ≤ depth x) item (taken_at level places items) (omega (arith, same.1, fits.0)) next)
      | inr other ↦ rw other.0 next
    ]

-- one item more
abbrev one : {A : Type 0} → (A → Bool) → A → ℕ
one p x = if p x then 1 else 0

placed-step : {A : Type 0} (p : A → Bool) (test : Option ℕ → Bool) (place : Option ℕ) (places : List (Option ℕ))
    (x : A) (items : List A)
    → count_by p (where_placed test (place ∷ places) (x ∷ items))
    ≡ (if test place then one p x else 0) + count_by p (where_placed test places items)
placed-step p test place places x items = by (test place)
  where
    by : (b : Bool)
        → count_by p (if b then (x ∷ where_placed test places items) else where_placed test places items)
        ≡ (if b then one p x else 0) + count_by p (where_placed test places items)
    by true = count_by-cons p x (where_placed test places items)
    by false = omega arith

-- what an item adds to the levels below a number
abbrev among : ℕ → Option ℕ → ℕ → ℕ
among n None w = 0
among n (Some place) w = if nat_lt place n then w else 0

among-next : (n : ℕ) (place : Option ℕ) (w : ℕ)
    → among (suc n) place w ≡ among n place w + (if stands_at n place then w else 0)
among-next n None w = omega arith
among-next n (Some place) w =
    elim (eqb_tells place n) [
      | inl same ↦ rw (
        same.0,
        lt-ltb place (suc n) (omega (arith, same.1)),
        le-ltb place n (omega (arith, same.1)),
      ) (omega arith)
      | inr other ↦ elim (cases_lt place n) [
        | inl under ↦ rw (other.0, lt-ltb place (suc n) (omega arith), lt-ltb place n under) (omega arith)
        | inr over ↦ rw (other.0, le-ltb place (suc n) (omega (arith, other.1)), le-ltb place n over) (omega arith)
      ]
    ]

below-step : {A : Type 0} (p : A → Bool) (place : Option ℕ) (places : List (Option ℕ)) (x : A) (items : List A) (n : ℕ)
    → count_below p (place ∷ places) (x ∷ items) n ≡ among n place (one p x) + count_below p places items n
below-step p None places x items zero = omega arith
below-step p (Some place) places x items zero = rw (le-ltb place 0 (omega arith)) (omega arith)
below-step p place places x items (suc n) =
    let before = below-step p place places x items n in
    let here = placed-step p (stands_at n) place places x items in
    let next = among-next n place (one p x) in
    omega arith

below-none : {A : Type 0} (p : A → Bool) (items : List A) (n : ℕ) → count_below p [] items n ≡ 0
below-none p items zero = refl
below-none p items (suc n) = let before = below-none p items n in omega arith

-- the copies add up: each item stays or is taken by one level
pub copies_add_up : {A : Type 0} (p : A → Bool) (levels : ℕ) (depths : List ℕ) (places : List (Option ℕ))
    (items : List A) → Fits depths places → All (λ depth. depth ≤ levels) depths → length items ≡ length depths
    → count_by p (kept places items) + count_below p places items (levels + 1) ≡ count_by p items
copies_add_up p levels [] [] [] fits all whole = let none = below-none p [] (levels + 1) in omega arith
copies_add_up p levels [] [] (x ∷ items) fits all whole = absurd (omega arith)
copies_add_up p levels [] (place ∷ places) items fits all whole = absurd fits
copies_add_up p levels (depth ∷ depths) [] items fits all whole = absurd fits
copies_add_up p levels (depth ∷ depths) (place ∷ places) [] fits all whole = absurd (omega arith)
copies_add_up p levels (depth ∷ depths) (None ∷ places) (x ∷ items) fits all whole =
    let next = copies_add_up p levels depths places items fits (All-tail (λ d. d ≤ levels) depth depths all)
    (omega arith) in
    let all_of = count_by-cons p x items in
    let stay = placed-step p is_none None places x items in
    let taken = below-step p None places x items (levels + 1) in
    omega arith
copies_add_up p levels (depth ∷ depths) (Some place ∷ places) (x ∷ items) fits all whole =
    let next = copies_add_up p levels depths places items fits.1 (All-tail (λ d. d ≤ levels) depth depths all)
    (omega arith) in
    let all_of = count_by-cons p x items in
    let stay = placed-step p is_none (Some place) places x items in
    let deep = All-head (λ d. d ≤ levels) depth depths all in
    let here : among (levels + 1) (Some place) (one p x) ≡ one p x =
    rw (lt-ltb place (levels + 1) (omega (arith, deep, fits.0))) refl in
    let taken = below-step p (Some place) places x items (levels + 1) in
    omega arith
