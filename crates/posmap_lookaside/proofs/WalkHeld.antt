-- What is held after a walk.
use Rattle.std.proofs.Common.{◌≡◌, ◌≢◌, ℕ, zero, suc, ◌+◌, ◌<◌, ◌≤◌, Bool, true, false, cond, not, nat_eq}
use Rattle.std.proofs.Common.{List, [], ◌∷◌, ◌++◌, length, take, reverse, take_while, Option, None, Some, if◌then◌else◌}
use Rattle.std.proofs.Common.{inl, inr, arith, refl, sym, ap, ◌∙◌, subst}
use Rattle.std.specs.List.{find, count_by}
use Rattle.std.specs.Option.{option_map_or}
use Rattle.std.proofs.lemmas.Bool.{cases_Bool}
use Rattle.std.proofs.lemmas.Bool.Decides.{eqb_tells}
use Rattle.std.proofs.lemmas.List.{length-take, reverse-append}
use Rattle.std.proofs.lemmas.List.Sums.{take_while-cons, sum_by-append}
use Rattle.asc_base.specs.Has.{Has}
use Rattle.asc_base.specs.Lookup.{without_first}
use Rattle.asc_base.specs.TreeShape.{layer_first, parent_of}
use Rattle.asc_base.proofs.Families.{parent_above, child_of_parent}
use Rattle.asc_base.proofs.Lookups.{find-yes, find-no, find-has, find-holds, without_first-has, count_by-cons}
use Rattle.asc_base.proofs.Lookups.{count_by-promoted, promoted_first-some, promoted_first-none, none_is_not}
use Rattle.posmap_counters.specs.Counters.{is_among}
use Rattle.posmap_lookaside.specs.Addresses.{used, AreDistinct}
use Rattle.posmap_lookaside.specs.Walk.{WalkSizes, OnChip, ancestors, refill, walk_down, walk, missing}
use Rattle.posmap_lookaside.specs.Walk.{looked_up}
use Rattle.posmap_lookaside.specs.Walk.{held_below, held_after, IsMapBlock, IsHeldList}
use Rattle.posmap_lookaside.proofs.AddressLaws.{count-take, count-absent}
use Rattle.posmap_lookaside.proofs.Wholes.{length-used}
use Rattle.posmap_lookaside.proofs.WalkLaws.{missing-has, ancestors-inside}

-- refills make what is held by their addresses alone
down-held : (sizes : WalkSizes) (line : ℕ) (below : List ℕ) (chip : OnChip)
    → (walk_down sizes line below chip).chip.held ≡ held_below sizes.plb chip.held below
unfolding walk_down
down-held sizes line [] chip = refl
down-held sizes line (address ∷ below) chip = down-held sizes line below (refill sizes chip address).chip

pub walk-held : (sizes : WalkSizes) (chip : OnChip) (line : ℕ)
    → (walk sizes chip line).chip.held ≡ held_after sizes chip.held line
walk-held sizes chip line =
    let above = ancestors sizes sizes.layers line in
    down-held sizes line (reverse (missing chip.held above))
    (record { held = looked_up chip.held above; counters = chip.counters })

-- counts of a number in lists
abbrev times : ℕ → List ℕ → ℕ
times x list = count_by (λ a. nat_eq a x) list

times-append : (x : ℕ) (xs ys : List ℕ) → times x (xs ++ ys) ≡ times x xs + times x ys
times-append x xs ys = sum_by-append (λ a. cond (nat_eq a x) 1 0) xs ys

times-reverse : (x : ℕ) (xs : List ℕ) → times x (reverse xs) ≡ times x xs
times-reverse x [] = refl
times-reverse x (y ∷ xs) =
    omega (
      arith,
      ap (times x) (reverse-append (y ∷ []) xs),
      times-append x (reverse xs) (y ∷ []),
      times-reverse x xs,
      count_by-cons (λ a. nat_eq a x) y xs,
      count_by-cons (λ a. nat_eq a x) y [],
    )

times-none : (x : ℕ) (list : List ℕ) → ((y : ℕ) → Has y list → y ≢ x) → times x list ≡ 0
times-none x [] none = refl
times-none x (y ∷ list) none =
    let rest = times-none x list (λ z has. none z (inr has)) in
    elim (eqb_tells y x) [
      | inl same ↦ absurd (none y (inl refl) same.1)
      | inr other ↦
          let nothing = ap {B = ℕ} (λ b. if b then 1 else 0) other.0 in
          omega (arith, rest, nothing, count_by-cons (λ a. nat_eq a x) y list)
    ]

take-has : (n : ℕ) (xs : List ℕ) (x : ℕ) → Has x (take n xs) → Has x xs
take-has zero xs x has = absurd has
take-has (suc n) [] x has = absurd has
take-has (suc n) (y ∷ xs) x (inl same) = inl same
take-has (suc n) (y ∷ xs) x (inr later) = inr (take-has n xs x later)

-- what passes a test in front of a list
while-passes : (p : ℕ → Bool) (xs : List ℕ) (x : ℕ) → Has x (take_while p xs) → p x ≡ true
while-passes p [] x has = absurd has
while-passes p (y ∷ xs) x has =
    elim (cases_Bool (p y)) [
      | inl here ↦ elim (subst (Has x) (take_while-cons p y xs ∙ ap (λ b. cond b (y ∷ take_while p xs) []) here) has) [
        | inl same ↦ ap p same ∙ here
        | inr later ↦ while-passes p xs x later
      ]
      | inr other ↦ absurd (subst (Has x) (take_while-cons p y xs ∙ ap (λ b. cond b (y ∷ take_while p xs) []) other)
          has)
    ]

-- the list that is used has the same addresses
used-has : (list : List ℕ) (a x : ℕ) → Has x (used list a) → Has x list
used-has list a x has = by (find (λ b. nat_eq b a) list) refl
  where
    by : (found : Option ℕ) → find (λ b. nat_eq b a) list ≡ found → Has x list
    by None none = subst (Has x) (promoted_first-none (λ b. nat_eq b a) list none) has
    by (Some y) found =
        elim (subst (Has x) (promoted_first-some (λ b. nat_eq b a) list y found) has) [
          | inl same ↦ subst (λ z. Has z list) (sym same) (find-has (λ b. nat_eq b a) list y found)
          | inr rest ↦ without_first-has (λ b. nat_eq b a) list x rest
        ]

-- so does what is looked up
module _ (held above : List ℕ) where
  looked-times : (x : ℕ) → times x (looked_up held above) ≡ times x held
  looked-times x = by (find (is_among held) above)
    where
      by : (found : Option ℕ) → times x (option_map_or (used held) found held) ≡ times x held
      by None = refl
      by (Some a) = count_by-promoted (λ b. nat_eq b x) (λ b. nat_eq b a) held

  looked-length : length (looked_up held above) ≡ length held
  looked-length = by (find (is_among held) above)
    where
      by : (found : Option ℕ) → length (option_map_or (used held) found held) ≡ length held
      by None = refl
      by (Some a) = length-used held a

  looked-has : (x : ℕ) → Has x (looked_up held above) → Has x held
  looked-has x = by (find (is_among held) above)
    where
      by : (found : Option ℕ) → Has x (option_map_or (used held) found held) → Has x held
      by None has = has
      by (Some a) has = used-has held a x has

module _ (sizes : WalkSizes) where
  -- a block's ancestors rise, so each is there once
  ancestors-once : (more address x : ℕ) → address < layer_first sizes.lines sizes.layers
      → times x (ancestors sizes more address) ≤ 1
  unfolding ancestors
  ancestors-once zero address x inside = omega arith
  ancestors-once (suc more) address x inside =
      by (λ parent low. ancestors-once more parent x low) (parent_of sizes.lines sizes.layers address) refl
    where
      by : ((parent : ℕ) → parent < layer_first sizes.lines sizes.layers → times x (ancestors sizes more parent) ≤ 1)
          → (o : Option ℕ) → parent_of sizes.lines sizes.layers address ≡ o
          → times x (option_map_or (λ parent. parent ∷ ancestors sizes more parent) o []) ≤ 1
      by again None at = omega arith
      by again (Some parent) at =
          let up = parent_above sizes.lines sizes.layers address parent inside at in
          let parts = count_by-cons (λ a. nat_eq a x) parent (ancestors sizes more parent) in
          elim (eqb_tells parent x) [
            | inl same ↦
                let none = times-none x (ancestors sizes more parent)
                (λ y has e. absurd (omega (arith, (ancestors-inside sizes more parent y up.1 has).0, same.1, e))) in
                let one = ap {B = ℕ} (λ b. if b then 1 else 0) same.0 in
                omega (arith, parts, none, one)
            | inr other ↦
                let nothing = ap {B = ℕ} (λ b. if b then 1 else 0) other.0 in
                omega (arith, parts, again parent up.1, nothing)
          ]

  -- an ancestor is a position-map block
  ancestors-blocks : (more address x : ℕ) → address < layer_first sizes.lines sizes.layers
      → Has x (ancestors sizes more address) → IsMapBlock sizes x
  unfolding ancestors
  ancestors-blocks zero address x inside has = absurd has
  ancestors-blocks (suc more) address x inside has =
      by (λ parent low. ancestors-blocks more parent x low) (parent_of sizes.lines sizes.layers address) refl has
    where
      by : ((parent : ℕ) → parent < layer_first sizes.lines sizes.layers → Has x (ancestors sizes more parent)
          → IsMapBlock sizes x)
          → (o : Option ℕ) → parent_of sizes.lines sizes.layers address ≡ o
          → Has x (option_map_or (λ parent. parent ∷ ancestors sizes more parent) o []) → IsMapBlock sizes x
      by again None at here = absurd here
      by again (Some parent) at (inl same) =
          let up = child_of_parent sizes.lines sizes.layers address parent inside at in
          subst (IsMapBlock sizes) (sym same) (up.5, (up.0, up.1), up.2)
      by again (Some parent) at (inr later) =
          again parent (parent_above sizes.lines sizes.layers address parent inside at).1 later

  -- refills keep a list of held addresses
  below-list : (below held : List ℕ) → ((x : ℕ) → times x below + times x held ≤ 1)
      → ((x : ℕ) → Has x below → IsMapBlock sizes x) → IsHeldList sizes held
      → IsHeldList sizes (held_below sizes.plb held below)
  below-list [] held once blocks is = is
  below-list (b ∷ below) held once blocks is =
      below-list below (take sizes.plb (b ∷ held))
      (λ x. omega (arith, kept x, once x, count_by-cons (λ a. nat_eq a x) b below))
      (λ x has. blocks x (inr has))
      (record {
        fits = omega (arith, length-take sizes.plb (b ∷ held));
        distinct = λ x. omega (arith, kept x, once x, count_by-cons (λ a. nat_eq a x) b below);
        blocks = λ x has. of x (take-has sizes.plb (b ∷ held) x has);
      })
    where
      kept : (x : ℕ) → times x (take sizes.plb (b ∷ held)) ≤ (if nat_eq b x then 1 else 0) + times x held
      kept x =
          omega (arith, count-take (λ a. nat_eq a x) sizes.plb (b ∷ held), count_by-cons (λ a. nat_eq a x) b held)

      of : (x : ℕ) → Has x (b ∷ held) → IsMapBlock sizes x
      of x (inl same) = blocks x (inl same)
      of x (inr later) = is.blocks x later

  -- a missing block isn't held
  missing-once : (held above : List ℕ) (x : ℕ) → AreDistinct held → times x above ≤ 1
      → times x (reverse (missing held above)) + times x (looked_up held above) ≤ 1
  missing-once held above x distinct once =
      elim (cases_Bool (is_among held x)) [
        | inl there ↦
            let none : times x (missing held above) ≡ 0 =
            times-none x (missing held above)
            (λ y has e. absurd (yes_no (sym there ∙ ap (is_among held) (sym e)
            ∙ not_true (is_among held y) (while-passes (λ a. not (is_among held a)) above y has)))) in
            omega (arith, none, turned, same, distinct x)
        | inr absent ↦
            let none = count-absent held x absent in
            let few : times x (missing held above) ≤ times x above = few_of in
            omega (arith, none, turned, same, few, once)
      ]
    where
      turned : times x (reverse (missing held above)) ≡ times x (missing held above)
      turned = times-reverse x (missing held above)

      same : times x (looked_up held above) ≡ times x held
      same = looked-times held above x

      few_of : times x (missing held above) ≤ times x above
      few_of = count-take (λ a. nat_eq a x) _ above

      yes_no : true ≡ false → ⊥
      yes_no e = cc

      not_true : (b : Bool) → not b ≡ true → b ≡ false
      not_true false e = refl
      not_true true e = absurd (cc)

  pub after-list : (held : List ℕ) (line : ℕ) → line < layer_first sizes.lines sizes.layers → IsHeldList sizes held
      → IsHeldList sizes (held_after sizes held line)
  after-list held line inside is =
      let above = ancestors sizes sizes.layers line in
      below-list (reverse (missing held above)) (looked_up held above)
      (λ x. missing-once held above x is.distinct (ancestors-once sizes.layers line x inside))
      (λ x has. ancestors-blocks sizes.layers line x inside (missing-has held above x has))
      (record {
        fits = omega (arith, is.fits, looked-length held above);
        distinct = λ x. omega (arith, is.distinct x, looked-times held above x);
        blocks = λ x has. is.blocks x (looked-has held above x has);
      })

-- the last refill puts its block in front
below-last : (plb : ℕ) (held below : List ℕ) (a : ℕ)
    → held_below plb held (below ++ a ∷ []) ≡ take plb (a ∷ held_below plb held below)
below-last plb held [] a = refl
below-last plb held (b ∷ below) a = below-last plb (take plb (b ∷ held)) below a

-- a list that is used and has the address has it in front
used-front : (held : List ℕ) (a : ℕ) → is_among held a ≡ true → (rest : List ℕ) × (used held a ≡ a ∷ rest)
used-front held a there = by (find (λ b. nat_eq b a) held) refl
  where
    same_of : (x : ℕ) → nat_eq x a ≡ true → x ≡ a
    same_of x e = elim (eqb_tells x a) [ inl same ↦ same.1 | inr other ↦ absurd (no_yes (sym other.0 ∙ e)) ]
      where
        no_yes : false ≡ true → ⊥
        no_yes f = cc

    absent : (list : List ℕ) → find (λ b. nat_eq b a) list ≡ None → is_among list a ≡ true → ⊥
    absent [] none is = absurd (cc)
    absent (x ∷ list) none is =
        elim (eqb_tells x a) [
          | inl same ↦ absurd (none_is_not (sym none ∙ find-yes (λ b. nat_eq b a) x list same.0))
          | inr other ↦ absent list (sym (find-no (λ b. nat_eq b a) x list other.0) ∙ none) (rw other.0 at is)
        ]

    by : (found : Option ℕ) → find (λ b. nat_eq b a) held ≡ found → (rest : List ℕ) × (used held a ≡ a ∷ rest)
    by None none = absurd (absent held none there)
    by (Some x) found = (
      without_first (λ b. nat_eq b a) held,
      promoted_first-some (λ b. nat_eq b a) held x found
          ∙ ap (λ y. y ∷ without_first (λ b. nat_eq b a) held) (same_of x (find-holds (λ b. nat_eq b a) held x found)),
    )

-- the parent is the first of the ancestors
ancestors-first : (sizes : WalkSizes) (more line parent : ℕ) → 1 ≤ more
    → parent_of sizes.lines sizes.layers line ≡ Some parent
    → (rest : List ℕ) × (ancestors sizes more line ≡ parent ∷ rest)
unfolding ancestors
ancestors-first sizes zero line parent some at = absurd (omega arith)
ancestors-first sizes (suc more) line parent some at = (ancestors sizes more parent, rw at refl)

-- what is held after the ancestors are looked up and refilled begins with the first of them
front_of : (plb : ℕ) (held : List ℕ) (parent : ℕ) (rest : List ℕ) (is : Bool) → 1 ≤ plb → is_among held parent ≡ is
    → (tail : List ℕ) × (held_below plb (looked_up held (parent ∷ rest)) (reverse (missing held (parent ∷ rest)))
    ≡ parent ∷ tail)
front_of plb held parent rest true some there =
    let front = used-front held parent there in
    let none : missing held (parent ∷ rest) ≡ [] =
    take_while-cons (λ a. not (is_among held a)) parent rest
    ∙ ap (λ b. cond (not b) (parent ∷ missing held rest) []) there in
    let looked : looked_up held (parent ∷ rest) ≡ used held parent =
    ap (λ (found : Option ℕ). option_map_or (used held) found held) (find-yes (is_among held) parent rest there) in (
      front.0,
      ap (λ list. held_below plb (looked_up held (parent ∷ rest)) (reverse list)) none ∙ looked ∙ front.1,
    )
front_of zero held parent rest false some there = absurd (omega arith)
front_of (suc n) held parent rest false some there =
    let start : List ℕ = looked_up held (parent ∷ rest) in
    let more : missing held (parent ∷ rest) ≡ parent ∷ missing held rest =
    take_while-cons (λ a. not (is_among held a)) parent rest
    ∙ ap (λ b. cond (not b) (parent ∷ missing held rest) []) there in (
      take n (held_below (suc n) start (reverse (missing held rest))),
      ap (λ list. held_below (suc n) start (reverse list)) more
          ∙ ap (held_below (suc n) start) (reverse-append (parent ∷ []) (missing held rest))
          ∙ below-last (suc n) start (reverse (missing held rest)) parent,
    )

pub after-first : (sizes : WalkSizes) (held : List ℕ) (line parent : ℕ) → 1 ≤ sizes.plb → 1 ≤ sizes.layers
    → parent_of sizes.lines sizes.layers line ≡ Some parent
    → (rest : List ℕ) × (held_after sizes held line ≡ parent ∷ rest)
after-first sizes held line parent some layers at =
    let above = ancestors-first sizes sizes.layers line parent layers at in
    let front = front_of sizes.plb held parent above.0 (is_among held parent) some refl in
    (front.0, ap (λ list. held_below sizes.plb (looked_up held list) (reverse (missing held list))) above.1 ∙ front.1)
