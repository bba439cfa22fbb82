-- The values of held blocks.
use Rattle.std.proofs.Common.{◌≡◌, ◌≢◌, ℕ, zero, suc, ◌+◌, ◌≤◌, Bool, true, false, if◌then◌else◌, nat_eq}
use Rattle.std.proofs.Common.{List, [], ◌∷◌, ◌++◌, length, take, slice_get, option_map, Option, Some, None, is_some}
use Rattle.std.proofs.Common.{refl, sym, ap, ◌∙◌, subst, inl, inr, arith}
use Rattle.std.specs.List.{find, count_by}
use Rattle.std.specs.Option.{option_map_or}
use Rattle.std.proofs.lemmas.Bool.{cases_Bool}
use Rattle.std.proofs.lemmas.Bool.Decides.{eqb_tells}
use Rattle.asc_base.specs.declared.block.Address.{Address}
use Rattle.asc_base.proofs.Lookups.{find-yes, find-no, find-append, find-none, count_by-cons}
use Rattle.asc_base.proofs.Lookups.{find-changed, find-changed_other, find-promoted, find-promoted_other}
use Rattle.asc_base.proofs.Lookups.{some_is, none_is_not}
use Rattle.posmap_counters.specs.Counters.{is_among}
use Rattle.posmap_lookaside.specs.declared.held.Held.{Held}
use Rattle.posmap_lookaside.specs.Addresses.{AreDistinct}
use Rattle.posmap_lookaside.specs.Held.{is_of, held_at, promoted, changed, inserted, displaced, addresses_of}
use Rattle.posmap_lookaside.proofs.AddressLaws.{count-map, front_distinct, put_counts}
use Rattle.posmap_lookaside.proofs.AddressLaws.{addresses_of-inserted, addresses_of-displaced}

eq_of : (x y : ℕ) → nat_eq x y ≡ true → x ≡ y
eq_of x y e = elim (eqb_tells x y) [ inl same ↦ same.1 | inr other ↦ absurd (no_yes (sym other.0 ∙ e)) ]
  where
    no_yes : false ≡ true → ⊥
    no_yes e = cc

ne_of : (x y : ℕ) → x ≢ y → nat_eq x y ≡ false
ne_of x y apart = elim (eqb_tells x y) [ inl same ↦ absurd (apart same.1) | inr other ↦ other.0 ]

same_of : (x y : ℕ) → x ≡ y → nat_eq x y ≡ true
same_of x y e = elim (eqb_tells x y) [ inl same ↦ same.0 | inr other ↦ absurd (other.1 e) ]

-- a block is of one address alone
of_one : (a b : Address) → b.0 ≢ a.0 → (held : Held) → is_of a held ≡ true → is_of b held ≡ false
of_one a b apart held here =
    ne_of held.address.0 b.0 (λ e. apart (sym e ∙ eq_of held.address.0 a.0 here))

-- a block that is found keeps its value, and so do the others
pub promoted_keeps : (list : List Held) (a b : Address) → held_at (promoted list a) b ≡ held_at list b
promoted_keeps list a b =
    elim (eqb_tells b.0 a.0) [
      | inl same ↦ subst (λ n. find (λ (held : Held). nat_eq held.address.0 n) (promoted list a)
          ≡ find (λ (held : Held). nat_eq held.address.0 n) list) (sym same.1) (find-promoted (is_of a) list)
      | inr other ↦ find-promoted_other (is_of a) (is_of b) list (of_one a b other.1)
    ]

-- a block that is changed has the change's value, and the others keep theirs
pub changed_at : (change : Held → Held) (list : List Held) (a : Address)
    → ((held : Held) → (change held).address ≡ held.address)
    → held_at (changed change list a) a ≡ option_map change (held_at list a)
changed_at change list a keeps =
    find-changed change (is_of a) list (λ held here. ap (λ (x : Address). nat_eq x.0 a.0) (keeps held) ∙ here)

pub changed_other : (change : Held → Held) (list : List Held) (a b : Address)
    → ((held : Held) → (change held).address ≡ held.address) → b.0 ≢ a.0
    → held_at (changed change list a) b ≡ held_at list b
changed_other change list a b keeps apart =
    find-changed_other change (is_of a) (is_of b) list
    (λ held here. (
      of_one a b apart held here,
      ap (λ (x : Address). nat_eq x.0 b.0) (keeps held)
          ∙ of_one a b apart held here,
    ))

-- the block that is inserted
pub inserted_at : (capacity : ℕ) (held : Held) (list : List Held) → 1 ≤ capacity
    → held_at (inserted capacity held list) held.address ≡ Some held
inserted_at zero held list some = absurd (omega arith)
inserted_at (suc n) held list some =
    find-yes (is_of held.address) held (take n list) (same_of held.address.0 held.address.0 refl)

-- a list is what is taken of it, and the next one
split_at : (n : ℕ) (xs : List Held) (last : Held) → length xs ≤ n + 1 → slice_get xs n ≡ Some last
    → xs ≡ take n xs ++ last ∷ []
split_at n [] last fits at = absurd (none_is_not at)
split_at zero (x ∷ []) last fits at = ap (λ y. y ∷ []) (some_is at)
split_at zero (x ∷ y ∷ xs) last fits at = absurd (omega arith)
split_at (suc n) (x ∷ xs) last fits at = ap (λ rest. x ∷ rest) (split_at n xs last (omega arith) at)

whole_at : (n : ℕ) (xs : List Held) → slice_get xs n ≡ None → take n xs ≡ xs
whole_at zero [] none = refl
whole_at (suc n) [] none = refl
whole_at zero (x ∷ xs) none = absurd (none_is_not (sym none))
whole_at (suc n) (x ∷ xs) none = ap (λ rest. x ∷ rest) (whole_at n xs none)

or_none : (found : Option Held) → (if is_some found then found else None) ≡ found
or_none None = refl
or_none (Some held) = refl

-- the others where none is displaced
pub inserted_room : (capacity : ℕ) (held : Held) (list : List Held) (b : Address)
    → displaced capacity held list ≡ None → b.0 ≢ held.address.0
    → held_at (inserted capacity held list) b ≡ held_at list b
inserted_room capacity held list b none apart =
    ap (find (is_of b)) (whole_at capacity (held ∷ list) none)
    ∙ find-no (is_of b) held list (ne_of held.address.0 b.0 (λ e. apart (sym e)))

-- and where one is
pub inserted_other : (capacity : ℕ) (held last : Held) (list : List Held) (b : Address) → length list ≤ capacity
    → displaced capacity held list ≡ Some last → b.0 ≢ held.address.0 → b.0 ≢ last.address.0
    → held_at (inserted capacity held list) b ≡ held_at list b
inserted_other capacity held last list b fits at apart left =
    let kept : List Held = inserted capacity held list in
    let passed = find-no (is_of b) last [] (ne_of last.address.0 b.0 (λ e. left (sym e))) in
    sym (or_none (find (is_of b) kept))
    ∙ ap (λ (o : Option Held). if is_some (find (is_of b) kept) then find (is_of b) kept else o) (sym passed)
    ∙ sym (find-append (is_of b) kept (last ∷ []))
    ∙ ap (find (is_of b)) (sym (split_at capacity (held ∷ list) last (omega arith) at))
    ∙ find-no (is_of b) held list (ne_of held.address.0 b.0 (λ e. apart (sym e)))

-- the one that is displaced isn't held any more
gone_count : (capacity : ℕ) (held last : Held) (list : List Held) → length list ≤ capacity
    → displaced capacity held list ≡ Some last → AreDistinct (addresses_of list)
    → is_among (addresses_of list) held.address.0 ≡ false
    → count_by (is_of last.address) (inserted capacity held list) ≡ 0
gone_count capacity held last list fits at distinct absent =
    let p : ℕ → Bool = λ a. nat_eq a last.address.0 in
    let front = front_distinct (addresses_of list) held.address.0 absent distinct last.address.0 in
    let both = put_counts p capacity (addresses_of list) held.address.0 (omega (arith, length-map list)) in
    let next : slice_get (held.address.0 ∷ addresses_of list) capacity ≡ Some last.address.0 =
    sym (addresses_of-displaced capacity held list) ∙ ap (option_map (λ (h : Held). h.address.0)) at in
    let one : option_map_or (λ a. (if p a then 1 else 0)) (slice_get (held.address.0 ∷ addresses_of list) capacity) 0
    ≡ 1 =
    ap (λ (o : Option ℕ). option_map_or (λ a. (if p a then 1 else 0)) o 0) next
    ∙ ap {B = ℕ} (λ b. if b then 1 else 0) (same_of last.address.0 last.address.0 refl) in
    let same : count_by (is_of last.address) (inserted capacity held list)
    ≡ count_by p (take capacity (held.address.0 ∷ addresses_of list)) =
    sym (count-map (λ (h : Held). h.address.0) p (inserted capacity held list))
    ∙ ap (count_by p) (addresses_of-inserted capacity held list) in
    omega (arith, front, both, one, same)
  where
    length-map : (xs : List Held) → length (addresses_of xs) ≡ length xs
    length-map [] = refl
    length-map (x ∷ xs) = ap suc (length-map xs)

pub inserted_gone : (capacity : ℕ) (held last : Held) (list : List Held) → length list ≤ capacity
    → displaced capacity held list ≡ Some last → AreDistinct (addresses_of list)
    → is_among (addresses_of list) held.address.0 ≡ false
    → held_at (inserted capacity held list) last.address ≡ None
inserted_gone capacity held last list fits at distinct absent =
    find-none (is_of last.address) (inserted capacity held list)
    (gone_count capacity held last list fits at distinct absent)

-- and was held before
pub inserted_last : (capacity : ℕ) (held last : Held) (list : List Held) → 1 ≤ capacity → length list ≤ capacity
    → displaced capacity held list ≡ Some last → AreDistinct (addresses_of list)
    → is_among (addresses_of list) held.address.0 ≡ false → held_at list last.address ≡ Some last
inserted_last zero held last list some fits at distinct absent = absurd (omega arith)
inserted_last (suc n) held last list some fits at distinct absent =
    let kept : List Held = inserted (suc n) held list in
    let gone = inserted_gone (suc n) held last list fits at distinct absent in
    let none : count_by (is_of last.address) (held ∷ take n list) ≡ 0 =
    gone_count (suc n) held last list fits at distinct absent in
    let parts = count_by-cons (is_of last.address) held (take n list) in
    let other : is_of last.address held ≡ false =
    elim (cases_Bool (is_of last.address held)) [
      | inl here ↦ absurd (omega (arith, none, parts, ap {B = ℕ} (λ b. if b then 1 else 0) here))
      | inr apart ↦ apart
    ] in
    sym (find-no (is_of last.address) held list other)
    ∙ ap (find (is_of last.address)) (split_at (suc n) (held ∷ list) last (omega arith) at)
    ∙ find-append (is_of last.address) kept (last ∷ [])
    ∙ ap (λ (o : Option Held). if is_some o then o else find (is_of last.address) (last ∷ [])) gone
    ∙ find-yes (is_of last.address) last [] (same_of last.address.0 last.address.0 refl)
