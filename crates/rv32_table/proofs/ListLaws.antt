-- The row of a list that a word matches.
use Rattle.std.proofs.Common.{◌≡◌, ℕ, List, [], ◌∷◌, zero, suc, refl, sym, ap, arith, Bool, true, false, not, ◌&&◌}
use Rattle.std.proofs.Common.{subst}
use Rattle.std.specs.Prelude.{◌==◌, bit_and, Option, Some, None, find, slice_get, AllPairs, All, if◌then◌else◌}
use Rattle.std.specs.List.{list_all}
use Rattle.std.proofs.lemmas.Nat.{and_assoc, and_comm}
use Rattle.std.proofs.lemmas.Bool.{eq-eqb, eqb-true, and_parts}
use Rattle.std.proofs.lemmas.List.Elements.{All-nil, All-cons}
use Rattle.std.proofs.lemmas.List.Kept.{AllPairs-cons}
use Rattle.rv32_table.specs.Table.{Row, Matches, is_match}

-- a fact of each row
abbrev pub EachRow : (Row → Type 0) → List Row → Type 0
EachRow P [] = Unit {0}
EachRow P (x ∷ xs) = P x × EachRow P xs

-- a pair, which needs no parentheses in a chain
pub ◌▹◌ : {A B : Type 0} → A → B → A × B
first ▹ second = (first, second)

infixr 5 ◌▹◌
-- a row of a list that a word matches
pub record HasRow (word : ℕ) (rows : List Row) : Type 0 where
  pub place : ℕ
  pub row : Row
  pub stands : slice_get rows place ≡ Some row
  pub matches : Matches word row

-- what a choice by a test is
pub if-case : {X : Type 0} (P : Type 0) (b : Bool) (x y i : Option X) → (if b then x else y) ≡ i
    → (b ≡ true → x ≡ i → P) → (b ≡ false → y ≡ i → P) → P
if-case P true x y i e f g = f refl e
if-case P false x y i e f g = g refl e

-- what is found has what each row has
pub find-each : (P : Row → Type 0) (word : ℕ) (rows : List Row) (r : Row) → EachRow (λ x. Matches word x → P x) rows
    → find (is_match word) rows ≡ Some r → P r
find-each P word [] r each e = absurd (cc)
find-each P word (x ∷ xs) r each e =
    if-case (P r) (is_match word x) (Some x) (find (is_match word) xs) (Some r) e
    (λ t same. let row : x ≡ r = cc in subst P row (each.0 (eqb-true (bit_and word x.mask) x.value t)))
    (λ t rest. find-each P word xs r each.1 rest)

-- where nothing is found, no row is matched
pub find-none : (word : ℕ) (rows : List Row) (place : ℕ) (r : Row) → find (is_match word) rows ≡ None
    → slice_get rows place ≡ Some r → Matches word r → ⊥
find-none word [] place r e stands matches = cc
find-none word (x ∷ xs) zero r e stands matches =
    if-case ⊥ (is_match word x) (Some x) (find (is_match word) xs) None e
    (λ t same. cc)
    (λ t rest. let row : x ≡ r = cc in
    let test : is_match word x ≡ true = eq-eqb (bit_and word x.mask) x.value
    (subst (Matches word) (sym row) matches) in cc)
find-none word (x ∷ xs) (suc n) r e stands matches =
    if-case ⊥ (is_match word x) (Some x) (find (is_match word) xs) None e
    (λ t same. cc)
    (λ t rest. find-none word xs n r rest stands matches)

-- no word matches both of two rows: they fix a bit that is in both masks in two ways
abbrev pub is_apart : Row → Row → Bool
is_apart r s = not (bit_and r.value s.mask == bit_and s.value r.mask)

abbrev pub are_apart : List Row → Bool
are_apart [] = true
are_apart (x ∷ xs) = list_all (is_apart x) xs && are_apart xs

-- two rows aren't both matched
abbrev pub NotBoth : ℕ → Row → Row → Type 0
NotBoth word r s = Matches word r × Matches word s → ⊥

is_apart-sound : (word : ℕ) (r s : Row) → is_apart r s ≡ true → NotBoth word r s
is_apart-sound word r s apart both =
    let first : bit_and (bit_and word r.mask) s.mask
    ≡ bit_and word (bit_and r.mask s.mask) = and_assoc s.mask word r.mask in
    let second : bit_and (bit_and word s.mask) r.mask
    ≡ bit_and word (bit_and s.mask r.mask) = and_assoc r.mask word s.mask in
    let turned : bit_and r.mask s.mask ≡ bit_and s.mask r.mask = and_comm r.mask s.mask in
    let left : bit_and word r.mask ≡ r.value = both.0 in
    let right : bit_and word s.mask ≡ s.value = both.1 in
    let same : bit_and r.value s.mask ≡ bit_and s.value r.mask = cc in
    let test : (bit_and r.value s.mask == bit_and s.value r.mask) ≡ true = eq-eqb _ _ same in
    let no : is_apart r s ≡ false = ap not test in
    cc

list_all-apart : (word : ℕ) (r : Row) (rows : List Row) → list_all (is_apart r) rows ≡ true → All (NotBoth word r) rows
list_all-apart word r [] e = All-nil (NotBoth word r)
list_all-apart word r (x ∷ xs) e =
    let parts : (is_apart r x ≡ true) × (list_all (is_apart r) xs ≡ true) = and_parts (is_apart r x)
    (list_all (is_apart r) xs) e in
    All-cons (NotBoth word r) x xs (is_apart-sound word r x parts.0) (list_all-apart word r xs parts.1)

pub are_apart-sound : (word : ℕ) (rows : List Row) → are_apart rows ≡ true → AllPairs (NotBoth word) rows
are_apart-sound word [] e = λ i j d below inside. absurd (omega arith)
are_apart-sound word (x ∷ xs) e =
    let parts : (list_all (is_apart x) xs ≡ true) × (are_apart xs ≡ true) = and_parts (list_all (is_apart x) xs)
    (are_apart xs) e in
    AllPairs-cons (NotBoth word) x xs (list_all-apart word x xs parts.0) (are_apart-sound word xs parts.1)
