-- Tests on bytes and lists of them.
use Rattle.std.proofs.Common.{◌≡◌, ◌∙◌, ℕ, zero, suc, ◌+◌, ◌<◌, ◌≤◌, List, [], ◌∷◌, ◌++◌, length, ap, refl, arith, Bool}
use Rattle.std.proofs.Common.{true, false}
use Rattle.std.specs.Prelude.{nat_lt, ◌&&◌, cond, if◌then◌else◌}
use Rattle.std.specs.List.{list_all, prefix_len}
use Rattle.std.proofs.lemmas.Bool.{ltb-true, ltb-false}
use Rattle.std.proofs.lemmas.List.Folds.{list_all-append}

pub and_first : (a b : Bool) → (a && b) ≡ true → a ≡ true
and_first true b e = refl
and_first false b e = absurd (cc)

pub and_second : (a b : Bool) → (a && b) ≡ true → b ≡ true
and_second true b e = e
and_second false b e = absurd (cc)

pub and_both : (a b : Bool) → a ≡ true → b ≡ true → (a && b) ≡ true
and_both true b first second = second
and_both false b first second = first

-- a test that holds below a number
abbrev pub holds_below : (ℕ → Bool) → ℕ → Bool
holds_below test zero = true
holds_below test (suc n) = test n && holds_below test n

below_more : (test : ℕ → Bool) (n k : ℕ) → test n ≡ true → (k < n → test k ≡ true) → k < suc n → (less : Bool)
    → nat_lt k n ≡ less → test k ≡ true
below_more test n k last lower within true is = lower (ltb-true k n is)
below_more test n k last lower within false is =
    let above : n ≤ k = ltb-false k n is in
    let same : k ≡ n = omega arith in ap test same ∙ last

pub below : (test : ℕ → Bool) (n k : ℕ) → holds_below test n ≡ true → k < n → test k ≡ true
below test zero k all less = absurd (omega arith)
below test (suc n) k all less =
    below_more test n k (and_first (test n) (holds_below test n) all)
    (below test n k (and_second (test n) (holds_below test n) all)) less (nat_lt k n) refl

-- a weaker test of each element
pub all_weaker : {X : Type 0} (one other : X → Bool) → ((x : X) → one x ≡ true → other x ≡ true) → (xs : List X)
    → list_all one xs ≡ true → list_all other xs ≡ true
all_weaker one other weaker [] all = refl
all_weaker one other weaker (x ∷ xs) all =
    and_both (other x) (list_all other xs) (weaker x (and_first (one x) (list_all one xs) all))
    (all_weaker one other weaker xs (and_second (one x) (list_all one xs) all))

-- both parts of a list
pub all_both : {X : Type 0} (test : X → Bool) (xs ys : List X) → list_all test xs ≡ true → list_all test ys ≡ true
    → list_all test (xs ++ ys) ≡ true
all_both test xs ys first second =
    list_all-append test xs ys ∙ and_both (list_all test xs) (list_all test ys) first second

-- how many elements in front pass a test, where the first part does, and the second begins with one that doesn't
pub prefix_all : (test : ℕ → Bool) (xs ys : List ℕ) → list_all test xs ≡ true → prefix_len test ys ≡ 0
    → prefix_len test (xs ++ ys) ≡ length xs
prefix_all test [] ys all none = none
prefix_all test (x ∷ xs) ys all none =
    ap (λ first. cond first (1 + prefix_len test (xs ++ ys)) 0) (and_first (test x) (list_all test xs) all)
    ∙ ap (λ n. 1 + n) (prefix_all test xs ys (and_second (test x) (list_all test xs) all) none)
    ∙ one_more (length xs)
  where
    one_more : (n : ℕ) → 1 + n ≡ suc n
    one_more n = omega arith

pub if_true : {A : Type 0} (test : Bool) → test ≡ true → (x y : A) → (if test then x else y) ≡ x
if_true true is x y = refl
if_true false is x y = absurd (cc)

pub if_false : {A : Type 0} (test : Bool) → test ≡ false → (x y : A) → (if test then x else y) ≡ y
if_false true is x y = absurd (cc)
if_false false is x y = refl
