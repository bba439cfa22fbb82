-- What a use makes of a set: a dirty line stays dirty, or is the victim.
use Rattle.std.proofs.Common.{◌≡◌, ℕ, zero, suc, ◌+◌, ◌-◌, ◌<◌, ◌≤◌, Bool, true, false, cond, not, ◌==◌, ◌||◌, ◌&&◌}
use Rattle.std.proofs.Common.{List, [], ◌∷◌, Some, length, take, drop, slice_get, refl, sym, ap, ◌∙◌, arith, inl, inr}
use Rattle.std.proofs.Common.{eqb-true, ◌⊎◌}
use Rattle.std.specs.List.{list_any}
use Rattle.std.proofs.lemmas.Bool.{and_parts}
use Rattle.std.proofs.lemmas.Bool.Decides.{eqb_tells}
use Rattle.std.proofs.lemmas.List.{take-append-drop}
use Rattle.std.proofs.lemmas.List.Folds.{list_any-append}
use Rattle.std.proofs.lemmas.Map.Views.{any-filter_same}
use Rattle.data_cache.specs.CacheLists.{Kept, keeps_dirty, others}

-- the test of a dirty line
abbrev pub is_dirty_at : ℕ → Kept → Bool
is_dirty_at n k = (k.line == n) && k.dirty

eqb-no : (a b : ℕ) → (a ≡ b → ⊥) → (a == b) ≡ false
eqb-no a b ne = elim (eqb_tells a b) [ inl h ↦ absurd (ne h.1) | inr h ↦ h.0 ]

-- another line is among the others as it was in the set
pub others-dirty : (set : List Kept) (line n : ℕ) → (n ≡ line → ⊥) → keeps_dirty (others set line) n ≡ keeps_dirty set n
others-dirty set line n ne =
    any-filter_same (is_dirty_at n) (λ (k : Kept). not (k.line == line)) true
    (λ k h. ap not (eqb-no k.line line (λ e. ne (sym (eqb-true k.line n (and_parts (k.line == n) k.dirty h).0)
    ∙ e)))) set

few-by : (k : Kept) (rest : List Kept) (n : ℕ) (b : Bool) → length rest ≤ n
    → length (cond {A = List Kept} b (k ∷ rest) rest) ≤ suc n
few-by k rest n true few = omega arith
few-by k rest n false few = omega arith

pub others-few : (set : List Kept) (line : ℕ) → length (others set line) ≤ length set
others-few [] line = omega arith
others-few (k ∷ set) line = few-by k (others set line) (length set) (not (k.line == line)) (others-few set line)

-- what is behind a place near the end of a list
pub record Last (l : List Kept) (i : ℕ) : Type 0 where
  pub kept : Kept
  pub rest : drop i l ≡ kept ∷ []
  pub is : slice_get l i ≡ Some kept

last-one : (l : List Kept) (i : ℕ) → length l ≤ i + 1 → (drop i l ≡ []) ⊎ Last l i
last-one [] zero few = inl refl
last-one [] (suc i) few = inl refl
last-one (k ∷ []) zero few = inr (record { kept = k; rest = refl; is = refl })
last-one (k ∷ m ∷ l) zero few = absurd (omega arith)
last-one (k ∷ l) (suc i) few = elim (last-one l i (omega arith)) [
  | inl none ↦ inl none
  | inr last ↦ inr (record { kept = last.kept; rest = last.rest; is = last.is })
]

or-tells : (a b : Bool) → (a || b) ≡ true → (a ≡ true) ⊎ (b ≡ true)
or-tells true b h = inl refl
or-tells false b h = inr h

or-none : (a : Bool) → (a || false) ≡ a
or-none true = refl
or-none false = refl

-- a dirty line of a list stays before a place, or is the only one behind it
pub stays-or-last : (l : List Kept) (i n : ℕ) → length l ≤ i + 1 → keeps_dirty l n ≡ true
    → (keeps_dirty (take i l) n ≡ true)
    ⊎ ((v : Kept) × (slice_get l i ≡ Some v) × (v.line ≡ n) × (v.dirty ≡ true))
stays-or-last l i n few dirty =
    let split : (keeps_dirty (take i l) n || keeps_dirty (drop i l) n) ≡ true =
    sym (list_any-append (is_dirty_at n) (take i l) (drop i l))
    ∙ ap (list_any (is_dirty_at n)) (take-append-drop i l) ∙ dirty in
    elim (or-tells (keeps_dirty (take i l) n) (keeps_dirty (drop i l) n) split) [
      | inl stays ↦ inl stays
      | inr behind ↦ elim (last-one l i few) [
        | inl none ↦ (
            let no : false ≡ true = ap (list_any (is_dirty_at n)) (sym none) ∙ behind in
            absurd (cc)
            )
        | inr last ↦ (
            let one : is_dirty_at n last.kept ≡ true =
            sym (or-none (is_dirty_at n last.kept))
            ∙ ap (list_any (is_dirty_at n)) (sym last.rest) ∙ behind in
            let both = and_parts (last.kept.line == n) last.kept.dirty one in
            inr (last.kept, last.is, eqb-true last.kept.line n both.0, both.1)
            )
      ]
    ]

pub take-first : {X : Type 0} (i : ℕ) (x : X) (xs : List X) → 0 < i → take i (x ∷ xs) ≡ x ∷ take (i - 1) xs
take-first zero x xs h = absurd (omega arith)
take-first (suc i) x xs h = ap (λ k. x ∷ take k xs) (let e : i ≡ suc i - 1 = omega arith in e)
