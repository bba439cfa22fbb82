-- No level holds more than its bucket's slots.
use Rattle.std.proofs.Common.{◌≡◌, ◌≢◌, ℕ, zero, suc, ◌+◌, ◌≤◌, ◌<◌, List, [], ◌∷◌, Option, Some, None, true, false}
use Rattle.std.proofs.Common.{cond, length, arith, refl, subst, inl, inr, sym, ap, ◌∙◌, replicate, nat_le}
use Rattle.std.proofs.lemmas.Bool.Decides.{leb_tells, eqb_tells}
use Rattle.path_evict.specs.Placement.{slots, IsPlacement, count_at, stands_at}
use Rattle.path_evict.specs.Eviction.{fill, fill_up, eviction}
use Rattle.asc_base.proofs.Lookups.{count_by-yes, count_by-no}
use Rattle.std.proofs.lemmas.List.Sums.{sum_by-cons}
use Rattle.path_evict.proofs.Counts.{FitsFrom, FitsFrom-fill, FitsFrom-empty, Fits-eviction}

-- nothing stands yet at a level below all that were filled
count_at-above : (bound level : ℕ) (depths : List ℕ) (places : List (Option ℕ)) → FitsFrom bound depths places
    → level < bound → count_at level places ≡ 0
count_at-above bound level [] [] f h = refl
count_at-above bound level [] (place ∷ places) f h = absurd f
count_at-above bound level (depth ∷ depths) [] f h = absurd f
count_at-above bound level (depth ∷ depths) (None ∷ places) f h =
    count_by-no (stands_at level) None places refl ∙ ap (λ n. 0 + n) (count_at-above bound level depths places f h)
count_at-above bound level (depth ∷ depths) (Some place ∷ places) f h =
    elim (eqb_tells place level) [
      | inl same ↦ let e : place ≡ level = same.1 in let b : bound ≤ place = f.0 in absurd (omega arith)
      | inr other ↦ count_by-no (stands_at level) (Some place) places other.0
          ∙ ap (λ n. 0 + n) (count_at-above bound level depths places f.2 h)
    ]

count_at-same : (level : ℕ) (place : Option ℕ) (xs ys : List (Option ℕ)) → count_at level xs ≡ count_at level ys
    → count_at level (place ∷ xs) ≡ count_at level (place ∷ ys)
count_at-same level place xs ys e =
    sum_by-cons (λ p. cond (stands_at level p) 1 0) place xs
    ∙ ap (λ n. cond (stands_at level place) 1 0 + n) e
    ∙ sym (sum_by-cons (λ p. cond (stands_at level p) 1 0) place ys)

pub fill-yes : (level room depth : ℕ) (depths : List ℕ) (places : List (Option ℕ)) → nat_le level depth ≡ true
    → fill level (suc room) (depth ∷ depths) (None ∷ places) ≡ Some level ∷ fill level room depths places
unfolding fill
fill-yes level room depth depths places e = rw e

pub fill-no : (level room depth : ℕ) (depths : List ℕ) (places : List (Option ℕ)) → nat_le level depth ≡ false
    → fill level (suc room) (depth ∷ depths) (None ∷ places) ≡ None ∷ fill level (suc room) depths places
unfolding fill
fill-no level room depth depths places e = rw e

count_at-fill_other : (level other room : ℕ) (depths : List ℕ) (places : List (Option ℕ)) → level ≢ other
    → count_at other (fill level room depths places) ≡ count_at other places
unfolding fill
count_at-fill_other level other room [] places ne = refl
count_at-fill_other level other room (depth ∷ depths) [] ne = refl
count_at-fill_other level other room (depth ∷ depths) (Some place ∷ places) ne =
    count_at-same other (Some place) (fill level room depths places) places
    (count_at-fill_other level other room depths places ne)
count_at-fill_other level other zero (depth ∷ depths) (None ∷ places) ne = refl
count_at-fill_other level other (suc room) (depth ∷ depths) (None ∷ places) ne =
    elim (leb_tells level depth) [
      | inl h ↦ elim (eqb_tells level other) [
        | inl same ↦ absurd (ne same.1)
        | inr differs ↦
            ap (count_at other) (fill-yes level room depth depths places h.0)
            ∙ count_by-no (stands_at other) (Some level) (fill level room depths places) differs.0
            ∙ ap (λ n. 0 + n) (count_at-fill_other level other room depths places ne)
            ∙ sym (count_by-no (stands_at other) None places refl)
      ]
      | inr h ↦
          ap (count_at other) (fill-no level room depth depths places h.0)
          ∙ count_at-same other None (fill level (suc room) depths places) places
          (count_at-fill_other level other (suc room) depths places ne)
    ]

-- one entry more in front counts the same in both
le_in_front : (n a b c room : ℕ) (x y : ℕ) → x ≡ n + a → y ≡ n + b → a ≤ b + room → x ≤ y + room
le_in_front n a b c room x y p q h = omega arith

count_at-fill : (level room : ℕ) (depths : List ℕ) (places : List (Option ℕ))
    → count_at level (fill level room depths places) ≤ count_at level places + room
unfolding fill
count_at-fill level room [] places = omega arith
count_at-fill level room (depth ∷ depths) [] = omega arith
count_at-fill level room (depth ∷ depths) (Some place ∷ places) =
    le_in_front (cond (stands_at level (Some place)) 1 0) _ _ 0 room _ _
    (sum_by-cons (λ p. cond (stands_at level p) 1 0) (Some place) (fill level room depths places))
    (sum_by-cons (λ p. cond (stands_at level p) 1 0) (Some place) places)
    (count_at-fill level room depths places)
count_at-fill level zero (depth ∷ depths) (None ∷ places) = omega arith
count_at-fill level (suc room) (depth ∷ depths) (None ∷ places) =
    let before : count_at level (None ∷ places) ≡ 0 + count_at level places =
    count_by-no (stands_at level) None places refl in
    elim (leb_tells level depth) [
      | inl h ↦ elim (eqb_tells level level) [
        | inl same ↦
            let after : count_at level (fill level (suc room) (depth ∷ depths) (None ∷ places)) ≡ 1 + count_at level
            (fill level room depths places) =
            ap (count_at level) (fill-yes level room depth depths places h.0)
            ∙ count_by-yes (stands_at level) (Some level) (fill level room depths places) same.0 in
            let more : count_at level (fill level room depths places) ≤ count_at level places + room =
            count_at-fill level room depths places in
            omega arith
        | inr differs ↦ absurd (differs.1 refl)
      ]
      | inr h ↦
          let after : count_at level (fill level (suc room) (depth ∷ depths) (None ∷ places)) ≡ 0 + count_at level
          (fill level (suc room) depths places) =
          ap (count_at level) (fill-no level room depth depths places h.0)
          ∙ count_by-no (stands_at level) None (fill level (suc room) depths places) refl in
          let more : count_at level (fill level (suc room) depths places) ≤ count_at level places + suc room =
          count_at-fill level (suc room) depths places in
          omega arith
    ]

HasRoom : List (Option ℕ) → Type 0
HasRoom places = (level : ℕ) → count_at level places ≤ slots

HasRoom-fill : (level : ℕ) (depths : List ℕ) (places : List (Option ℕ)) → FitsFrom (suc level) depths places
    → HasRoom places → HasRoom (fill level slots depths places)
unfolding HasRoom
HasRoom-fill level depths places f room other =
    elim (eqb_tells level other) [
      | inl same ↦
          let P : ℕ → Type 0 = λ i. count_at i (fill level slots depths places) ≤ slots in
          let none : count_at level places ≡ 0 = count_at-above (suc level) level depths places f (omega arith) in
          let more : count_at level (fill level slots depths places) ≤ count_at level places + slots =
          count_at-fill level slots depths places in
          subst P same.1 (omega arith)
      | inr differs ↦ rw (count_at-fill_other level other slots depths places differs.1) (room other)
    ]

HasRoom-fill_up : (level : ℕ) (depths : List ℕ) (places : List (Option ℕ)) → FitsFrom (suc level) depths places
    → HasRoom places → HasRoom (fill_up level depths places)
unfolding fill_up
HasRoom-fill_up zero depths places f room = HasRoom-fill 0 depths places f room
HasRoom-fill_up (suc level) depths places f room =
    HasRoom-fill_up level depths (fill (suc level) slots depths places)
    (FitsFrom-fill (suc level) slots depths places f) (HasRoom-fill (suc level) depths places f room)

HasRoom-empty : (n : ℕ) → HasRoom (replicate n None)
unfolding HasRoom
HasRoom-empty zero level = omega arith
HasRoom-empty (suc n) level = HasRoom-empty n level

pub IsPlacement-eviction : (depths : List ℕ) (levels : ℕ) → IsPlacement depths (eviction depths levels)
unfolding eviction HasRoom
IsPlacement-eviction depths levels = record {
  fits = Fits-eviction depths levels;
  room = HasRoom-fill_up levels depths _ (FitsFrom-empty (suc levels) depths) (HasRoom-empty (length depths));
}
