-- The rule, one entry at a time.
use Rattle.std.proofs.Common.{◌≡◌, ℕ, zero, suc, ◌+◌, ◌-◌, ◌≤◌, ◌<◌, List, [], ◌∷◌, ◌++◌, Option, Some, None, Bool}
use Rattle.std.proofs.Common.{true, false, length, take, drop, get_or, set, arith, refl, inl, inr, sym, ap, ◌∙◌}
use Rattle.std.proofs.Common.{append_assoc, drop-cons, add-one, drop_of_length-le, is_some, not}
use Rattle.std.proofs.lemmas.Bool.Decides.{leb_tells}
use Rattle.std.proofs.lemmas.List.{take_more, take_more_set, drop-set-lt, append-nil, take-append-le}
use Rattle.std.proofs.lemmas.List.{take_all}
use Rattle.path_evict.specs.Placement.{slots}
use Rattle.path_evict.specs.Eviction.{fill, fill_up}
use Rattle.path_evict.proofs.Room.{fill-yes, fill-no}

fill-full : (level : ℕ) (depths : List ℕ) (places : List (Option ℕ)) → fill level zero depths places ≡ places
unfolding fill
fill-full level [] places = refl
fill-full level (depth ∷ depths) [] = refl
fill-full level (depth ∷ depths) (None ∷ places) = refl
fill-full level (depth ∷ depths) (Some place ∷ places) = ap (λ ps. Some place ∷ ps) (fill-full level depths places)

fill-skip : (level room depth : ℕ) (place : Option ℕ) (depths : List ℕ) (places : List (Option ℕ)) → (0 < room
    → is_some place ≡ false → level ≤ depth → ⊥)
    → fill level room (depth ∷ depths) (place ∷ places) ≡ place ∷ fill level room depths places
unfolding fill
fill-skip level room depth (Some place) depths places barred = refl
fill-skip level zero depth None depths places barred = ap (λ ps. None ∷ ps) (sym (fill-full level depths places))
fill-skip level (suc room) depth None depths places barred =
    elim (leb_tells level depth) [
      | inl h ↦ absurd (barred (omega arith) refl h.1)
      | inr h ↦ fill-no level room depth depths places h.0
    ]

fill-take : (level room depth : ℕ) (place : Option ℕ) (depths : List ℕ) (places : List (Option ℕ)) → 0 < room
    → is_some place ≡ false → level ≤ depth
    → fill level room (depth ∷ depths) (place ∷ places) ≡ Some level ∷ fill level (room - 1) depths places
fill-take level room depth (Some place) depths places some none reaches = absurd (cc)
fill-take level zero depth None depths places some none reaches = absurd (omega arith)
fill-take level (suc room) depth None depths places some none reaches =
    elim (leb_tells level depth) [
      | inl h ↦ fill-yes level room depth depths places h.0
          ∙ ap (λ n. Some level ∷ fill level n depths places) (let e : room ≡ suc room - 1 = omega arith in e)
      | inr h ↦ absurd (omega (arith, h.1))
    ]

module _ (level room i : ℕ) (depths : List ℕ) (places : List (Option ℕ)) (d : ℕ) (p : Option ℕ)
    (in_depths : i < length depths) (in_places : i < length places) where
  front : fill level room (drop i depths) (drop i places)
      ≡ fill level room (get_or depths i d ∷ drop (i + 1) depths) (get_or places i p ∷ drop (i + 1) places)
  front = ap (λ ds. fill level room ds (drop i places)) (rw add-one (drop-cons depths i d in_depths))
      ∙ ap (fill level room _) (rw add-one (drop-cons places i p in_places))

  -- an entry that isn't taken
  pub step_skip : (0 < room → is_some (get_or places i p) ≡ false → level ≤ get_or depths i d → ⊥)
      → take (i + 1) places ++ fill level room (drop (i + 1) depths) (drop (i + 1) places)
      ≡ take i places ++ fill level room (drop i depths) (drop i places)
  step_skip barred =
      ap (λ ps. ps ++ fill level room (drop (i + 1) depths) (drop (i + 1) places)) (take_more places i p in_places)
      ∙ append_assoc (take i places) (get_or places i p ∷ [])
      (fill level room (drop (i + 1) depths) (drop (i + 1) places))
      ∙ ap (λ ps. take i places ++ ps)
      (sym (front ∙ fill-skip level room (get_or depths i d) (get_or places i p) (drop (i + 1) depths)
      (drop (i + 1) places) barred))

  -- an entry that the level takes
  pub step_take : 0 < room → is_some (get_or places i p) ≡ false → level ≤ get_or depths i d
      → take (i + 1) (set places i (Some level))
      ++ fill level (room - 1) (drop (i + 1) depths) (drop (i + 1) (set places i (Some level)))
      ≡ take i places ++ fill level room (drop i depths) (drop i places)
  step_take some none reaches =
      ap (λ ps. take (i + 1) (set places i (Some level)) ++ fill level (room - 1) (drop (i + 1) depths) ps)
      (drop-set-lt (i + 1) places i (Some level) (omega arith))
      ∙ ap (λ ps. ps ++ fill level (room - 1) (drop (i + 1) depths) (drop (i + 1) places))
      (take_more_set places i (Some level) in_places)
      ∙ append_assoc (take i places) (Some level ∷ [])
      (fill level (room - 1) (drop (i + 1) depths) (drop (i + 1) places))
      ∙ ap (λ ps. take i places ++ ps)
      (sym (front ∙ fill-take level room (get_or depths i d) (get_or places i p) (drop (i + 1) depths)
      (drop (i + 1) places) some none reaches))

-- past the last entry nothing is left to take
pub after_all : (level room i : ℕ) (depths : List ℕ) (places : List (Option ℕ)) → length depths ≤ i
    → length places ≤ i → take i places ++ fill level room (drop i depths) (drop i places) ≡ places
unfolding fill
after_all level room i depths places past_depths past_places =
    ap (λ ps. take i places ++ fill level room (drop i depths) ps) (drop_of_length-le places past_places)
    ∙ ap (λ ds. take i places ++ fill level room ds []) (drop_of_length-le depths past_depths)
    ∙ append-nil (take i places)
    ∙ take_all i places past_places

-- what a slice of a whole list is after it was written
pub written : (n m : ℕ) (new old : List (Option ℕ)) → length new ≡ n → take n (new ++ drop m old) ≡ new
written n m new old e = take-append-le n new (drop m old) (omega arith) ∙ take_all n new (omega arith)

pub not_both : (is r : Bool) → is ≡ not r → r ≡ false → is ≡ false → ⊥
not_both true r e f g = cc
not_both false true e f g = cc
not_both false false e f g = cc

pub fill_up-more : (level : ℕ) (depths : List ℕ) (places : List (Option ℕ)) → 0 < level
    → fill_up level depths places ≡ fill_up (level - 1) depths (fill level slots depths places)
unfolding fill_up
fill_up-more zero depths places h = absurd (omega arith)
fill_up-more (suc level) depths places h =
    ap (λ n. fill_up n depths (fill (suc level) slots depths places)) (let e : level ≡ suc level - 1 = omega arith in e)

pub fill_up-root : (level : ℕ) (depths : List ℕ) (places : List (Option ℕ)) → level ≤ 0
    → fill_up level depths places ≡ fill level slots depths places
unfolding fill_up
fill_up-root zero depths places h = refl
fill_up-root (suc level) depths places h = absurd (omega arith)
