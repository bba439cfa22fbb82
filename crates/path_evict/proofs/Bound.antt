-- Every placement leaves at least the rest: the entries with a depth of at most k stand at the levels from 0 to k.
use Rattle.std.proofs.Common.{◌≡◌, ◌≢◌, ℕ, zero, suc, ◌+◌, ◌*◌, ◌≤◌, List, [], ◌∷◌, Option, Some, None, cond, arith}
use Rattle.std.proofs.Common.{refl, inl, inr, nat_le, is_none}
use Rattle.std.proofs.lemmas.Bool.Decides.{leb_tells, eqb_tells}
use Rattle.std.proofs.lemmas.List.Sums.{sum_by-cons}
use Rattle.path_evict.specs.Placement.{slots, IsPlacement, Fits, count_at, stands_at, left}
use Rattle.path_evict.specs.Rest.{count_within, excess, rest}
use Rattle.path_evict.proofs.Highest.{rest-le}
use Rattle.asc_base.proofs.Lookups.{count_by-yes, count_by-no}

-- how many entries stand at the levels from 0 to k
abbrev pub total_to : List (Option ℕ) → ℕ → ℕ
total_to places zero = count_at 0 places
total_to places (suc k) = total_to places k + count_at (suc k) places

count_at-more : (level : ℕ) (place : Option ℕ) (places : List (Option ℕ))
    → count_at level places ≤ count_at level (place ∷ places)
count_at-more level place places =
    let step : count_at level (place ∷ places) ≡ cond (stands_at level place) 1 0 + count_at level places =
    sum_by-cons (λ p. cond (stands_at level p) 1 0) place places in
    omega arith

total_to-more : (place : Option ℕ) (places : List (Option ℕ)) (k : ℕ) → total_to places k ≤ total_to (place ∷ places) k
total_to-more place places zero = count_at-more 0 place places
total_to-more place places (suc k) =
    let below : total_to places k ≤ total_to (place ∷ places) k = total_to-more place places k in
    let here : count_at (suc k) places ≤ count_at (suc k) (place ∷ places) = count_at-more (suc k) place places in
    omega arith

-- one that stands at one of these levels counts
total_to-counts : (level : ℕ) (places : List (Option ℕ)) (k : ℕ) → level ≤ k
    → 1 + total_to places k ≤ total_to (Some level ∷ places) k
total_to-counts level places zero h =
    elim (eqb_tells level 0) [
      | inl same ↦ let step : count_at 0 (Some level ∷ places) ≡ 1 + count_at 0 places =
          count_by-yes (stands_at 0) (Some level) places same.0 in omega arith
      | inr differs ↦ absurd (differs.1 (omega arith))
    ]
total_to-counts level places (suc k) h =
    elim (eqb_tells level (suc k)) [
      | inl same ↦
          let step : count_at (suc k) (Some level ∷ places) ≡ 1 + count_at (suc k) places =
          count_by-yes (stands_at (suc k)) (Some level) places same.0 in
          let below : total_to places k ≤ total_to (Some level ∷ places) k = total_to-more (Some level) places k in
          omega arith
      | inr differs ↦
          let apart : level ≢ suc k = differs.1 in
          let below : 1 + total_to places k ≤ total_to (Some level ∷ places) k =
          total_to-counts level places k (omega arith) in
          let here : count_at (suc k) places ≤ count_at (suc k) (Some level ∷ places) =
          count_at-more (suc k) (Some level) places in
          omega arith
    ]

total_to-le : (places : List (Option ℕ)) (k : ℕ) → ((level : ℕ) → count_at level places ≤ slots)
    → total_to places k ≤ slots * (k + 1)
total_to-le places zero room = let here : count_at 0 places ≤ 4 = room 0 in omega arith
total_to-le places (suc k) room =
    let below : total_to places k ≤ 4 * (k + 1) = total_to-le places k room in
    let here : count_at (suc k) places ≤ 4 = room (suc k) in
    omega arith

within-cons : (depth : ℕ) (depths : List ℕ) (k : ℕ) → count_within (depth ∷ depths) k ≤ 1 + count_within depths k
within-cons depth depths k =
    elim (leb_tells depth k) [
      | inl h ↦ let step : count_within (depth ∷ depths) k ≡ 1 + count_within depths k =
          count_by-yes (λ d. nat_le d k) depth depths h.0 in omega arith
      | inr h ↦ let step : count_within (depth ∷ depths) k ≡ 0 + count_within depths k =
          count_by-no (λ d. nat_le d k) depth depths h.0 in omega arith
    ]

within-le : (depths : List ℕ) (places : List (Option ℕ)) (k : ℕ) → Fits depths places
    → count_within depths k ≤ left places + total_to places k
within-le [] [] k f = omega arith
within-le [] (place ∷ places) k f = absurd f
within-le (depth ∷ depths) [] k f = absurd f
within-le (depth ∷ depths) (None ∷ places) k f =
    let others : count_within depths k ≤ left places + total_to places k = within-le depths places k f in
    let first : count_within (depth ∷ depths) k ≤ 1 + count_within depths k = within-cons depth depths k in
    let stays : left (None ∷ places) ≡ 1 + left places = count_by-yes is_none None places refl in
    let more : total_to places k ≤ total_to (None ∷ places) k = total_to-more None places k in
    omega arith
within-le (depth ∷ depths) (Some level ∷ places) k f =
    let others : count_within depths k ≤ left places + total_to places k = within-le depths places k f.1 in
    let goes : left (Some level ∷ places) ≡ 0 + left places = count_by-no is_none (Some level) places refl in
    let above : level ≤ depth = f.0 in
    elim (leb_tells depth k) [
      | inl h ↦
          let within : depth ≤ k = h.1 in
          let first : count_within (depth ∷ depths) k ≤ 1 + count_within depths k = within-cons depth depths k in
          let more : 1 + total_to places k ≤ total_to (Some level ∷ places) k =
          total_to-counts level places k (omega arith) in
          omega arith
      | inr h ↦
          let first : count_within (depth ∷ depths) k ≡ 0 + count_within depths k =
          count_by-no (λ d. nat_le d k) depth depths h.0 in
          let more : total_to places k ≤ total_to (Some level ∷ places) k = total_to-more (Some level) places k in
          omega arith
    ]

pub excess-le-left : (depths : List ℕ) (places : List (Option ℕ)) (k : ℕ) → IsPlacement depths places
    → excess depths k ≤ left places
excess-le-left depths places k is =
    let counted : count_within depths k ≤ left places + total_to places k = within-le depths places k is.fits in
    let room : total_to places k ≤ 4 * (k + 1) = total_to-le places k is.room in
    omega arith

pub rest-le-left : (depths : List ℕ) (levels : ℕ) (places : List (Option ℕ)) → IsPlacement depths places
    → rest depths levels ≤ left places
rest-le-left depths levels places is = rest-le depths levels (left places) (λ k h. excess-le-left depths places k is)

-- what equals the rest is the fewest
pub fewest : (depths : List ℕ) (levels most : ℕ) → most ≡ rest depths levels
    → (places : List (Option ℕ)) → IsPlacement depths places → most ≤ left places
fewest depths levels most same places is =
    let bound : rest depths levels ≤ left places = rest-le-left depths levels places is in omega arith
