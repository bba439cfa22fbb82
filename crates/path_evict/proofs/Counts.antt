-- What filling a level does to the entries that wait for it, and how many the whole rule leaves.
use Rattle.std.proofs.Common.{◌≡◌, ℕ, zero, suc, ◌+◌, ◌-◌, ◌≤◌, List, [], ◌∷◌, Option, Some, None, cond, length}
use Rattle.std.proofs.Common.{arith, inl, inr, replicate, nat_le}
use Rattle.std.proofs.lemmas.Bool.Decides.{leb_tells}
use Rattle.path_evict.specs.Placement.{slots, Fits}
use Rattle.path_evict.specs.Eviction.{fill, fill_up, eviction}

-- how many entries wait for a level: they aren't placed, and may stand there
abbrev pub waiting : ℕ → List ℕ → List (Option ℕ) → ℕ
waiting level [] places = 0
waiting level (depth ∷ depths) [] = 0
waiting level (depth ∷ depths) (Some place ∷ places) = waiting level depths places
waiting level (depth ∷ depths) (None ∷ places) =
    cond (nat_le level depth) (1 + waiting level depths places) (waiting level depths places)

pub waiting-fill : (level room : ℕ) (depths : List ℕ) (places : List (Option ℕ))
    → waiting level depths (fill level room depths places) ≡ waiting level depths places - room
unfolding fill
waiting-fill level room [] places = omega arith
waiting-fill level room (depth ∷ depths) [] = omega arith
waiting-fill level room (depth ∷ depths) (Some place ∷ places) = waiting-fill level room depths places
waiting-fill level zero (depth ∷ depths) (None ∷ places) = omega arith
waiting-fill level (suc room) (depth ∷ depths) (None ∷ places) =
    elim (leb_tells level depth) [
      | inl h ↦ rw h.0 (let rest_of : waiting level depths (fill level room depths places) ≡ waiting level depths
          places - room = waiting-fill level room depths places in omega arith)
      | inr h ↦ rw (h.0, h.0) (waiting-fill level (suc room) depths places)
    ]

-- every level that is taken so far is at least `bound`, and no entry stands below its depth
abbrev pub FitsFrom : ℕ → List ℕ → List (Option ℕ) → Type 0
FitsFrom bound [] [] = Unit {0}
FitsFrom bound [] (_ ∷ _) = ⊥
FitsFrom bound (_ ∷ _) [] = ⊥
FitsFrom bound (_ ∷ depths) (None ∷ places) = FitsFrom bound depths places
FitsFrom bound (depth ∷ depths) (Some level ∷ places) = (bound ≤ level) × (level ≤ depth) × FitsFrom bound depths places

pub FitsFrom-empty : (bound : ℕ) (depths : List ℕ) → FitsFrom bound depths (replicate (length depths) None)
FitsFrom-empty bound [] = tt
FitsFrom-empty bound (depth ∷ depths) = FitsFrom-empty bound depths

FitsFrom-lower : (bound : ℕ) (depths : List ℕ) (places : List (Option ℕ)) → FitsFrom (suc bound) depths places
    → FitsFrom bound depths places
FitsFrom-lower bound [] [] f = tt
FitsFrom-lower bound [] (place ∷ places) f = f
FitsFrom-lower bound (depth ∷ depths) [] f = f
FitsFrom-lower bound (depth ∷ depths) (None ∷ places) f = FitsFrom-lower bound depths places f
FitsFrom-lower bound (depth ∷ depths) (Some level ∷ places) f =
    (let h : suc bound ≤ level = f.0 in omega arith, f.1, FitsFrom-lower bound depths places f.2)

pub FitsFrom-fill : (level room : ℕ) (depths : List ℕ) (places : List (Option ℕ))
    → FitsFrom (suc level) depths places → FitsFrom level depths (fill level room depths places)
unfolding fill
FitsFrom-fill level room [] [] f = tt
FitsFrom-fill level room [] (place ∷ places) f = f
FitsFrom-fill level room (depth ∷ depths) [] f = f
FitsFrom-fill level room (depth ∷ depths) (Some place ∷ places) f =
    (let h : suc level ≤ place = f.0 in omega arith, f.1, FitsFrom-fill level room depths places f.2)
FitsFrom-fill level zero (depth ∷ depths) (None ∷ places) f = FitsFrom-lower level depths places f
FitsFrom-fill level (suc room) (depth ∷ depths) (None ∷ places) f =
    elim (leb_tells level depth) [
      | inl h ↦ rw h.0 (omega arith, h.1, FitsFrom-fill level room depths places f)
      | inr h ↦ rw h.0 (FitsFrom-fill level (suc room) depths places f)
    ]

FitsFrom-fill_up : (level : ℕ) (depths : List ℕ) (places : List (Option ℕ)) → FitsFrom (suc level) depths places
    → FitsFrom 0 depths (fill_up level depths places)
unfolding fill_up
FitsFrom-fill_up zero depths places f = FitsFrom-fill 0 slots depths places f
FitsFrom-fill_up (suc level) depths places f =
    FitsFrom-fill_up level depths (fill (suc level) slots depths places)
    (FitsFrom-fill (suc level) slots depths places f)

Fits-from : (depths : List ℕ) (places : List (Option ℕ)) → FitsFrom 0 depths places → Fits depths places
Fits-from [] [] f = tt
Fits-from [] (place ∷ places) f = f
Fits-from (depth ∷ depths) [] f = f
Fits-from (depth ∷ depths) (None ∷ places) f = Fits-from depths places f
Fits-from (depth ∷ depths) (Some level ∷ places) f = (f.1, Fits-from depths places f.2)

pub Fits-eviction : (depths : List ℕ) (levels : ℕ) → Fits depths (eviction depths levels)
unfolding eviction
Fits-eviction depths levels = Fits-from depths _ (FitsFrom-fill_up levels depths _ (FitsFrom-empty (suc levels) depths))
