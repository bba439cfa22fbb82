-- What it says of each entry that a placement fits.
use Rattle.std.proofs.Common.{◌≡◌, ℕ, zero, suc, ◌≤◌, List, [], ◌∷◌, Option, Some, None, length, get_or, refl, ap}
use Rattle.std.proofs.Common.{arith}
use Rattle.asc_base.proofs.Lookups.{some_is}
use Rattle.path_evict.specs.Placement.{Fits}

pub Fits-length : (depths : List ℕ) (places : List (Option ℕ)) → Fits depths places → length places ≡ length depths
Fits-length [] [] f = refl
Fits-length [] (place ∷ places) f = absurd f
Fits-length (depth ∷ depths) [] f = absurd f
Fits-length (depth ∷ depths) (None ∷ places) f = ap (λ n. suc n) (Fits-length depths places f)
Fits-length (depth ∷ depths) (Some level ∷ places) f = ap (λ n. suc n) (Fits-length depths places f.1)

-- the level of the entry at i is at most its depth
pub Fits-at : (depths : List ℕ) (places : List (Option ℕ)) (i level : ℕ) → Fits depths places
    → get_or places i None ≡ Some level → level ≤ get_or depths i 0
Fits-at [] [] i level f at = absurd (cc)
Fits-at [] (place ∷ places) i level f at = absurd f
Fits-at (depth ∷ depths) [] i level f at = absurd f
Fits-at (depth ∷ depths) (None ∷ places) zero level f at = absurd (cc)
Fits-at (depth ∷ depths) (None ∷ places) (suc i) level f at = Fits-at depths places i level f at
Fits-at (depth ∷ depths) (Some place ∷ places) zero level f at = let e : place ≡ level = some_is at in
    let h : place ≤ depth = f.0 in omega arith
Fits-at (depth ∷ depths) (Some place ∷ places) (suc i) level f at = Fits-at depths places i level f.1 at
