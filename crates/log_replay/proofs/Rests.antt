-- A path can be written where no more entries stay than may.
use Rattle.std.proofs.Common.{◌≡◌, ◌≤◌, ℕ, Bool, false, if◌then◌else◌, nat_lt, List, [], ◌∷◌, length, Option, None}
use Rattle.std.proofs.Common.{Some, is_none, refl, ◌∙◌, ap, arith}
use Rattle.std.proofs.lemmas.Bool.{le-ltb}
use Rattle.std.proofs.lemmas.List.{length-map}
use Rattle.asc_base.specs.TreeShape.{shared_of}
use Rattle.asc_base.specs.declared.block.Entry.{Entry}
use Rattle.asc_base.specs.declared.stop.Stop.TheVariants.{StashFull}
use Rattle.path_evict.specs.Eviction.{eviction}
use Rattle.path_evict.specs.Placement.{Fits}
use Rattle.path_evict.proofs.Bound.{rest-le-left}
use Rattle.path_evict.proofs.Placed.{length-where_all}
use Rattle.path_evict.proofs.Room.{IsPlacement-eviction}
use Rattle.oram_contents.specs.Entries.{Keys}
use Rattle.oram_contents.specs.PathWritten.{depths_of, stays, rest_of}
use Rattle.oram_contents.specs.Verdict.{write_verdict}

-- a placement has a place for each entry
fits_length : (depths : List ℕ) (places : List (Option ℕ)) → Fits depths places → length places ≡ length depths
fits_length [] [] f = refl
fits_length [] (place ∷ places) f = absurd f
fits_length (depth ∷ depths) [] f = absurd f
fits_length (depth ∷ depths) (None ∷ places) f = let next = fits_length depths places f in omega arith
fits_length (depth ∷ depths) (Some place ∷ places) f = let next = fits_length depths places f.1 in omega arith

-- no more must stay than stay
pub rest_stays : (levels leaf : ℕ) (hand : List Entry) → rest_of levels leaf hand ≤ length (stays levels leaf hand)
rest_stays levels leaf hand =
    let depths = depths_of levels leaf hand in
    let placement = IsPlacement-eviction depths levels in
    let some = rest-le-left depths levels (eviction depths levels) placement in
    let each : length depths ≡ length hand = length-map hand
    (λ (entry : Entry). shared_of levels entry.leaf.0 leaf) in
    let whole = length-where_all is_none (eviction depths levels) hand
    (fits_length depths (eviction depths levels) placement.fits ∙ each) in
    omega arith

-- so nothing is wrong with the write where these are few
pub write_right : (keys : Keys) (stash leaf : ℕ) (hand : List Entry)
    → length (stays keys.shape.levels leaf hand) ≤ stash → write_verdict keys stash leaf hand ≡ None
write_right keys stash leaf hand few =
    let some = rest_stays keys.shape.levels leaf hand in
    let most : nat_lt stash (rest_of keys.shape.levels leaf hand) ≡ false = le-ltb stash
    (rest_of keys.shape.levels leaf hand) (omega arith) in
    ap (λ (b : Bool). if b then Some (StashFull (rest_of keys.shape.levels leaf hand)) else None) most
