-- Where the rule puts entries.
use Rattle.std.proofs.Common.{◌≤◌, ℕ, inl, inr, List, [], ◌∷◌, length, All, Option, None}
use Rattle.std.proofs.Common.{Some, arith}
use Rattle.std.proofs.lemmas.Bool.Decides.{eqb_tells}
use Rattle.std.proofs.lemmas.List.Elements.{All-cons}
use Rattle.asc_base.specs.TreeShape.{shared_of}
use Rattle.asc_base.specs.declared.block.Entry.{Entry}
use Rattle.path_evict.specs.Placed.{where_placed}
use Rattle.path_evict.proofs.Placed.{length-where_placed}
use Rattle.path_evict.specs.Placement.{Fits, stands_at}
use Rattle.path_evict.proofs.Room.{IsPlacement-eviction}
use Rattle.oram_contents.specs.PathWritten.{depths_of, places_of}

fits_on_path : (levels leaf level : ℕ) (hand : List Entry) (places : List (Option ℕ))
    → Fits (depths_of levels leaf hand) places → All (λ (entry : Entry). level ≤ shared_of levels entry.leaf.0 leaf)
    (where_placed (stands_at level) places hand)
fits_on_path levels leaf level hand [] fits = λ k d less. absurd (omega arith)
fits_on_path levels leaf level [] (place ∷ places) fits = λ k d less. absurd (omega arith)
fits_on_path levels leaf level (entry ∷ hand) (None ∷ places) fits = fits_on_path levels leaf level hand places fits
fits_on_path levels leaf level (entry ∷ hand) (Some place ∷ places) fits =
    let next = fits_on_path levels leaf level hand places fits.1 in
    let P : Entry → Type 0 = λ (e : Entry). level ≤ shared_of levels e.leaf.0 leaf in
    elim (eqb_tells place level) [
      | inl same ↦ rw same.0 (All-cons P entry (where_placed (stands_at level) places hand)
          (omega (arith, same.1, fits.0)) next)
      | inr other ↦ rw other.0 next
    ]

pub placed_on_path : (levels leaf level : ℕ) (hand : List Entry)
    → All (λ (entry : Entry). level ≤ shared_of levels entry.leaf.0 leaf)
    (where_placed (stands_at level) (places_of levels leaf hand) hand)
placed_on_path levels leaf level hand = fits_on_path levels leaf level hand (places_of levels leaf hand)
    (IsPlacement-eviction (depths_of levels leaf hand) levels).fits

pub placed_number : (levels leaf level : ℕ) (hand : List Entry)
    → length (where_placed (stands_at level) (places_of levels leaf hand) hand) ≤ 4
placed_number levels leaf level hand =
    omega (
      arith,
      length-where_placed (stands_at level) (places_of levels leaf hand) hand,
      (IsPlacement-eviction (depths_of levels leaf hand) levels).room level,
    )
