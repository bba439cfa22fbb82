-- Entries at hand beside their places, and what taking them out leaves.
use Rattle.std.proofs.Common.{◌≡◌, ◌<◌, ◌≤◌, ◌+◌, ◌-◌, ℕ, zero, suc, min, Bool, true, false, if◌then◌else◌, List, []}
use Rattle.std.proofs.Common.{◌∷◌, length, drop}
use Rattle.std.proofs.Common.{get_or, slice_get, All, Option, None, Some, OnSome, refl, sym, ◌∙◌, ap, arith}
use Rattle.std.specs.Prelude.{is_none}
use Rattle.std.proofs.lemmas.List.{drop_more}
use Rattle.std.proofs.lemmas.List.Elements.{All-cons}
use Rattle.asc_base.specs.TreeShape.{shared_of}
use Rattle.asc_base.specs.declared.block.Address.{Address}
use Rattle.asc_base.specs.declared.block.Entry.{Entry}
use Rattle.asc_base.proofs.Paths.{shared_of-le}
use Rattle.oram_stash.specs.Entries.{held, without}
use Rattle.oram_stash.proofs.Held.{length-without, without-none}
use Rattle.path_evict.specs.Placed.{where_placed, kept}
use Rattle.path_evict.specs.Placement.{left}
use Rattle.path_evict.proofs.Placed.{where_placed-yes, where_placed-no}
use Rattle.oram_contents.specs.PathWritten.{depths_of}

-- no entry is taken out that isn't there
pub length-without-le : (entries : List Entry) (address : Address) → length (without entries address) ≤ length entries
length-without-le entries address = both (held entries address) refl
  where
    both : (o : Option Entry) → held entries address ≡ o → length (without entries address) ≤ length entries
    both None is = omega (arith, ap length (without-none entries address is))
    both (Some e) is = omega (arith, length-without entries address e is)

-- no more stay than there are
pub kept_fewer : (places : List (Option ℕ)) (entries : List Entry) → length (kept places entries) ≤ length entries
kept_fewer [] entries = omega arith
kept_fewer (place ∷ places) [] = omega arith
kept_fewer (place ∷ places) (entry ∷ entries) = by (is_none place) (kept_fewer places entries)
  where
    by : (b : Bool) → length (kept places entries) ≤ length entries
        → length (if b then (entry ∷ kept places entries) else kept places entries) ≤ length (entry ∷ entries)
    by true less = omega arith
    by false less = omega arith

-- the room that an entry leaves which is taken out
pub take_spare : (o : Option Entry) (entries new : List Entry) (address : Address) (old spare spare' one other : ℕ)
    → o ≡ held entries address → new ≡ without entries address → OnSome o (spare' ≡ spare + 1)
    → old ≡ min spare (min (one - length entries) (other - length entries)) → length entries ≤ one
    → length entries ≤ other
    → OnSome o (old + 1 ≤ min spare' (min (one - length new) (other - length new)))
take_spare None entries new address old spare spare' one other is new_is more old_is in_one in_other = tt
take_spare (Some e) entries new address old spare spare' one other is new_is more old_is in_one in_other =
    let fewer : length (without entries address) + 1 ≡ length entries = length-without entries address e (sym is) in
    let same : length new ≡ length (without entries address) = ap length new_is in
    omega arith

-- no depth is below the leaves
pub depths_within : (levels leaf : ℕ) (hand : List Entry) → All (λ depth. depth ≤ levels) (depths_of levels leaf hand)
depths_within levels leaf [] = λ k d less. absurd (omega arith)
depths_within levels leaf (entry ∷ hand) = All-cons (λ depth. depth ≤ levels) (shared_of levels entry.leaf.0 leaf)
    (depths_of levels leaf hand) (shared_of-le levels entry.leaf.0 leaf) (depths_within levels leaf hand)

-- an entry whose place meets the test is the next of those, and another one is passed over
pub nth_now : (test : Option ℕ → Bool) (places : List (Option ℕ)) (entry : Entry) (rest : List Entry) (at : ℕ)
    → at < length places → test (get_or places at None) ≡ true
    → slice_get (where_placed test (drop at places) (entry ∷ rest)) 0 ≡ Some entry
nth_now test places entry rest at inside is =
    ap (λ ps. slice_get (where_placed test ps (entry ∷ rest)) 0) (drop_more places at None inside)
    ∙ ap (λ es. slice_get es 0) (where_placed-yes test (get_or places at None) (drop (at + 1) places) entry rest is)

pub nth_later : (test : Option ℕ → Bool) (places : List (Option ℕ)) (entry : Entry) (rest : List Entry) (at left : ℕ)
    → 0 < left → at < length places → test (get_or places at None) ≡ true
    → slice_get (where_placed test (drop (at + 1) places) rest) (left - 1)
    ≡ slice_get (where_placed test (drop at places) (entry ∷ rest)) left
nth_later test places entry rest at zero some inside is = absurd (omega arith)
nth_later test places entry rest at (suc left) some inside is =
    let one : suc left - 1 ≡ left = omega arith in
    rw one (sym (ap (λ ps. slice_get (where_placed test ps (entry ∷ rest)) (suc left)) (drop_more places at None inside)
    ∙ ap (λ es. slice_get es (suc left))
    (where_placed-yes test (get_or places at None) (drop (at + 1) places) entry rest is)))

pub nth_other : (test : Option ℕ → Bool) (places : List (Option ℕ)) (entry : Entry) (rest : List Entry) (at left : ℕ)
    → at < length places → test (get_or places at None) ≡ false
    → slice_get (where_placed test (drop (at + 1) places) rest) left
    ≡ slice_get (where_placed test (drop at places) (entry ∷ rest)) left
nth_other test places entry rest at left inside is =
    sym (ap (λ ps. slice_get (where_placed test ps (entry ∷ rest)) left) (drop_more places at None inside)
    ∙ ap (λ es. slice_get es left)
    (where_placed-no test (get_or places at None) (drop (at + 1) places) entry rest is))
