-- A level takes entries that have its bucket on their path.
use Rattle.std.proofs.Common.{◌≡◌, ℕ, ◌^◌, ◌<◌, ◌≤◌, List, Option, All, map, arith}
use Rattle.asc_base.specs.TreeShape.{bucket_of, shared_of}
use Rattle.asc_base.specs.declared.block.Entry.{Entry}
use Rattle.asc_base.proofs.Members.{all_has, has_all}
use Rattle.asc_base.proofs.Paths.{shared_iff, shared_of-le}
use Rattle.path_evict.specs.Placed.{taken_at}
use Rattle.path_evict.specs.Placement.{Fits, stands_at}
use Rattle.path_evict.proofs.Placed.{where_placed-has, depth-taken_at}

pub on_paths : (levels leaf level : ℕ) (places : List (Option ℕ)) (entries : List Entry) → leaf < 2 ^ levels
    → All (λ (entry : Entry). entry.leaf.0 < 2 ^ levels) entries
    → Fits (map (λ (entry : Entry). shared_of levels entry.leaf.0 leaf) entries) places
    → All (λ (entry : Entry). bucket_of levels entry.leaf.0 level ≡ bucket_of levels leaf level)
    (taken_at level places entries)
on_paths levels leaf level places entries within all fits =
    let deep = depth-taken_at (λ (entry : Entry). shared_of levels entry.leaf.0 leaf) level places entries fits in
    has_all (λ (entry : Entry). bucket_of levels entry.leaf.0 level ≡ bucket_of levels leaf level)
    (taken_at level places entries)
    (λ entry h.
    let shares : level ≤ shared_of levels entry.leaf.0 leaf =
    all_has (λ (x : Entry). level ≤ shared_of levels x.leaf.0 leaf) entry (taken_at level places entries) deep h in
    let inside : entry.leaf.0 < 2 ^ levels =
    all_has (λ (x : Entry). x.leaf.0 < 2 ^ levels) entry entries all
    (where_placed-has (stands_at level) places entries entry h) in
    (shared_iff levels entry.leaf.0 leaf level inside within
    (omega (arith, shares, shared_of-le levels entry.leaf.0 leaf))).1 shares)
