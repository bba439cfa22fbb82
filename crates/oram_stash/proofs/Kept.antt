-- Keeping the entries that have no place.
use Rattle.std.proofs.Common.{◌≡◌, ◌<◌, ◌≤◌, ◌+◌, ℕ, Bool, true, false, List, [], ◌∷◌, ◌++◌, length, take, drop, set}
use Rattle.std.proofs.Common.{get_or, not, is_some, is_none, Option, None, Some, sym, ◌∙◌, ap, ap₂, refl, arith}
use Rattle.std.proofs.Common.{append_assoc}
use Rattle.std.proofs.lemmas.List.{take_more_set, drop-set-lt}
use Rattle.asc_base.specs.declared.block.Entry.{Entry}
use Rattle.path_evict.specs.Placed.{kept}
use Rattle.path_evict.proofs.Placed.{where_placed-next, where_placed-skip}

-- an entry that stays moves up
pub kept_more : (places : List (Option ℕ)) (entries : List Entry) (done at : ℕ) (d : Entry) → done ≤ at
    → at < length places → at < length entries → is_none (get_or places at None) ≡ true
    → take (done + 1) (set entries done (get_or entries at d))
    ++ kept (drop (at + 1) places) (drop (at + 1) (set entries done (get_or entries at d)))
    ≡ take done entries ++ kept (drop at places) (drop at entries)
kept_more places entries done at d within in_places in_entries is =
    let y : Entry = get_or entries at d in
    ap₂ (λ (front rest : List Entry). front ++ kept (drop (at + 1) places) rest)
    (take_more_set entries done y (omega arith)) (drop-set-lt (at + 1) entries done y (omega arith))
    ∙ append_assoc (take done entries) (y ∷ []) (kept (drop (at + 1) places) (drop (at + 1) entries))
    ∙ ap (λ (rest : List Entry). take done entries ++ rest)
    (sym (where_placed-next is_none places entries at None d in_places in_entries is))

-- one that has a place is passed over
pub kept_same : (places : List (Option ℕ)) (entries : List Entry) (done at : ℕ) → at < length places
    → at < length entries → is_none (get_or places at None) ≡ false
    → take done entries ++ kept (drop (at + 1) places) (drop (at + 1) entries)
    ≡ take done entries ++ kept (drop at places) (drop at entries)
kept_same places entries done at in_places in_entries is =
    ap (λ (rest : List Entry). take done entries ++ rest)
    (sym (where_placed-skip is_none places entries at None in_places in_entries is))

-- what `is_none` answers
pub none_is : (place : Option ℕ) (r : Bool) → is_some place ≡ not r → is_none place ≡ r
none_is None true is = refl
none_is None false is = absurd (let bad : false ≡ true = is in cc)
none_is (Some n) true is = absurd (let bad : true ≡ false = is in cc)
none_is (Some n) false is = refl
