-- What a list of places is once every level has taken entries.
use Rattle.std.proofs.Common.{◌≡◌, ℕ, ◌-◌, ◌≤◌, List, [], ◌++◌, Option, None, All, length, replicate, take, drop}
use Rattle.std.proofs.Common.{arith, refl, sym, ap, ◌∙◌, subst}
use Rattle.std.proofs.Math.Seq.{take-nil}
use Rattle.path_evict.specs.Placement.{IsPlacement, left}
use Rattle.path_evict.specs.Eviction.{fill_up, eviction}
use Rattle.path_evict.specs.Rest.{rest}
use Rattle.path_evict.proofs.Bound.{rest-le-left}
use Rattle.path_evict.proofs.Leaves.{left-eviction}
use Rattle.path_evict.proofs.Room.{IsPlacement-eviction}
use Rattle.path_evict.proofs.Steps.{written}

-- it is the rule's list, and leaves the fewest
pub record IsPlanned (depths : List ℕ) (levels : ℕ) (items : List (Option ℕ)) : Type 0 where
  pub rule : items ≡ eviction depths levels
  pub placement : IsPlacement depths items
  pub leaves : left items ≡ rest depths levels
  pub fewest : (places : List (Option ℕ)) → IsPlacement depths places → left items ≤ left places

IsPlanned-eviction : (depths : List ℕ) (levels : ℕ) → All (λ depth. depth ≤ levels) depths
    → IsPlanned depths levels (eviction depths levels)
IsPlanned-eviction depths levels all =
    let leaves : left (eviction depths levels) ≡ rest depths levels = left-eviction depths levels all in
    record {
      rule = refl;
      placement = IsPlacement-eviction depths levels;
      leaves = leaves;
      fewest = λ places is. let bound : rest depths levels ≤ left places = rest-le-left depths levels places is in
          omega arith;
    }

-- the list is made of as many None as there are entries
blank : (n k : ℕ) (cleared : List (Option ℕ)) → cleared ≡ [] → k ≡ 0
    → take n cleared ++ replicate (n - k) None ≡ replicate n None
blank n k cleared e z = ap (λ xs. take n xs ++ replicate (n - k) None) e
    ∙ ap (λ xs. xs ++ replicate (n - k) None) (take-nil n)
    ∙ ap (λ j. replicate j None) (let d : n - k ≡ n = omega arith in d)

pub planned : (depths : List ℕ) (levels len k m : ℕ) (cleared start lent new old : List (Option ℕ))
    → All (λ depth. depth ≤ levels) depths → cleared ≡ [] → k ≡ 0
    → start ≡ take (length depths) cleared ++ replicate (length depths - k) None → lent ≡ start
    → new ≡ fill_up levels depths lent → length new ≡ len → IsPlanned depths levels (take len (new ++ drop m old))
unfolding eviction
planned depths levels len k m cleared start lent new old all empty none made same filled whole =
    let rule : take len (new ++ drop m old) ≡ eviction depths levels =
    written len m new old whole ∙ filled
    ∙ ap (fill_up levels depths) (same ∙ made ∙ blank (length depths) k cleared empty none) in
    subst (IsPlanned depths levels) (sym rule) (IsPlanned-eviction depths levels all)
