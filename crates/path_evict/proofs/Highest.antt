-- The rest is the greatest excess, and a search through the depths in order finds the least that reaches it.
use Rattle.std.proofs.Common.{◌≡◌, ℕ, zero, suc, ◌+◌, ◌≤◌, ◌<◌, List, Option, Some, None, IfSome, IfNone, arith, inl}
use Rattle.std.proofs.Common.{inr, subst, sym}
use Rattle.std.proofs.Common.{length, nat_le}
use Rattle.std.proofs.lemmas.Bool.Decides.{leb_tells}
use Rattle.std.proofs.lemmas.List.Sums.{count_by-le-length}
use Rattle.path_evict.specs.Rest.{excess, rest, IsLeastWitness}

le_here : (excess-of : ℕ → ℕ) (level k r : ℕ) → k ≡ suc level → excess-of (suc level) ≤ r → excess-of k ≤ r
le_here excess-of level k r e h = let P : ℕ → Type 0 = λ n. excess-of n ≤ r in subst P (sym e) h

pub excess-le-rest : (depths : List ℕ) (levels k : ℕ) → k ≤ levels → excess depths k ≤ rest depths levels
unfolding rest
excess-le-rest depths zero k h =
    let P : ℕ → Type 0 = λ n. excess depths n ≤ excess depths 0 in
    let e : 0 ≡ k = omega arith in
    subst P e (omega arith)
excess-le-rest depths (suc level) k h =
    elim (leb_tells k level) [
      | inl below ↦ let sooner : excess depths k ≤ rest depths level = excess-le-rest depths level k below.1 in
          omega arith
      | inr above ↦ le_here (excess depths) level k _ (omega arith) (omega arith)
    ]

pub rest-le : (depths : List ℕ) (levels m : ℕ) → ((k : ℕ) → k ≤ levels → excess depths k ≤ m) → rest depths levels ≤ m
unfolding rest
rest-le depths zero m h = h 0 (omega arith)
rest-le depths (suc level) m h =
    let below : rest depths level ≤ m = rest-le depths level m (λ k in_reach. h k (omega arith)) in
    let here : excess depths (suc level) ≤ m = h (suc level) (omega arith) in
    omega arith

-- what a search through the depths below `n` knows: the most, and the least depth that reaches it
pub record Searched (depths : List ℕ) (n most : ℕ) (witness : Option ℕ) : Type 0 where
  pub bound : (k : ℕ) → k < n → excess depths k ≤ most
  pub found : IfSome witness
      (λ k. (k < n) × (0 < most) × (excess depths k ≡ most) × ((j : ℕ) → j < k → excess depths j < most))
  pub none : IfNone witness (most ≡ 0)

below_next : (f : ℕ → ℕ) (n r : ℕ) → ((k : ℕ) → k < n → f k ≤ r) → f n ≤ r → (k : ℕ) → k < n + 1 → f k ≤ r
below_next f n r before here k h =
    elim (leb_tells n k) [
      | inl reached ↦ let P : ℕ → Type 0 = λ i. f i ≤ r in let same : n ≡ k = omega arith in subst P same here
      | inr below ↦ before k below.1
    ]

pub searched_higher : (depths : List ℕ) (n most beyond : ℕ) (witness : Option ℕ) → Searched depths n most witness
    → beyond ≡ excess depths n → most < beyond → Searched depths (n + 1) beyond (Some n)
searched_higher depths n most beyond witness s e h = record {
  bound = below_next (excess depths) n beyond (λ k below. let b : excess depths k ≤ most = s.bound k below in omega
      arith) (omega arith);
  found = (omega arith, omega arith, sym e, λ j below. let b : excess depths j ≤ most = s.bound j below in omega arith);
  none = tt;
}

still_found : (depths : List ℕ) (n most : ℕ) (witness : Option ℕ)
    → IfSome witness (λ k. (k < n) × (0 < most) × (excess depths k ≡ most) × ((j : ℕ) → j < k
    → excess depths j < most))
    → IfSome witness (λ k. (k < n + 1) × (0 < most) × (excess depths k ≡ most) × ((j : ℕ) → j < k
    → excess depths j < most))
still_found depths n most None s = tt
still_found depths n most (Some k) s = (let h : k < n = s.0 in omega arith, s.1, s.2, s.3)

pub searched_on : (depths : List ℕ) (n most beyond : ℕ) (witness : Option ℕ) → Searched depths n most witness
    → beyond ≡ excess depths n → beyond ≤ most → Searched depths (n + 1) most witness
searched_on depths n most beyond witness s e h = record {
  bound = below_next (excess depths) n most s.bound (omega arith);
  found = still_found depths n most witness s.found;
  none = s.none;
}

searched-le : (depths : List ℕ) (levels most : ℕ) (witness : Option ℕ) → Searched depths (levels + 1) most witness
    → most ≤ rest depths levels
searched-le depths levels most None s = let e : most ≡ 0 = s.none in omega arith
searched-le depths levels most (Some k) s =
    let e : excess depths k ≡ most = s.found.2 in
    let h : excess depths k ≤ rest depths levels =
    excess-le-rest depths levels k (let b : k < levels + 1 = s.found.0 in omega arith) in
    omega arith

pub searched_rest : (depths : List ℕ) (n levels most : ℕ) (witness : Option ℕ) → Searched depths n most witness
    → n ≡ levels + 1 → most ≡ rest depths levels
searched_rest depths n levels most witness s e =
    let P : ℕ → Type 0 = λ i. Searched depths i most witness in
    let all : Searched depths (levels + 1) most witness = subst P e s in
    let above : rest depths levels ≤ most = rest-le depths levels most (λ k h. all.bound k (omega arith)) in
    let below : most ≤ rest depths levels = searched-le depths levels most witness all in
    omega arith

pub searched_witness : (depths : List ℕ) (n levels most : ℕ) (witness : Option ℕ) → Searched depths n most witness
    → n ≡ levels + 1 → IfSome witness (IsLeastWitness depths levels)
searched_witness depths n levels most None s e = tt
searched_witness depths n levels most (Some k) s e =
    let same : most ≡ rest depths levels = searched_rest depths n levels most (Some k) s e in
    let in_reach : k < n = s.found.0 in
    let above : 0 < most = s.found.1 in
    let here : excess depths k ≡ most = s.found.2 in
    record {
      within = omega arith;
      some = omega arith;
      reached = omega arith;
      least = λ j h. let b : excess depths j < most = s.found.3 j h in omega arith;
    }

pub searched_none : (depths : List ℕ) (n levels most : ℕ) (witness : Option ℕ) → Searched depths n most witness
    → n ≡ levels + 1 → IfNone witness (rest depths levels ≡ 0)
searched_none depths n levels most None s e =
    let same : most ≡ rest depths levels = searched_rest depths n levels most None s e in
    let none : most ≡ 0 = s.none in
    omega arith
searched_none depths n levels most (Some k) s e = tt

-- no more must stay than there are
excess-le-length : (depths : List ℕ) (k : ℕ) → excess depths k ≤ length depths
excess-le-length depths k = omega (arith, count_by-le-length (λ depth. nat_le depth k) depths)

pub rest-le-length : (depths : List ℕ) (levels : ℕ) → rest depths levels ≤ length depths
unfolding rest
rest-le-length depths zero = excess-le-length depths 0
rest-le-length depths (suc level) = omega (arith, rest-le-length depths level, excess-le-length depths (suc level))
