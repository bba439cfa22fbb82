-- How many items of a list pass a test.
use Rattle.std.proofs.Common.{◌≡◌, ℕ, zero, suc, ◌+◌, ◌<◌, ◌≤◌, Bool, true, false, ◌&&◌, List, [], ◌∷◌, length}
use Rattle.std.proofs.Common.{get_or, refl, ap, arith}
use Rattle.std.specs.Prelude.{nat_lt, nat_le, filter}
use Rattle.bus_watch.specs.declared.log.Move.{Move}

-- of a list whose items pass a test up to a place, and fail it from there on, so many pass
pub all_pass : {X : Type 0} (p : X → Bool) (xs : List X) (k : ℕ) → k ≤ length xs
    → ((i : ℕ) (d : X) → i < k → p (get_or xs i d) ≡ true)
    → ((i : ℕ) (d : X) → k ≤ i → i < length xs → p (get_or xs i d) ≡ false)
    → length (filter p xs) ≡ k
all_pass p [] zero le low high = refl
all_pass p [] (suc k) le low high = omega (arith, le)
all_pass p (x ∷ xs) zero le low high =
    let e : p x ≡ false = high 0 x (omega arith) (omega arith) in
    let none : (i : ℕ) → i < 0 → ⊥ = λ i lt. omega (arith, lt) in
    rw e (all_pass p xs 0 (omega arith) (λ i d lt. absurd (none i lt)) (λ i d from lt. high (suc i) d
    (omega arith) (omega arith)))
all_pass p (x ∷ xs) (suc k) le low high =
    let e : p x ≡ true = low 0 x (omega arith) in
    rw e (ap suc (all_pass p xs k (omega arith) (λ i d lt. low (suc i) d (omega arith)) (λ i d from lt. high
    (suc i) d (omega arith) (omega arith))))

-- the moves of a slot, and those before it, are those before its end
pub moves_split : (start cycles : ℕ) (moves : List Move)
    → length (filter (λ (m : Move). nat_le start m.time && nat_lt m.time (start + cycles)) moves)
    + length (filter (λ (m : Move). nat_lt m.time start) moves)
    ≡ length (filter (λ (m : Move). nat_lt m.time (start + cycles)) moves)
moves_split start cycles [] = refl
moves_split start cycles (m ∷ moves) = let more = moves_split start cycles moves in grind (arith, more)
