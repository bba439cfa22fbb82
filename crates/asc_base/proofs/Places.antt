-- Lists of five numbers, one for each layer.
use Rattle.std.specs.Prelude.{nat_lt}
use Rattle.std.proofs.Common.{◌≡◌, ℕ, zero, suc, ◌+◌, ◌<◌, [], ◌∷◌, length, get_or, set, refl, arith, true}
use Rattle.std.proofs.lemmas.Bool.{le-leb}
use Rattle.asc_base.specs.Shape.{places_of}

pub length-places : (value : ℕ → ℕ) (layers : ℕ) → length (places_of value layers) ≡ 5
unfolding places_of
length-places value layers = refl

-- the numbers of the layers
pub get_or-places : (value : ℕ → ℕ) (layers layer : ℕ) → layer < layers → layer < 5
    → get_or (places_of value layers) layer 0 ≡ value layer
unfolding places_of
get_or-places value layers zero below within = (let there : nat_lt 0 layers ≡ true = le-leb _ _ below in rw there)
get_or-places value layers (suc zero) below within = (let there : nat_lt 1 layers ≡ true = le-leb _ _ below in rw there)
get_or-places value layers (suc (suc zero)) below within = (let there : nat_lt 2 layers ≡ true = le-leb _ _ below in
    rw there)
get_or-places value layers (suc (suc (suc zero))) below within =
    (let there : nat_lt 3 layers ≡ true = le-leb _ _ below in rw there)
get_or-places value layers (suc (suc (suc (suc zero)))) below within =
    (let there : nat_lt 4 layers ≡ true = le-leb _ _ below in rw there)
get_or-places value layers (suc (suc (suc (suc (suc layer))))) below within = absurd (omega arith)

-- the numbers of no layer are zeros, and that of one more layer takes its place
pub places-zero : (value : ℕ → ℕ) → places_of value 0 ≡ 0 ∷ 0 ∷ 0 ∷ 0 ∷ 0 ∷ []
unfolding places_of
places-zero value = refl

pub set-places : (value : ℕ → ℕ) (layers : ℕ) → layers < 5
    → set (places_of value layers) layers (value layers) ≡ places_of value (layers + 1)
unfolding places_of
set-places value zero within = refl
set-places value (suc zero) within = refl
set-places value (suc (suc zero)) within = refl
set-places value (suc (suc (suc zero))) within = refl
set-places value (suc (suc (suc (suc zero)))) within = refl
set-places value (suc (suc (suc (suc (suc layers))))) within = absurd (omega arith)
