-- How what stands in a list is found again.
use Rattle.std.proofs.Common.{◌≡◌, ◌<◌, ◌⊎◌, ℕ, zero, suc, List, [], ◌∷◌, ◌++◌, length, map, flat_map, get_or, All}
use Rattle.std.proofs.Common.{refl, sym, subst, inl, inr, arith}
use Rattle.asc_base.specs.Has.{Has}

pub has_left : {A : Type 0} (x : A) (xs ys : List A) → Has x xs → Has x (xs ++ ys)
has_left x [] ys h = absurd h
has_left x (y ∷ xs) ys (inl e) = inl e
has_left x (y ∷ xs) ys (inr h) = inr (has_left x xs ys h)

pub has_right : {A : Type 0} (x : A) (xs ys : List A) → Has x ys → Has x (xs ++ ys)
has_right x [] ys h = h
has_right x (y ∷ xs) ys h = inr (has_right x xs ys h)

pub has_split : {A : Type 0} (x : A) (xs ys : List A) → Has x (xs ++ ys) → Has x xs ⊎ Has x ys
has_split x [] ys h = inr h
has_split x (y ∷ xs) ys (inl e) = inl (inl e)
has_split x (y ∷ xs) ys (inr h) = elim (has_split x xs ys h) [ inl l ↦ inl (inr l) | inr r ↦ inr r ]

-- the last item is it, or it stood there before
pub has_last : {A : Type 0} (x y : A) (xs : List A) → Has x (xs ++ y ∷ []) → Has x xs ⊎ (x ≡ y)
has_last x y xs h =
    elim (has_split x xs (y ∷ []) h) [ inl l ↦ inl l | inr r ↦ elim r [ inl e ↦ inr e | inr n ↦ absurd n ] ]

pub has_new : {A : Type 0} (x : A) (xs : List A) → Has x (xs ++ x ∷ [])
has_new x xs = has_right x xs (x ∷ []) (inl refl)

-- what holds of all holds of each, and the other way round
pub all_has : {A : Type 0} (P : A → Type 0) (x : A) (xs : List A) → All P xs → Has x xs → P x
all_has P x [] all h = absurd h
all_has P x (y ∷ xs) all (inl e) = subst P (sym e) (all 0 y (omega arith))
all_has P x (y ∷ xs) all (inr h) = all_has P x xs (λ k d less. all (suc k) d (omega arith)) h

pub has_at : {A : Type 0} (xs : List A) (k : ℕ) (d : A) → k < length xs → Has (get_or xs k d) xs
has_at [] k d below = absurd (omega arith)
has_at (x ∷ xs) zero d below = inl refl
has_at (x ∷ xs) (suc k) d below = inr (has_at xs k d (omega arith))

pub has_all : {A : Type 0} (P : A → Type 0) (xs : List A) → ((x : A) → Has x xs → P x) → All P xs
has_all P xs each k d below = each (get_or xs k d) (has_at xs k d below)

-- what stands in a list that is made of another
pub has_map : {A B : Type 0} (f : A → B) (y : B) (xs : List A) → Has y (map f xs)
    → (x : A) × Has x xs × (y ≡ f x)
has_map f y [] h = absurd h
has_map f y (x ∷ xs) (inl e) = (x, inl refl, e)
has_map f y (x ∷ xs) (inr h) = let rest = has_map f y xs h in (rest.0, inr rest.1, rest.2)

pub has_flat_map : {A B : Type 0} (f : A → List B) (y : B) (xs : List A) → Has y (flat_map f xs)
    → (x : A) × Has x xs × Has y (f x)
has_flat_map f y [] h = absurd h
has_flat_map f y (x ∷ xs) h =
    elim (has_split y (f x) (flat_map f xs) h) [
      | inl l ↦ (x, inl refl, l)
      | inr r ↦ let rest = has_flat_map f y xs r in (rest.0, inr rest.1, rest.2)
    ]
