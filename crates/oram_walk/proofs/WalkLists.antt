-- The blocks that the plans leave are those that are held after the walk.
use Rattle.std.proofs.Common.{◌≡◌, ℕ, zero, suc, Bool, true, false, cond, not, nat_eq, List, [], ◌∷◌, ◌++◌, take}
use Rattle.std.proofs.Common.{reverse}
use Rattle.std.proofs.Common.{Option, Some, None, option_map, refl, sym, ap, ◌∙◌}
use Rattle.std.specs.Prelude.{if◌then◌else◌, ◌||◌}
use Rattle.std.specs.List.{find}
use Rattle.std.specs.Option.{option_map_or}
use Rattle.std.proofs.lemmas.List.{reverse-append}
use Rattle.std.proofs.lemmas.List.Sums.{take_while-cons}
use Rattle.asc_base.specs.TreeShape.{parent_of}
use Rattle.asc_base.specs.declared.shape.Shape.{Shape}
use Rattle.asc_base.specs.declared.block.Address.{Address}
use Rattle.asc_base.proofs.Lookups.{find-yes, find-no, promoted_first-none}
use Rattle.posmap_counters.specs.Counters.{is_among}
use Rattle.posmap_lookaside.specs.Addresses.{used}
use Rattle.posmap_lookaside.specs.Walk.{WalkSizes, ancestors, missing, looked_up, held_below}
use Rattle.oram_walk.proofs.Held.{walk_held}

-- an address that isn't there isn't found, and not used
find-absent_in : (list : List ℕ) (a : ℕ) → is_among list a ≡ false → find (λ b. nat_eq b a) list ≡ None
find-absent_in [] a h = refl
find-absent_in (x ∷ list) a h = by (nat_eq x a) refl h (find-absent_in list a)
  where
    by : (b : Bool) → nat_eq x a ≡ b → (b || is_among list a) ≡ false
        → (is_among list a ≡ false → find (λ c. nat_eq c a) list ≡ None) → find (λ c. nat_eq c a) (x ∷ list) ≡ None
    by true is e again = absurd (cc)
    by false is e again = find-no (λ c. nat_eq c a) x list is ∙ again e

pub absent_used : (held : List ℕ) (a : ℕ) → is_among held a ≡ false → used held a ≡ held
absent_used held a absent = promoted_first-none (λ b. nat_eq b a) held (find-absent_in held a absent)

-- the last refill puts its block in front of what those before it left
below-last : (plb : ℕ) (held below : List ℕ) (a : ℕ)
    → held_below plb held (below ++ a ∷ []) ≡ take plb (a ∷ held_below plb held below)
below-last plb held [] a = refl
below-last plb held (b ∷ below) a = below-last plb (take plb (b ∷ held)) below a

-- what is held after these ancestors are looked up and refilled
abbrev climbed : ℕ → List ℕ → List ℕ → List ℕ
climbed plb held above = held_below plb (looked_up held above) (reverse (missing held above))

-- the first of them is held, or isn't
climbed-first : (plb : ℕ) (held : List ℕ) (p : ℕ) (rest : List ℕ) (is : Bool) → is_among held p ≡ is
    → climbed plb held (p ∷ rest) ≡ (if is then used held p else take plb (p ∷ climbed plb held rest))
climbed-first plb held p rest true there =
    let none : missing held (p ∷ rest) ≡ [] =
    take_while-cons (λ a. not (is_among held a)) p rest
    ∙ ap (λ b. cond (not b) (p ∷ missing held rest) []) there in
    ap (λ list. held_below plb (looked_up held (p ∷ rest)) (reverse list)) none
    ∙ ap (λ (found : Option ℕ). option_map_or (used held) found held) (find-yes (is_among held) p rest there)
climbed-first plb held p rest false absent =
    let more : missing held (p ∷ rest) ≡ p ∷ missing held rest =
    take_while-cons (λ a. not (is_among held a)) p rest
    ∙ ap (λ b. cond (not b) (p ∷ missing held rest) []) absent in
    let same : looked_up held (p ∷ rest) ≡ looked_up held rest =
    ap (λ (found : Option ℕ). option_map_or (used held) found held) (find-no (is_among held) p rest absent) in
    ap (λ list. held_below plb (looked_up held (p ∷ rest)) (reverse list)) more
    ∙ ap (held_below plb (looked_up held (p ∷ rest))) (reverse-append (p ∷ []) (missing held rest))
    ∙ below-last plb (looked_up held (p ∷ rest)) (reverse (missing held rest)) p
    ∙ ap (λ start. take plb (p ∷ held_below plb start (reverse (missing held rest)))) same

module _ (shape : Shape) (sizes : WalkSizes) (lines : sizes.lines ≡ shape.lines) (layers : sizes.layers ≡ shape.layers)
  where
    -- the walk, layer by layer, climbs the ancestors
    pub walk_climbs : (plb above : ℕ) (held : List ℕ) (a : ℕ)
        → walk_held shape plb above held (record { 0 = a }) ≡ climbed plb held (ancestors sizes above a)
    unfolding ancestors
    walk_climbs plb zero held a = refl
    walk_climbs plb (suc above) held a =
        by (parent_of shape.lines shape.layers a) (λ p. walk_climbs plb above held p)
        ∙ ap (λ (o : Option ℕ). climbed plb held (option_map_or (λ p. p ∷ ancestors sizes above p) o []))
        (ap (λ n. parent_of n shape.layers a) (sym lines) ∙ ap (λ n. parent_of sizes.lines n a) (sym layers))
      where
        by_test : (p : ℕ) (is : Bool) → is_among held p ≡ is
            → walk_held shape plb above held (record { 0 = p }) ≡ climbed plb held (ancestors sizes above p)
            → (if is then used held p
            else take plb (p ∷ walk_held shape plb above (used held p) (record { 0 = p })))
            ≡ climbed plb held (p ∷ ancestors sizes above p)
        by_test p true there again = sym (climbed-first plb held p (ancestors sizes above p) true there)
        by_test p false absent again =
            ap (λ list. take plb (p ∷ walk_held shape plb above list (record { 0 = p }))) (absent_used held p absent)
            ∙ ap (λ list. take plb (p ∷ list)) again
            ∙ sym (climbed-first plb held p (ancestors sizes above p) false absent)

        by : (o : Option ℕ)
            → ((p : ℕ) → walk_held shape plb above held (record { 0 = p }) ≡ climbed plb held (ancestors sizes above p))
            → option_map_or (λ (parent : Address).
            if is_among held parent.0 then used held parent.0
            else take plb (parent.0 ∷ walk_held shape plb above (used held parent.0) parent))
            (option_map (λ n. let x : Address = record { 0 = n } in x) o) held
            ≡ climbed plb held (option_map_or (λ p. p ∷ ancestors sizes above p) o [])
        by None again = refl
        by (Some p) again = by_test p (is_among held p) refl (again p)
