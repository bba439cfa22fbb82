-- What is held under an address, and what is left without it.
use Rattle.std.proofs.Common.{◌≡◌, ◌≢◌, ℕ, ◌+◌, Bool, true, false, List, [], ◌∷◌, ◌++◌, Option, Some, None}
use Rattle.std.proofs.Common.{length, take, drop, get_or, position, is_some, count_by, if◌then◌else◌}
use Rattle.std.proofs.Common.{refl, sym, ◌∙◌, inl, inr, arith}
use Rattle.std.proofs.lemmas.Bool.{eqb-true, eqb-false, ne_eqb}
use Rattle.asc_base.specs.Has.{Has}
use Rattle.asc_base.specs.declared.block.Address.{Address}
use Rattle.asc_base.specs.declared.block.Entry.{Entry}
use Rattle.asc_base.proofs.Lookups.{find-place, without_first-place, find-absent, is_some-find, without_first-none}
use Rattle.asc_base.proofs.Lookups.{find-holds, find-has, find-none_has, find-append, find-without_other}
use Rattle.asc_base.proofs.Lookups.{length-without_first, count_by-without_first, count_by-cons}
use Rattle.asc_base.proofs.Lookups.{none_is_not}
use Rattle.oram_stash.specs.Entries.{is_of, held, without}

-- by its place
pub held-place : (address : Address) (entries : List Entry) (i : ℕ) (d : Entry)
    → position (is_of address) entries ≡ Some i → held entries address ≡ Some (get_or entries i d)
unfolding held
held-place address entries i d at = find-place (is_of address) entries i d at

pub without-place : (address : Address) (entries : List Entry) (i : ℕ) → position (is_of address) entries ≡ Some i
    → without entries address ≡ take i entries ++ drop (i + 1) entries
unfolding without
without-place address [] i at = absurd (none_is_not at)
without-place address (entry ∷ entries) i at =
    without_first-place (is_of address) (entry ∷ entries) i entry at

pub held-absent : (address : Address) (entries : List Entry) → position (is_of address) entries ≡ None
    → held entries address ≡ None
unfolding held
held-absent address entries absent = find-absent (is_of address) entries absent

-- one is held exactly where it has a place
pub is_some-held : (address : Address) (entries : List Entry) (place : Option ℕ)
    → place ≡ position (is_of address) entries → is_some (held entries address) ≡ is_some place
unfolding held
is_some-held address entries place at = is_some-find (is_of address) entries place at

pub held-no_place : (address : Address) (entries : List Entry) (place : Option ℕ)
    → place ≡ position (is_of address) entries → is_some place ≡ false → held entries address ≡ None
held-no_place address entries None at none = held-absent address entries (sym at)
held-no_place address entries (Some i) at none = absurd (let bad : true ≡ false = none in cc)

-- what is held has the address, and is among the entries
pub held-found : (entries : List Entry) (address : Address) (entry : Entry) → held entries address ≡ Some entry
    → (entry.address.0 ≡ address.0) × Has entry entries
unfolding held
held-found entries address entry found =
    (eqb-true _ _ (find-holds (is_of address) entries entry found), find-has (is_of address) entries entry found)

-- where none is held no entry has the address
pub held-none : (entries : List Entry) (address : Address) (entry : Entry) → held entries address ≡ None
    → Has entry entries → entry.address.0 ≢ address.0
unfolding held
held-none entries address entry none h = eqb-false _ _ (find-none_has (is_of address) entries entry none h)

-- the other way round: none is held where no entry has the address
pub held-no_one : (entries : List Entry) (address : Address)
    → ((entry : Entry) → Has entry entries → entry.address.0 ≢ address.0) → held entries address ≡ None
unfolding held
held-no_one [] address others = refl
held-no_one (entry ∷ entries) address others =
    let other : is_of address entry ≡ false = ne_eqb _ _ (others entry (inl refl)) in
    rw other (held-no_one entries address (λ e h. others e (inr h)))

pub without-none : (entries : List Entry) (address : Address) → held entries address ≡ None
    → without entries address ≡ entries
unfolding held without
without-none entries address none = without_first-none (is_of address) entries none

pub length-without : (entries : List Entry) (address : Address) (entry : Entry) → held entries address ≡ Some entry
    → length (without entries address) + 1 ≡ length entries
unfolding held without
length-without entries address entry found = length-without_first (is_of address) entries entry found

pub count_by-without : (p : Entry → Bool) (entries : List Entry) (address : Address) (entry : Entry)
    → held entries address ≡ Some entry
    → count_by p (without entries address) + (if p entry then 1 else 0) ≡ count_by p entries
unfolding held without
count_by-without p entries address entry found = count_by-without_first p (is_of address) entries entry found

-- what is held under another address stays
pub held-without_other : (entries : List Entry) (address other : Address) → address.0 ≢ other.0
    → held (without entries address) other ≡ held entries other
unfolding held without
held-without_other entries address other apart =
    find-without_other (is_of address) (is_of other) entries
    (λ entry is. ne_eqb _ _ (λ same. apart (sym (eqb-true _ _ is) ∙ same)))

-- an entry that comes last is found where no earlier one has its address
pub held-append : (entries : List Entry) (last : Entry) (address : Address) → held (entries ++ last ∷ []) address
    ≡ (if is_some (held entries address) then held entries address else held (last ∷ []) address)
unfolding held
held-append entries last address = find-append (is_of address) entries (last ∷ [])

pub count_by-append : (p : Entry → Bool) (entries : List Entry) (last : Entry)
    → count_by p (entries ++ last ∷ []) ≡ count_by p entries + (if p last then 1 else 0)
count_by-append p [] last = omega (arith, count_by-cons p last [])
count_by-append p (entry ∷ entries) last =
    omega (
      arith,
      count_by-append p entries last,
      count_by-cons p entry entries,
      count_by-cons p entry (entries ++ last ∷ []),
    )
