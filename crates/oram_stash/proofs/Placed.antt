-- Entries beside their places.
use Rattle.std.proofs.Common.{◌≡◌, ◌≢◌, ℕ, zero, suc, Bool, true, false, List, [], ◌∷◌, slice_get}
use Rattle.std.proofs.Common.{Option, Some, None, refl, sym, ap, ◌∙◌, subst, inl, inr}
use Rattle.std.proofs.lemmas.Bool.{cases_Bool}
use Rattle.asc_base.specs.Has.{Has}
use Rattle.asc_base.specs.declared.block.Entry.{Entry}
use Rattle.asc_base.proofs.Lookups.{some_is, none_is_not}
use Rattle.path_evict.specs.Placed.{where_placed}
use Rattle.path_evict.proofs.Placed.{where_placed-yes, where_placed-no, where_placed-has}
use Rattle.oram_stash.specs.Entries.{held, AreApart, IsPlacedAmong}
use Rattle.oram_stash.proofs.Apart.{AreApart-head, AreApart-tail, AreApart-where_placed, held-alone}
use Rattle.oram_stash.proofs.Held.{held-no_one}

-- what stands at a place of a list stands in it
at_has : (entries : List Entry) (at : ℕ) (entry : Entry) → slice_get entries at ≡ Some entry → Has entry entries
at_has [] at entry is = absurd (none_is_not is)
at_has (first ∷ entries) zero entry is = inl (sym (some_is is))
at_has (first ∷ entries) (suc at) entry is = inr (at_has entries at entry is)

-- each one that is placed stands beside a place that meets the test
pub placed-among : (test : Option ℕ → Bool) (places : List (Option ℕ)) (entries : List Entry) (entry : Entry)
    → Has entry (where_placed test places entries) → IsPlacedAmong test places entries entry
placed-among test [] entries entry h = absurd h
placed-among test (place ∷ places) [] entry h = absurd h
placed-among test (place ∷ places) (first ∷ entries) entry h =
    elim (cases_Bool (test place)) [
      | inl is ↦ elim (subst (Has entry) (where_placed-yes test place places first entries is) h) [
        | inl same ↦ record {
          at = 0;
          place = place;
          stands = ap (λ (e : Entry). Some e) (sym same);
          beside = refl;
          meets = is;
        }
        | inr later ↦ next (placed-among test places entries entry later)
      ]
      | inr other ↦ next (placed-among test places entries entry
          (subst (Has entry) (where_placed-no test place places first entries other) h))
    ]
  where
    next : IsPlacedAmong test places entries entry → IsPlacedAmong test (place ∷ places) (first ∷ entries) entry
    next among = record {
      at = suc among.at;
      place = among.place;
      stands = among.stands;
      beside = among.beside;
      meets = among.meets;
    }

-- and each one beside such a place is placed
placed-has : (test : Option ℕ → Bool) (places : List (Option ℕ)) (entries : List Entry) (at : ℕ) (place : Option ℕ)
    (entry : Entry) → slice_get places at ≡ Some place → slice_get entries at ≡ Some entry → test place ≡ true
    → Has entry (where_placed test places entries)
placed-has test [] entries at place entry beside stands meets = absurd (none_is_not beside)
placed-has test (p ∷ places) [] at place entry beside stands meets = absurd (none_is_not stands)
placed-has test (p ∷ places) (first ∷ entries) zero place entry beside stands meets =
    subst (Has entry) (sym (where_placed-yes test p places first entries (ap test (some_is beside) ∙ meets)))
    (inl (sym (some_is stands)))
placed-has test (p ∷ places) (first ∷ entries) (suc at) place entry beside stands meets =
    let later = placed-has test places entries at place entry beside stands meets in
    elim (cases_Bool (test p)) [
      | inl is ↦ subst (Has entry) (sym (where_placed-yes test p places first entries is)) (inr later)
      | inr other ↦ subst (Has entry) (sym (where_placed-no test p places first entries other)) later
    ]

pub placed-found : (test : Option ℕ → Bool) (places : List (Option ℕ)) (entries : List Entry) (at : ℕ)
    (place : Option ℕ) (entry : Entry) → AreApart entries → slice_get places at ≡ Some place
    → slice_get entries at ≡ Some entry → test place ≡ true
    → held (where_placed test places entries) entry.address ≡ Some entry
placed-found test places entries at place entry apart beside stands meets =
    held-alone (where_placed test places entries) entry (AreApart-where_placed test places entries apart)
    (placed-has test places entries at place entry beside stands meets)

-- one beside another place isn't, since no other has its address
others_apart : (test : Option ℕ → Bool) (places : List (Option ℕ)) (entries : List Entry) (at : ℕ) (place : Option ℕ)
    (entry x : Entry) → AreApart entries → slice_get places at ≡ Some place → slice_get entries at ≡ Some entry
    → test place ≡ false → Has x (where_placed test places entries) → x.address.0 ≢ entry.address.0
others_apart test [] entries at place entry x apart beside stands fails h = absurd h
others_apart test (p ∷ places) [] at place entry x apart beside stands fails h = absurd h
others_apart test (p ∷ places) (first ∷ entries) zero place entry x apart beside stands fails h =
    let later = subst (Has x) (where_placed-no test p places first entries (ap test (some_is beside) ∙ fails)) h in
    λ same. AreApart-head first entries apart x (where_placed-has test places entries x later)
    (ap (λ (e : Entry). e.address.0) (some_is stands) ∙ sym same)
others_apart test (p ∷ places) (first ∷ entries) (suc at) place entry x apart beside stands fails h =
    let among = others_apart test places entries at place entry x (AreApart-tail first entries apart) beside stands
    fails in
    elim (cases_Bool (test p)) [
      | inl is ↦ elim (subst (Has x) (where_placed-yes test p places first entries is) h) [
        | inl same ↦ (λ alike. AreApart-head first entries apart entry (at_has entries at entry stands)
            (ap (λ (e : Entry). e.address.0) (sym same) ∙ alike))
        | inr later ↦ among later
      ]
      | inr other ↦ among (subst (Has x) (where_placed-no test p places first entries other) h)
    ]

pub placed-absent : (test : Option ℕ → Bool) (places : List (Option ℕ)) (entries : List Entry) (at : ℕ)
    (place : Option ℕ) (entry : Entry) → AreApart entries → slice_get places at ≡ Some place
    → slice_get entries at ≡ Some entry → test place ≡ false
    → held (where_placed test places entries) entry.address ≡ None
placed-absent test places entries at place entry apart beside stands fails =
    held-no_one (where_placed test places entries) entry.address
    (λ x h. others_apart test places entries at place entry x apart beside stands fails h)
