-- Entries of which no two have one address.
use Rattle.std.proofs.Common.{◌≡◌, ◌≢◌, ℕ, zero, suc, ◌≤◌, Bool, List, [], ◌∷◌, ◌++◌, Option}
use Rattle.std.proofs.Common.{Some, None, count_by, refl, sym, ap, ◌∙◌, subst, inl, inr, arith}
use Rattle.std.proofs.lemmas.Bool.{cases_Bool, eqb-true, eqb-false, eq-eqb, ne_eqb}
use Rattle.asc_base.specs.Has.{Has}
use Rattle.asc_base.specs.declared.block.Address.{Address}
use Rattle.asc_base.specs.declared.block.Entry.{Entry}
use Rattle.asc_base.proofs.Lookups.{count_by-yes, count_by-no, count_by-none, without_first-yes, without_first-no}
use Rattle.asc_base.proofs.Lookups.{without_first-nil}
use Rattle.asc_base.proofs.Lookups.{without_first-has, find-yes, find-no}
use Rattle.asc_base.proofs.Members.{all_has, has_all, has_last}
use Rattle.path_evict.specs.Placed.{where_placed}
use Rattle.path_evict.proofs.Placed.{AllPairs-where_placed, where_placed-has}
use Rattle.oram_stash.specs.Entries.{is_of, held, without, AreApart}
use Rattle.oram_stash.proofs.Held.{held-found, held-none, held-no_one}

-- of the first and each later one, and of the later ones
pub AreApart-head : (entry : Entry) (entries : List Entry) → AreApart (entry ∷ entries) → (x : Entry) → Has x entries
    → entry.address.0 ≢ x.address.0
AreApart-head entry entries apart x h =
    all_has (λ (y : Entry). entry.address.0 ≢ y.address.0) x entries
    (λ k d below. apart 0 (suc k) d (omega arith) (omega arith)) h

pub AreApart-tail : (entry : Entry) (entries : List Entry) → AreApart (entry ∷ entries) → AreApart entries
AreApart-tail entry entries apart = λ i j d less within. apart (suc i) (suc j) d (omega arith) (omega arith)

pub AreApart-cons : (entry : Entry) (entries : List Entry)
    → ((x : Entry) → Has x entries → entry.address.0 ≢ x.address.0) → AreApart entries → AreApart (entry ∷ entries)
AreApart-cons entry entries others apart zero zero d less within = absurd (omega arith)
AreApart-cons entry entries others apart zero (suc j) d less within =
    has_all (λ (y : Entry). entry.address.0 ≢ y.address.0) entries others j d (omega arith)
AreApart-cons entry entries others apart (suc i) zero d less within = absurd (omega arith)
AreApart-cons entry entries others apart (suc i) (suc j) d less within = apart i j d (omega arith) (omega arith)

pub AreApart-nil : AreApart []
AreApart-nil i j d less within = absurd (omega arith)

-- the only entry of its address is the one that is held
pub held-alone : (entries : List Entry) (entry : Entry) → AreApart entries → Has entry entries
    → held entries entry.address ≡ Some entry
unfolding held
held-alone [] entry apart h = absurd h
held-alone (first ∷ entries) entry apart (inl is) =
    find-yes (is_of entry.address) first entries (eq-eqb _ _ (ap (λ (e : Entry). e.address.0) (sym is)))
    ∙ ap (λ (e : Entry). Some e) (sym is)
held-alone (first ∷ entries) entry apart (inr h) =
    find-no (is_of entry.address) first entries (ne_eqb _ _ (AreApart-head first entries apart entry h))
    ∙ held-alone entries entry (AreApart-tail first entries apart) h

-- an address has at most one
pub count_by-apart : (entries : List Entry) (address : Address) → AreApart entries
    → count_by (is_of address) entries ≤ 1
unfolding held
count_by-apart [] address apart = omega arith
count_by-apart (first ∷ entries) address apart =
    elim (cases_Bool (is_of address first)) [
      | inl here ↦
          (let others = held-no_one entries address
          (λ e h same. AreApart-head first entries apart e h (eqb-true _ _ here ∙ sym same)) in
          omega (
            arith,
            count_by-yes (is_of address) first entries here,
            count_by-none (is_of address) entries others,
          ))
      | inr other ↦ omega (
        arith,
        count_by-no (is_of address) first entries other,
        count_by-apart entries address (AreApart-tail first entries apart),
      )
    ]

-- what is left is of other addresses
pub without-left : (entries : List Entry) (address : Address) (entry : Entry) → AreApart entries
    → Has entry (without entries address) → Has entry entries × (entry.address.0 ≢ address.0)
unfolding without
without-left [] address entry apart h = absurd (without_first-has (is_of address) [] entry h)
without-left (first ∷ entries) address entry apart h =
    elim (cases_Bool (is_of address first)) [
      | inl here ↦
          (let left = subst (λ l. Has entry l) (without_first-yes (is_of address) first entries here) h in
          (inr left, λ same. AreApart-head first entries apart entry left (eqb-true _ _ here ∙ sym same)))
      | inr other ↦ elim (subst (λ l. Has entry l) (without_first-no (is_of address) first entries other) h) [
        | inl is ↦ (inl is, λ same. eqb-false _ _ other (ap (λ (e : Entry). e.address.0) (sym is) ∙ same))
        | inr left ↦
            (let later = without-left entries address entry (AreApart-tail first entries apart) left in
            (inr later.0, later.1))
      ]
    ]

pub AreApart-without : (entries : List Entry) (address : Address) → AreApart entries
    → AreApart (without entries address)
unfolding without
AreApart-without [] address apart = subst (λ l. AreApart l) (sym (without_first-nil (is_of address))) apart
AreApart-without (first ∷ entries) address apart =
    elim (cases_Bool (is_of address first)) [
      | inl here ↦ subst (λ l. AreApart l) (sym (without_first-yes (is_of address) first entries here))
          (AreApart-tail first entries apart)
      | inr other ↦ subst (λ l. AreApart l) (sym (without_first-no (is_of address) first entries other))
          (AreApart-cons first (without entries address)
          (λ x h. AreApart-head first entries apart x (without_first-has (is_of address) entries x h))
          (AreApart-without entries address (AreApart-tail first entries apart)))
    ]

-- none of the address is left
pub held-gone : (entries : List Entry) (address : Address) → AreApart entries
    → held (without entries address) address ≡ None
held-gone entries address apart =
    held-no_one (without entries address) address (λ e h. (without-left entries address e apart h).1)

-- one entry more
pub AreApart-append : (entries : List Entry) (last : Entry) → AreApart entries → held entries last.address ≡ None
    → AreApart (entries ++ last ∷ [])
AreApart-append entries last apart none =
    all entries apart (λ e h. held-none entries last.address e none h)
  where
    all : (entries : List Entry) → AreApart entries → ((e : Entry) → Has e entries → e.address.0 ≢ last.address.0)
        → AreApart (entries ++ last ∷ [])
    all [] apart others = AreApart-cons last [] (λ x h. absurd h) AreApart-nil
    all (first ∷ rest) apart others =
        AreApart-cons first (rest ++ last ∷ [])
        (λ x h. elim (has_last x last rest h) [
          | inl before ↦ AreApart-head first rest apart x before
          | inr is ↦ (λ same. others first (inl refl) (same ∙ ap (λ (e : Entry). e.address.0) is))
        ])
        (all rest (AreApart-tail first rest apart) (λ e h. others e (inr h)))

-- entries that are placed somewhere
pub AreApart-where_placed : (test : Option ℕ → Bool) (places : List (Option ℕ)) (entries : List Entry)
    → AreApart entries → AreApart (where_placed test places entries)
AreApart-where_placed test places entries apart =
    AllPairs-where_placed (λ (earlier later : Entry). earlier.address.0 ≢ later.address.0) test places entries apart

pub held-where_none : (test : Option ℕ → Bool) (places : List (Option ℕ)) (entries : List Entry) (address : Address)
    → held entries address ≡ None → held (where_placed test places entries) address ≡ None
held-where_none test places entries address none =
    held-no_one (where_placed test places entries) address
    (λ e h. held-none entries address e none (where_placed-has test places entries e h))

pub held-where_placed : (test : Option ℕ → Bool) (places : List (Option ℕ)) (entries : List Entry) (address : Address)
    (entry : Entry) → AreApart entries → held (where_placed test places entries) address ≡ Some entry
    → held entries address ≡ Some entry
unfolding held
held-where_placed test places entries address entry apart found =
    let there = held-found (where_placed test places entries) address entry found in
    let alone = held-alone entries entry apart (where_placed-has test places entries entry there.1) in
    ap (λ n. held entries (record { 0 = n })) (sym there.0) ∙ alone

-- two entries
pub AreApart-two : (first second : Entry) → first.address.0 ≢ second.address.0 → AreApart (first ∷ second ∷ [])
AreApart-two first second other =
    AreApart-cons first (second ∷ [])
    (λ x h. elim h [
      | inl is ↦ (λ same. other (same ∙ ap (λ (e : Entry). e.address.0) is))
      | inr none ↦ absurd none
    ])
    (AreApart-cons second [] (λ x h. absurd h) AreApart-nil)

pub held-two : (first second : Entry) → first.address.0 ≢ second.address.0
    → (held (first ∷ second ∷ []) first.address ≡ Some first)
    × (held (first ∷ second ∷ []) second.address ≡ Some second)
held-two first second other = (
  held-alone (first ∷ second ∷ []) first (AreApart-two first second other) (inl refl),
  held-alone (first ∷ second ∷ []) second (AreApart-two first second other) (inr (inl refl)),
)

pub without-two : (first second : Entry) → first.address.0 ≢ second.address.0
    → (without (first ∷ second ∷ []) first.address ≡ second ∷ [])
    × (without (first ∷ second ∷ []) second.address ≡ first ∷ [])
unfolding without
without-two first second other = (
  without_first-yes (is_of first.address) first (second ∷ []) (eq-eqb _ _ refl),
  without_first-no (is_of second.address) first (second ∷ []) (ne_eqb _ _ other)
      ∙ ap (λ rest. first ∷ rest) (without_first-yes (is_of second.address) second [] (eq-eqb _ _ refl)),
)
