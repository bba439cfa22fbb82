-- Home is kept where blocks are taken, put, held and renumbered.
use Rattle.std.proofs.Common.{◌≡◌, ◌≤◌, ◌+◌, ◌⊎◌, inl, inr, ℕ, zero, suc, Bool, true, false, if◌then◌else◌}
use Rattle.std.proofs.Common.{◌==◌, List, [], ◌∷◌, length, take, slice_get, count_by, Option, None, Some, refl}
use Rattle.std.proofs.Common.{sym, ◌∙◌, ap, subst, arith}
use Rattle.std.specs.Prelude.{bytes_eq}
use Rattle.std.proofs.lemmas.Bool.{cases_eq}
use Rattle.std.proofs.lemmas.Bool.Decides.{eqb_tells}
use Rattle.asc_base.specs.declared.block.Address.{Address}
use Rattle.asc_base.specs.declared.block.Counter.{Counter}
use Rattle.asc_base.specs.declared.block.Entry.{Entry}
use Rattle.asc_base.specs.declared.stop.Evidence.TheVariants.{Unexpected, BadTag}
use Rattle.bus_watch.specs.Log.{LogLists}
use Rattle.oram_stash.specs.Entries.{held, without}
use Rattle.asc_base.proofs.Lookups.{count_by-yes, count_by-no}
use Rattle.pmmac_tags.specs.Tag.{tag}
use Rattle.posmap_counters.specs.Counters.{IsBefore, first_counter}
use Rattle.oram_contents.specs.Contents.{Contents, IsReadTo}
use Rattle.oram_contents.specs.Entries.{Keys, AreKeys, real, message_of, entry_of}
use Rattle.oram_contents.specs.Counts.{Ghost, put_at}
use Rattle.oram_contents.specs.Fold.{with_entry}
use Rattle.oram_contents.specs.Home.{is_copy, copies, tree_copies, flying, Home}
use Rattle.oram_contents.specs.Provenance.{Always}
use Rattle.oram_contents.specs.Slots.{HasSeeds, IsAccess, done}
use Rattle.oram_contents.specs.Steps.{opened_at, taken, raised, landed, inserted, stored}
use Rattle.oram_contents.specs.Verdict.{is_first, judged}
use Rattle.oram_stash.proofs.Held.{held-found, without-none, count_by-without}
use Rattle.oram_contents.proofs.Lines.{put_same, put_other}
use Rattle.oram_contents.proofs.Found.{nothing_wrong}
use Rattle.oram_contents.proofs.HomeLaws.{copies_cons, copies_append, home_read, home_write}

-- a later counter isn't the first
later_not_first : (x c : Counter) → IsBefore x c → is_first c ≡ false
later_not_first x c up = by_own up
  where
    by_own : IsBefore x c → is_first c ≡ false
    by_own (inl more) = elim (eqb_tells c.group 0) [
      | inl none ↦ absurd
          (omega (arith, none.1))
      | inr some ↦ rw some.0 refl
    ]
    by_own (inr more) = elim (eqb_tells c.group 0) [
      | inl none ↦ elim (eqb_tells c.own 0) [
        | inl own ↦ absurd (omega (arith, own.1, more.1))
        | inr some ↦ rw
            (none.0, some.0) refl
      ]
      | inr some ↦ rw some.0 refl
    ]

found_not_first : (keys : Keys) (a : ℕ) (c : Counter) (e : Entry) → judged keys a c (Some e) ≡ None → is_first c ≡ false
found_not_first keys a c e is = by_test (is_first c) refl is
  where
    by_test : (b : Bool) → is_first c ≡ b
        → (if b then Some (Unexpected (record { 0 = a })) else
        (if bytes_eq e.tag (tag keys.tags (message_of a c e.line.0)) then None else Some
        (BadTag (message_of a c e.line.0) e.tag (tag keys.tags (message_of a c e.line.0))))) ≡ None
        → is_first c ≡ false
    by_test true at bad = let wrong : Some (Unexpected (record { 0 = a })) ≡ None = bad in cc
    by_test false at ok = at

abbrev one_of : ℕ → ℕ → ℕ
one_of a b = (if a == b then 1 else 0)

abbrev of_first : Bool → ℕ
of_first t = (if t then 0 else 1)

-- the places that a block under a counter has
abbrev seat : Counter → ℕ
seat c = of_first (is_first c)

one_same : (a b : ℕ) → b ≡ a → one_of a b ≡ 1
one_same a b is = elim (eqb_tells a b) [ inl same ↦ rw same.0 refl | inr other ↦ absurd (other.1 (sym is)) ]

one_other : (a b : ℕ) → (b ≡ a → ⊥) → one_of a b ≡ 0
one_other a b no_is = elim (eqb_tells a b) [ inl same ↦ absurd (no_is (sym same.1)) | inr other ↦ rw other.0 refl ]

-- what is taken out of a hand
taken_copies : (hand : List Entry) (address : Address) (b : ℕ)
    → copies b (without hand address)
    + (elim (held hand address) as (λ o. ℕ) [ None ↦ 0 | Some e ↦ one_of address.0 b ]) ≡ copies b hand
taken_copies hand address b = by_found (held hand address) refl
  where
    by_found : (found : Option Entry) → held hand address ≡ found
        → copies b (without hand address) + (elim found as (λ o. ℕ) [ None ↦ 0 | Some e ↦ one_of address.0 b ])
        ≡ copies b hand
    by_found None is = ap (λ l. copies b l + 0) (without-none hand address is) ∙ omega arith
    by_found (Some e) is =
        let one : one_of address.0 b ≡ one_of e.address.0 b =
        ap (λ n. one_of n b) (sym (held-found hand address e is).0) in
        ap (λ n. copies b (without hand address) + n) one ∙ count_by-without (is_copy b) hand address e is

module _ (keys : Keys) where
  -- a block is taken
  pub home_take : (g : Ghost) (now : Contents) (a : ℕ) (c : Counter) (found : Option Entry) → g.flight ≡ None
      → IsBefore (g.count a) c
      → held now.hand (record { 0 = a }) ≡ found → judged keys a (g.count a) found ≡ None → Home keys g now
      → Home keys (taken g a c) (record now { hand = without now.hand (record { 0 = a }) })
  home_take g now a c found grounded up found_is right home b inside = by_block (cases_eq b a)
    where
      old : copies b now.hand + (tree_copies keys g.path now.mirror b +
          (count_by (λ x. x == b) g.held + flying b None)) ≡ seat (g.count b)
      old = subst (λ f. copies b now.hand + (tree_copies keys g.path now.mirror b +
          (count_by (λ x. x == b) g.held + flying b f)) ≡ seat (g.count b)) grounded (home b inside)

      out : (o : Option Entry) → held now.hand (record { 0 = a }) ≡ o
          → copies b (without now.hand (record { 0 = a })) +
          (elim o as (λ p. ℕ) [ None ↦ 0 | Some e ↦ one_of a b ]) ≡ copies b now.hand
      out o is = ap (λ o. copies b (without now.hand (record { 0 = a })) +
          (elim o as (λ p. ℕ) [ None ↦ 0 | Some e ↦ one_of a b ])) (sym is) ∙ taken_copies now.hand (record { 0 = a }) b

      by_found : (o : Option Entry) → b ≡ a → held now.hand (record { 0 = a }) ≡ o → judged keys a (g.count a) o ≡ None
          → copies b (without now.hand (record { 0 = a })) +
          (tree_copies keys g.path now.mirror b + (count_by (λ x. x == b) g.held + one_of a b)) ≡ 1
      by_found None is found_is right =
          let none : seat (g.count b) ≡ 0 = ap (λ x. seat (g.count x)) is
          ∙ ap (λ x. seat x) (nothing_wrong keys a (g.count a) right) in
          let left = out None found_is in
          let one = one_same a b is in
          omega (arith, old)
      by_found (Some e) is found_is right =
          let some : seat (g.count b) ≡ 1 = ap (λ x. seat (g.count x)) is
          ∙ ap (λ t. of_first t) (found_not_first keys a (g.count a) e right) in
          let left = out (Some e) found_is in
          let one = one_same a b is in
          omega (arith, old)

      by_other : (o : Option Entry) → (b ≡ a → ⊥) → held now.hand (record { 0 = a }) ≡ o
          → copies b (without now.hand (record { 0 = a })) ≡ copies b now.hand
      by_other None other is = let left = out None is in omega arith
      by_other (Some e) other is = let left = out (Some e) is in let none = one_other a b other in omega arith

      by_block : (b ≡ a) ⊎ (b ≡ a → ⊥)
          → copies b (without now.hand (record { 0 = a })) +
          (tree_copies keys g.path now.mirror b + (count_by (λ x. x == b) g.held + one_of a b)) ≡ seat
          (put_at g.count a c b)
      by_block (inl is) =
          by_found found is found_is right
          ∙ sym (ap (λ x. seat x) (ap (put_at g.count a c) is ∙ put_same g.count a c)
          ∙ ap (λ t. of_first t) (later_not_first (g.count a) c up))
      by_block (inr other) =
          let same = by_other found other found_is in
          let none = one_other a b other in
          let counted : seat (put_at g.count a c b) ≡ seat (g.count b) = ap (λ x. seat x)
          (put_other g.count a c b other) in
          omega (arith, old)

  -- the block in flight is put at hand
  pub home_put : (g : Ghost) (now : Contents) (a : ℕ) (e : Entry) → e.address.0 ≡ a → g.flight ≡ Some a
      → Home keys g now → Home keys (landed g) (with_entry now e)
  home_put g now a e is flying_it home b inside =
      let old : copies b now.hand + (tree_copies keys g.path now.mirror b +
      (count_by (λ x. x == b) g.held + one_of a b)) ≡ seat (g.count b) =
      subst (λ f. copies b now.hand + (tree_copies keys g.path now.mirror b +
      (count_by (λ x. x == b) g.held + flying b f)) ≡ seat (g.count b)) flying_it (home b inside) in
      let grown = copies_append b now.hand (e ∷ []) in
      let one = copies_cons b e [] in
      let mine : one_of e.address.0 b ≡ one_of a b = ap (λ n. one_of n b) is in
      omega arith

  count_cons : (b x : ℕ) (xs : List ℕ) → count_by (λ y. y == b) (x ∷ xs) ≡ one_of x b + count_by (λ y. y == b) xs
  count_cons b x xs = both (x == b) refl
    where
      both : (t : Bool) → (x == b) ≡ t → count_by (λ y. y == b) (x ∷ xs) ≡ (if t then 1 else 0) + count_by
          (λ y. y == b) xs
      both true is = count_by-yes (λ y. y == b) x xs is
      both false is = count_by-no (λ y. y == b) x xs is

  taken_or_last : (b n : ℕ) (xs : List ℕ) → length xs ≤ n + 1
      → count_by (λ y. y == b) (take n xs) + flying b (slice_get xs n) ≡ count_by (λ y. y == b) xs
  taken_or_last b zero [] few = refl
  taken_or_last b zero (x ∷ []) few = let one = count_cons b x [] in omega arith
  taken_or_last b zero (x ∷ y ∷ xs) few = absurd (omega arith)
  taken_or_last b (suc n) [] few = refl
  taken_or_last b (suc n) (x ∷ xs) few =
      let next = taken_or_last b n xs (omega arith) in
      let whole = count_cons b x xs in
      let part = count_cons b x (take n xs) in
      omega arith

  -- the block in flight is held
  pub home_insert : (g : Ghost) (now : Contents) (plb a : ℕ) → g.flight ≡ Some a → length g.held ≤ plb
      → Home keys g now → Home keys (inserted g plb a) now
  home_insert g now plb a flying_it few home b inside =
      let old : copies b now.hand + (tree_copies keys g.path now.mirror b +
      (count_by (λ x. x == b) g.held + one_of a b)) ≡ seat (g.count b) =
      subst (λ f. copies b now.hand + (tree_copies keys g.path now.mirror b +
      (count_by (λ x. x == b) g.held + flying b f)) ≡ seat (g.count b)) flying_it (home b inside) in
      let all = taken_or_last b plb (a ∷ g.held) (omega (arith, few)) in
      let whole = count_cons b a g.held in
      omega arith

  -- a block that was accessed comes to another counter that isn't the first
  pub home_raised : (g : Ghost) (now : Contents) (a : ℕ) (c : Counter) (pend : Option ℕ)
      → IsBefore first_counter (g.count a) → IsBefore (g.count a) c → Home keys g now
      → Home keys (raised g a c pend) now
  home_raised g now a c pend some up home b inside = home b inside ∙ sym (counted (cases_eq b a))
    where
      counted : (b ≡ a) ⊎ (b ≡ a → ⊥) → seat (put_at g.count a c b) ≡ seat (g.count b)
      counted (inl is) =
          ap (λ x. seat x) (ap (put_at g.count a c) is ∙ put_same g.count a c)
          ∙ ap (λ t. of_first t) (later_not_first (g.count a) c up)
          ∙ sym (ap (λ x. seat (g.count x)) is ∙ ap (λ t. of_first t) (later_not_first first_counter (g.count a) some))
      counted (inr other) = ap (λ x. seat x) (put_other g.count a c b other)

  -- a whole access in which no reply is altered
  pub home_access : (lawful : AreKeys keys) (old new : LogLists) (g : Ghost) (now after : Contents) (start a : ℕ)
      (c : Counter) (found : Option Entry) (l : List ℕ)
      (x : IsAccess keys old new now after start a (g.count a) c found l) → x.altered ≡ [] → g.path ≡ None
      → g.flight ≡ None → IsBefore (g.count a) c → HasSeeds now
      → Always keys new (with_entry (record now { hand = without x.joined (record { 0 = a }) }) (entry_of keys a c l))
      → Home keys g now → Home keys (done g a c l) after
  home_access lawful old new g now after start a c found l x none shut grounded up room w home =
      let within = lawful.leaves (real a (g.count a)) in
      let at_hand : Contents = record now { hand = x.joined } in
      let left : Contents = record now { hand = without x.joined (record { 0 = a }) } in
      let put : Contents = with_entry left (entry_of keys a c l) in
      let g1 = opened_at g (real a (g.count a)) (keys.leaf_of (real a (g.count a))) in
      let h1 = home_read keys lawful g now start (keys.leaf_of (real a (g.count a))) x.joined g.dummies within shut
      (subst (λ r. IsReadTo keys.pads keys.shape start (keys.leaf_of (real a (g.count a))) r now x.joined) none
      x.read) home in
      let h2 = home_take g1 at_hand a c found grounded up x.found_is x.right h1 in
      let h3 = home_put (stored (taken g1 a c) a l) left a (entry_of keys a c l) refl refl h2 in
      subst (λ y. Home keys (done g a c l) y) (sym x.after_is)
      (home_write keys lawful (landed (stored (taken g1 a c) a l)) put
      (keys.leaf_of (real a (g.count a))) within refl w.of_shape w.mirrored w.seeds room h3)
