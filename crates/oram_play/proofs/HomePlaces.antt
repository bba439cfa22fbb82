-- A block that is at home and was accessed stands at one place.
use Rattle.std.proofs.Common.{◌≡◌, ◌<◌, ◌≤◌, ◌+◌, ◌==◌, inl, inr, ℕ, zero, suc, Bool, true, false, List, count_by}
use Rattle.std.proofs.Common.{Option, None, Some, if◌then◌else◌, refl, ap, ◌∙◌, subst, arith}
use Rattle.std.specs.List.{find}
use Rattle.std.proofs.lemmas.Bool.{cases_eq, cases_lt}
use Rattle.std.proofs.lemmas.Bool.Decides.{eqb_tells}
use Rattle.asc_base.specs.Has.{Has}
use Rattle.asc_base.specs.declared.block.Entry.{Entry}
use Rattle.asc_base.specs.declared.settings.Config.{Config}
use Rattle.asc_base.proofs.Lookups.{find-has, find-holds, find-none, find-none_has, count_by-none}
use Rattle.oram_contents.specs.Contents.{Contents}
use Rattle.oram_contents.specs.Entries.{Keys, OnPath, entries_at}
use Rattle.oram_contents.specs.Home.{copies, total, is_copy}
use Rattle.oram_contents.specs.Verdict.{is_first}
use Rattle.posmap_counters.specs.Counters.{counter_at}
use Rattle.posmap_lookaside.specs.declared.held.Held.{Held}
use Rattle.run_play.specs.Requests.{Standing}
use Rattle.oram_play.specs.AtHome.{IsAtHome, entry_in, times_placed}
use Rattle.oram_play.specs.AtHome.{Place, AmongHeld, AtHand, InBucket, StandsAt}

-- what is counted at all stands there
counted_has : {A : Type 0} (test : A → Bool) (xs : List A) → 1 ≤ count_by test xs
    → (x : A) × Has x xs × (test x ≡ true)
counted_has {A} test xs some = by (find test xs) refl
  where
    by : (found : Option A) → find test xs ≡ found → (x : A) × Has x xs × (test x ≡ true)
    by None none = absurd (omega (arith, some, count_by-none test xs none))
    by (Some x) found = (x, find-has test xs x found, find-holds test xs x found)

-- and what stands there is counted
has_counted : {A : Type 0} (test : A → Bool) (xs : List A) (x : A) → Has x xs → test x ≡ true → 1 ≤ count_by test xs
has_counted test xs x has is = elim (cases_eq (count_by test xs) 0) [
  | inl none ↦ absurd (let no : test x ≡ false = find-none_has test xs x (find-none test xs none) has in cc)
  | inr some ↦ omega (arith, some)
]

same_number : (a b : ℕ) → (b == a) ≡ true → b ≡ a
same_number a b is = elim (eqb_tells b a) [
  | inl same ↦ same.1
  | inr other ↦ absurd (let no : (b == a) ≡ false = other.0 in cc)
]

is_itself : (a : ℕ) → (a == a) ≡ true
is_itself a = elim (eqb_tells a a) [ inl same ↦ same.0 | inr other ↦ absurd (other.1 refl) ]

-- a sum that isn't 0 has a number that isn't, and is no less than each and than two of them
some_of_total : (f : ℕ → ℕ) (n : ℕ) → 1 ≤ total f n → (b : ℕ) × (b < n) × (1 ≤ f b)
some_of_total f zero some = absurd (omega (arith, some))
some_of_total f (suc n) some = elim (cases_eq (f n) 0) [
  | inl none ↦ let (b, less, here) = some_of_total f n (omega (arith, some, none)) in (b, omega (arith, less), here)
  | inr here ↦ (n, omega arith, omega (arith, here))
]

one_of_total : (f : ℕ → ℕ) (n b : ℕ) → b < n → f b ≤ total f n
one_of_total f zero b less = absurd (omega (arith, less))
one_of_total f (suc n) b less = elim (cases_eq b n) [
  | inl last ↦ omega (arith, ap f last)
  | inr other ↦ omega (arith, one_of_total f n b (omega (arith, less, other)))
]

two_of_total : (f : ℕ → ℕ) (n b c : ℕ) → b < c → c < n → f b + f c ≤ total f n
two_of_total f zero b c order less = absurd (omega (arith, less))
two_of_total f (suc n) b c order less = elim (cases_eq c n) [
  | inl last ↦ omega (arith, ap f last, one_of_total f n b (omega (arith, order, last)))
  | inr other ↦ omega (arith, two_of_total f n b c order (omega (arith, less, other)))
]

module _ (keys : Keys) (config : Config) (now : Standing) (held : List Held)
    (contents : Contents) (home : IsAtHome keys config now held contents) (a : ℕ) (inside : a < keys.shape.total) where
  abbrev in_bucket : ℕ → ℕ
  in_bucket b = copies a (entries_at keys contents.mirror b)

  abbrev times_held : ℕ
  times_held = count_by (λ b. b == a) now.chip.held

  -- the entry of an address is its block's
  the_entry : (e : Entry) → e ≡ entry_in keys config now e.address.0 → is_copy a e ≡ true
      → e ≡ entry_in keys config now a
  the_entry e is copy = is ∙ ap (entry_in keys config now) (same_number a e.address.0 copy)

  pub stands_somewhere : is_first (counter_at now.chip.counters a) ≡ false
      → (place : Place) × StandsAt keys config now contents a place
  stands_somewhere accessed =
      elim (cases_eq times_held 0) [
        | inr some ↦
            (let (b, has, is) = counted_has (λ b. b == a) now.chip.held (omega (arith, some)) in
            (AmongHeld, subst (λ n. Has n now.chip.held) (same_number a b is) has))
        | inl unheld ↦ elim (cases_eq (copies a contents.hand) 0) [
          | inr some ↦
              (let (e, has, copy) = counted_has (is_copy a) contents.hand (omega (arith, some)) in (
                AtHand,
                subst (λ (x : Entry). Has x contents.hand) (the_entry e (home.at_hand e has).1 copy) has,
              ))
          | inl none ↦
              (let (b, below, some) = some_of_total in_bucket keys.shape.buckets (omega (arith, one, unheld, none)) in
              let (e, has, copy) = counted_has (is_copy a) (entries_at keys contents.mirror b) some in
              let (low, is, path) = home.in_tree b e has in
              let same = the_entry e is copy in (
                InBucket b,
                (
                  below,
                  subst (λ (x : Entry). Has x (entries_at keys contents.mirror b)) same has,
                  subst (λ (x : Entry). OnPath keys.shape.levels x.leaf.0 b) same path,
                ),
              ))
        ]
      ]
    where
      one : times_placed keys now.chip.held contents a ≡ 1
      one = home.one_place a inside ∙ ap {A = Bool} {B = ℕ} (λ b. if b then 0 else 1) accessed

  -- at a place it is counted
  abbrev times_at : Place → ℕ
  times_at AmongHeld = times_held
  times_at AtHand = copies a contents.hand
  times_at (InBucket b) = in_bucket b

  counted_at : (place : Place) → StandsAt keys config now contents a place → 1 ≤ times_at place
  counted_at AmongHeld has = has_counted (λ b. b == a) now.chip.held a has (is_itself a)
  counted_at AtHand has = has_counted (is_copy a) contents.hand (entry_in keys config now a) has (is_itself a)
  counted_at (InBucket b) (below, has, path) =
      has_counted (is_copy a) (entries_at keys contents.mirror b) (entry_in keys config now a) has (is_itself a)

  all_times : (place : Place) → StandsAt keys config now contents a place
      → 1 ≤ times_placed keys now.chip.held contents a
  all_times AmongHeld has = omega (arith, counted_at AmongHeld has)
  all_times AtHand has = omega (arith, counted_at AtHand has)
  all_times (InBucket b) has =
      omega (arith, counted_at (InBucket b) has, one_of_total in_bucket keys.shape.buckets b has.0)

  pub stands_nowhere : is_first (counter_at now.chip.counters a) ≡ true → (place : Place)
      → StandsAt keys config now contents a place → ⊥
  stands_nowhere first place has =
      let none : times_placed keys now.chip.held contents a ≡ 0 =
      home.one_place a inside ∙ ap {A = Bool} {B = ℕ} (λ b. if b then 0 else 1) first in
      absurd (omega (arith, none, all_times place has))

  at_most_one : times_placed keys now.chip.held contents a ≤ 1
  at_most_one = by (is_first (counter_at now.chip.counters a)) (home.one_place a inside)
    where
      by : (first : Bool) → times_placed keys now.chip.held contents a ≡ (if first then 0 else 1)
          → times_placed keys now.chip.held contents a ≤ 1
      by true is = omega (arith, is)
      by false is = omega (arith, is)

  in_one_bucket : (b c : ℕ) → StandsAt keys config now contents a (InBucket b)
      → StandsAt keys config now contents a (InBucket c) → b < c → ⊥
  in_one_bucket b c here there order =
      absurd (omega (
        arith,
        at_most_one,
        counted_at (InBucket b) here,
        counted_at (InBucket c) there,
        two_of_total in_bucket keys.shape.buckets b c order there.0,
      ))

  pub stands_once : (p q : Place) → StandsAt keys config now contents a p → StandsAt keys config now contents a q
      → p ≡ q
  stands_once AmongHeld AmongHeld here there = refl
  stands_once AmongHeld AtHand here there =
      absurd (omega (arith, at_most_one, counted_at AmongHeld here, counted_at AtHand there))
  stands_once AmongHeld (InBucket c) here there =
      absurd (omega (
        arith,
        at_most_one,
        counted_at AmongHeld here,
        counted_at (InBucket c) there,
        one_of_total in_bucket keys.shape.buckets c there.0,
      ))
  stands_once AtHand AmongHeld here there =
      absurd (omega (arith, at_most_one, counted_at AtHand here, counted_at AmongHeld there))
  stands_once AtHand AtHand here there = refl
  stands_once AtHand (InBucket c) here there =
      absurd (omega (
        arith,
        at_most_one,
        counted_at AtHand here,
        counted_at (InBucket c) there,
        one_of_total in_bucket keys.shape.buckets c there.0,
      ))
  stands_once (InBucket b) AmongHeld here there =
      absurd (omega (
        arith,
        at_most_one,
        counted_at AmongHeld there,
        counted_at (InBucket b) here,
        one_of_total in_bucket keys.shape.buckets b here.0,
      ))
  stands_once (InBucket b) AtHand here there =
      absurd (omega (
        arith,
        at_most_one,
        counted_at AtHand there,
        counted_at (InBucket b) here,
        one_of_total in_bucket keys.shape.buckets b here.0,
      ))
  stands_once (InBucket b) (InBucket c) here there = elim (cases_eq b c) [
    | inl same ↦ ap (λ n. InBucket n) same
    | inr other ↦ elim (cases_lt b c) [
      | inl under ↦ absurd (in_one_bucket b c here there under)
      | inr over ↦ absurd (in_one_bucket c b there here (omega (arith, over, other)))
    ]
  ]
