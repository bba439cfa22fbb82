-- How a front end's chip goes on showing the counters of all blocks where a block comes to be held, or is used.
use Rattle.std.proofs.Common.{◌≡◌, ◌<◌, ◌≤◌, inl, inr, ℕ, zero, suc, Bool, true, false, List, [], ◌∷◌}
use Rattle.std.proofs.Common.{Option, None, Some, length, map, take, slice_get, is_some, option_map}
use Rattle.std.proofs.Common.{if◌then◌else◌}
use Rattle.std.proofs.Common.{refl, sym, ap, ◌∙◌, subst, arith}
use Rattle.std.specs.List.{find}
use Rattle.std.proofs.lemmas.Bool.{cases_Bool}
use Rattle.std.proofs.lemmas.Bool.Decides.{eqb_tells}
use Rattle.asc_base.proofs.Families.{children_few}
use Rattle.asc_base.proofs.Lookups.{find-yes, find-no, find-has, find-holds, without_first-has, map-without_first}
use Rattle.asc_base.proofs.Lookups.{promoted_first-some, promoted_first-none, some_is, none_is_not}
use Rattle.asc_base.proofs.ShapeFacts.{shape_layered}
use Rattle.asc_base.specs.Has.{Has}
use Rattle.asc_base.specs.Lookup.{promoted_first, without_first}
use Rattle.asc_base.specs.TreeShape.{children_of}
use Rattle.asc_base.specs.declared.block.Address.{Address}
use Rattle.asc_base.specs.declared.block.Counter.{Counter}
use Rattle.asc_base.specs.declared.block.Line.{Line}
use Rattle.asc_base.specs.declared.shape.Shape.{Shape}
use Rattle.oram_contents.proofs.ChipLaws.{groups_inserted, groups_used}
use Rattle.oram_contents.proofs.GroupLaws.{read_group}
use Rattle.oram_contents.specs.Chip.{AreGroups, AreDistinct, addresses, is_at, with_used}
use Rattle.oram_contents.specs.Counts.{Ghost, line_at, line_by}
use Rattle.oram_contents.specs.Entries.{Keys, AreKeys}
use Rattle.oram_contents.specs.Groups.{IsGroupOf, moved_of, child_counter}
use Rattle.oram_contents.specs.Steps.{inserted}
use Rattle.oram_walk.proofs.Fronts.{used_front}
use Rattle.oram_walk.specs.Front.{FrontState, IsFront, with_held, counter_in}
use Rattle.oram_walk.specs.Plans.{refilled}
use Rattle.posmap_counters.proofs.DigitLaws.{length-digits}
use Rattle.posmap_counters.proofs.FamilyLines.{family_only}
use Rattle.posmap_counters.specs.Counters.{is_among, next_group}
use Rattle.posmap_counters.specs.Group.{GroupState, own_of, line_in}
use Rattle.posmap_lookaside.proofs.AddressLaws.{addresses_of-promoted, addresses_of-inserted, addresses_of-displaced}
use Rattle.posmap_lookaside.proofs.AddressLaws.{put_distinct}
use Rattle.posmap_lookaside.proofs.Wholes.{promoted_whole}
use Rattle.posmap_lookaside.specs.Addresses.{used, AreDistinct as AreApart}
use Rattle.posmap_lookaside.specs.Held.{is_of, held_at, promoted, inserted as put_first, displaced, addresses_of}
use Rattle.posmap_lookaside.specs.declared.held.Held.{Held}
use Rattle.oram_lines.specs.Shown.{IsInserted}
use Rattle.oram_lines.specs.Standing.{IsShown, held_block, chip_of}
use Rattle.oram_lines.proofs.ShownLaws.{counters_same, groups_same, still_none, not_under}
use Rattle.oram_lines.proofs.ShownParts.{chip_addresses}

-- what stands in the first ones of a list stands in the list, and so does what stands at a place
take_has : {A : Type 0} (n : ℕ) (xs : List A) (x : A) → Has x (take n xs) → Has x xs
take_has zero xs x has = absurd has
take_has (suc n) [] x has = absurd has
take_has (suc n) (y ∷ xs) x (inl is) = inl is
take_has (suc n) (y ∷ xs) x (inr later) = inr (take_has n xs x later)

get_has : {A : Type 0} (n : ℕ) (xs : List A) (x : A) → slice_get xs n ≡ Some x → Has x xs
get_has n [] x at = absurd (none_is_not at)
get_has zero (y ∷ xs) x at = inl (sym (some_is at))
get_has (suc n) (y ∷ xs) x at = inr (get_has n xs x at)

take_length : {A : Type 0} (n : ℕ) (xs : List A) → length (take n xs) ≤ n
take_length zero xs = omega arith
take_length (suc n) [] = omega arith
take_length (suc n) (x ∷ xs) = let less = take_length n xs in omega arith

take_map : {A B : Type 0} (f : A → B) (n : ℕ) (xs : List A) → map f (take n xs) ≡ take n (map f xs)
take_map f zero xs = refl
take_map f (suc n) [] = refl
take_map f (suc n) (x ∷ xs) = ap (λ l. f x ∷ l) (take_map f n xs)

-- of distinct numbers, the one at a place isn't among those before it
not_before : (n : ℕ) (xs : List ℕ) (x : ℕ) → AreDistinct xs → slice_get xs n ≡ Some x → Has x (take n xs) → ⊥
not_before zero xs x distinct at has = has
not_before (suc n) [] x distinct at has = has
not_before (suc n) (y ∷ xs) x distinct at (inl is) = distinct.0 (subst (λ z. Has z xs) is (get_has n xs x at))
not_before (suc n) (y ∷ xs) x distinct at (inr later) = not_before n xs x distinct.1 at later

-- a number that doesn't stand in a list isn't among it
not_among : (list : List ℕ) (a : ℕ) → (Has a list → ⊥) → is_among list a ≡ false
not_among [] a none = refl
not_among (x ∷ list) a none = elim (eqb_tells x a) [
  | inl same ↦ absurd (none (inl (sym same.1)))
  | inr other ↦ rw other.0 (not_among list a (λ has. none (inr has)))
]

held_has : (h : Held) (list : List Held) → Has h list → Has (held_block h) (map held_block list)
held_has h [] has = has
held_has h (x ∷ list) (inl is) = inl (ap held_block is)
held_has h (x ∷ list) (inr later) = inr (held_has h list later)

address_has : (h : Held) (list : List Held) → Has h list → Has h.address.0 (addresses_of list)
address_has h [] has = has
address_has h (x ∷ list) (inl is) = inl (ap (λ (y : Held). y.address.0) is)
address_has h (x ∷ list) (inr later) = inr (address_has h list later)

-- the first that meets a test goes first
pub promoted_has : {A : Type 0} (test : A → Bool) (xs : List A) (x : A) → Has x (promoted_first test xs) → Has x xs
promoted_has test xs x has = by (find test xs) refl
  where
    by : (found : Option _) → find test xs ≡ found → Has x xs
    by None none = subst (Has x) (promoted_first-none test xs none) has
    by (Some y) found = elim (subst (Has x) (promoted_first-some test xs y found) has) [
      | inl same ↦ subst (λ z. Has z xs) (sym same) (find-has test xs y found)
      | inr rest ↦ without_first-has test xs x rest
    ]

find_map : {A B : Type 0} (part : A → B) (test : B → Bool) (xs : List A)
    → find test (map part xs) ≡ option_map part (find (λ x. test (part x)) xs)
find_map part test [] = refl
find_map part test (x ∷ xs) =
    elim (cases_Bool (test (part x))) [
      | inl here ↦ find-yes test (part x) (map part xs) here
          ∙ ap (option_map part) (sym (find-yes (λ y. test (part y)) x xs here))
      | inr other ↦ find-no test (part x) (map part xs) other ∙ find_map part test xs
          ∙ ap (option_map part) (sym (find-no (λ y. test (part y)) x xs other))
    ]

promoted_map : {A B : Type 0} (part : A → B) (test : B → Bool) (xs : List A)
    → map part (promoted_first (λ x. test (part x)) xs) ≡ promoted_first test (map part xs)
promoted_map part test xs = by (find (λ x. test (part x)) xs) refl
  where
    by : (found : Option _) → find (λ x. test (part x)) xs ≡ found
        → map part (promoted_first (λ x. test (part x)) xs) ≡ promoted_first test (map part xs)
    by None none =
        ap (map part) (promoted_first-none (λ x. test (part x)) xs none)
        ∙ sym (promoted_first-none test (map part xs) (find_map part test xs ∙ ap (option_map part) none))
    by (Some x) found =
        ap (map part) (promoted_first-some (λ y. test (part y)) xs x found)
        ∙ ap (λ rest. part x ∷ rest) (map-without_first part test xs)
        ∙ sym (promoted_first-some test (map part xs) (part x) (find_map part test xs ∙ ap (option_map part) found))

length_own : (line : List ℕ) → length (own_of line) ≡ 32
unfolding own_of
length_own line = length-digits 16384 32 _

-- A block's line is that of a group that shows its children's counters.
pub group_line : (shape : Shape) (g : Ghost) (p first number : ℕ) (group : GroupState) → 1 ≤ number
    → children_of shape.lines shape.layers p ≡ Some (first, number) → g.stepped ≡ None → g.move ≡ None
    → length group.own ≡ 32 → IsGroupOf shape g p group.group group.own → line_in group ≡ line_at shape g p
group_line shape g p first number group some children level still wide shown =
    ap line_in (family_only g.count first number group some wide (record {
      children = λ k less.
          (shown.shows first number k children less).level (λ at. absurd (none_is_not (sym level ∙ at)))
          ∙ ap {A = Bool} {B = Counter} (λ b. if b then next_group (child_counter group.group group.own k)
          else child_counter group.group group.own k) (not_under k (moved_of g.move p) (still_none g.move p still));
      others = λ k more. shown.others first number k children more;
    }))
    ∙ sym (ap (line_by g.count (g.data_lines p)) children)

module _ (keys : Keys) (lawful : AreKeys keys) where
  -- a held block is used
  pub used_shown : (front : FrontState) (g : Ghost) (p : Address) → IsShown keys front g → g.pend ≡ None
      → IsShown keys (with_held front (promoted front.held p)) (record g { held = used g.held p.0 })
  used_shown front g p s none = record {
    front_is = used_front front p (record { list = promoted front.held p; capacity = front.plb }) refl
        (promoted_whole (record { list = front.held; capacity = front.plb }) p (promoted front.held p) refl
        s.front_is.whole) s.front_is;
    shape = s.shape;
    groups = groups_same (record g { held = addresses (with_used p.0 (chip_of front)).held })
        (record g { held = used g.held p.0 }) refl (sym used_is) refl refl refl keys.shape front.plb
        (chip_of (with_held front (promoted front.held p)))
        (subst (λ l. AreGroups keys.shape front.plb
        (record g { held = addresses (with_used p.0 (chip_of front)).held })
        (record { roots = front.roots; held = l })) (sym chip_is)
        (groups_used keys.shape front.plb g (chip_of front) s.groups p.0 none));
    counters = counters_same g (record g { held = used g.held p.0 }) refl refl keys.shape s.counters;
    wide = λ h has. s.wide h (promoted_has (is_of p) front.held h has);
  }
    where
      chip_is : map held_block (promoted front.held p) ≡ promoted_first (is_at p.0) (map held_block front.held)
      chip_is = promoted_map held_block (is_at p.0) front.held

      used_is : addresses (with_used p.0 (chip_of front)).held ≡ used g.held p.0
      used_is = ap addresses (sym chip_is) ∙ chip_addresses (promoted front.held p)
          ∙ addresses_of-promoted front.held p
          ∙ ap (λ l. used l p.0) (sym (s.groups.listed ∙ chip_addresses front.held))

  -- and comes first
  pub used_first : (front : FrontState) (g : Ghost) (p : Address) → IsShown keys front g
      → is_some (held_at front.held p) ≡ true → (rest : List ℕ) × (used g.held p.0 ≡ p.0 ∷ rest)
  used_first front g p s there = by (held_at front.held p) refl
    where
      by : (found : Option Held) → held_at front.held p ≡ found
          → (rest : List ℕ) × (used g.held p.0 ≡ p.0 ∷ rest)
      by None none = absurd (let bad : false ≡ true = ap {B = Bool} is_some (sym none) ∙ there in cc)
      by (Some h) found =
          let here : h.address.0 ≡ p.0 = elim (eqb_tells h.address.0 p.0) [
            | inl same ↦ same.1
            | inr other ↦ absurd (let bad : true ≡ false = sym (find-holds (is_of p) front.held h found)
                ∙ other.0 in cc)
          ] in (
            addresses_of (without_first (is_of p) front.held),
            ap (λ l. used l p.0) (s.groups.listed ∙ chip_addresses front.held)
                ∙ sym (addresses_of-promoted front.held p)
                ∙ ap addresses_of (promoted_first-some (is_of p) front.held h found)
                ∙ ap (λ x. x ∷ addresses_of (without_first (is_of p) front.held)) here,
          )

  pub insert_shown : (front : FrontState) (g : Ghost) (a : Address) (line : Line) → IsShown keys front g
      → g.pend ≡ None → g.stepped ≡ None → g.move ≡ None → a.0 < keys.shape.total → (Has a.0 g.held → ⊥)
      → counter_in front a ≡ g.count a.0 → line.0 ≡ line_at keys.shape g a.0
      → (family : ℕ × ℕ) × (children_of keys.shape.lines keys.shape.layers a.0 ≡ Some family)
      → IsInserted keys front g a line
  insert_shown front g a line s none level still inside unheld counted is_line family = record {
    shown = record {
      front_is = front_now;
      shape = s.shape;
      groups = subst (λ l. AreGroups keys.shape front.plb (inserted g front.plb a.0)
          (record { roots = front.roots; held = l })) (sym (take_map held_block front.plb (new ∷ front.held)))
          (groups_inserted keys.shape front.plb g (chip_of front) s.groups (held_block new) counted shown_new unheld
          inside family none);
      counters = counters_same g (inserted g front.plb a.0) refl refl keys.shape s.counters;
      wide = λ h has. wide_of h (take_has front.plb (new ∷ front.held) h has);
    };
    some = λ d is. let there = get_has front.plb (new ∷ front.held) d is in record {
      place = place_of d is;
      inside = inside_of d there;
      gone = not_before front.plb (a.0 ∷ g.held) d.address.0 (unheld, s.groups.apart) (place_of d is);
      counter = counter_of d there;
      line = line_is d there;
    };
    none = λ is. at_place ∙ ap (option_map (λ (h : Held). h.address.0)) is;
  }
    where
      new : Held
      new = refilled front a line

      held_is : g.held ≡ addresses_of front.held
      held_is = s.groups.listed ∙ chip_addresses front.held

      shown_new : IsGroupOf keys.shape g a.0 new.group.group new.group.own
      shown_new = read_group keys.shape g a.0 family.0.0 family.0.1 line.0 lawful.shape inside family.1
          (λ k less at. absurd (none_is_not (sym level ∙ at))) (still_none g.move a.0 still) is_line s.counters

      wide_of : (h : Held) → Has h (new ∷ front.held) → length h.group.own ≡ 32
      wide_of h (inl is) = ap (λ (x : Held). length x.group.own) is ∙ length_own line.0
      wide_of h (inr at) = s.wide h at

      counter_of : (h : Held) → Has h (new ∷ front.held) → h.counter ≡ g.count h.address.0
      counter_of h (inl is) = ap (λ (x : Held). x.counter) is ∙ counted
          ∙ ap (λ (x : Held). g.count x.address.0) (sym is)
      counter_of h (inr at) = s.groups.counters (held_block h) (held_has h front.held at)

      inside_of : (h : Held) → Has h (new ∷ front.held) → h.address.0 < keys.shape.total
      inside_of h (inl is) = subst (λ (x : Held). x.address.0 < keys.shape.total) (sym is) inside
      inside_of h (inr at) = s.groups.inside h.address.0
          (subst (Has h.address.0) (sym held_is) (address_has h front.held at))

      family_of : (h : Held) → Has h (new ∷ front.held)
          → (family : ℕ × ℕ) × (children_of keys.shape.lines keys.shape.layers h.address.0 ≡ Some family)
      family_of h (inl is) = subst (λ (x : Held). (family : ℕ × ℕ)
          × (children_of keys.shape.lines keys.shape.layers x.address.0 ≡ Some family)) (sym is) family
      family_of h (inr at) = s.groups.families h.address.0
          (subst (Has h.address.0) (sym held_is) (address_has h front.held at))

      group_of_held : (h : Held) → Has h (new ∷ front.held)
          → IsGroupOf keys.shape g h.address.0 h.group.group h.group.own
      group_of_held h (inl is) =
          subst (λ (x : Held). IsGroupOf keys.shape g x.address.0 x.group.group x.group.own) (sym is) shown_new
      group_of_held h (inr at) = s.groups.groups (held_block h) (held_has h front.held at)

      line_is : (h : Held) → Has h (new ∷ front.held) → line_in h.group ≡ line_at keys.shape g h.address.0
      line_is h has =
          let of = family_of h has in
          let few = children_few keys.shape.lines keys.shape.layers h.address.0 of.0.0 of.0.1
          (omega (arith, inside_of h has, (shape_layered keys.shape lawful.shape).total)) of.1 in
          group_line keys.shape g h.address.0 of.0.0 of.0.1 h.group few.0 of.1 level still (wide_of h has)
          (group_of_held h has)

      at_place : slice_get (a.0 ∷ g.held) front.plb
          ≡ option_map (λ (h : Held). h.address.0) (displaced front.plb new front.held)
      at_place = ap (λ l. slice_get (a.0 ∷ l) front.plb) held_is ∙ sym (addresses_of-displaced front.plb new front.held)

      place_of : (d : Held) → displaced front.plb new front.held ≡ Some d
          → slice_get (a.0 ∷ g.held) front.plb ≡ Some d.address.0
      place_of d is = at_place ∙ ap (option_map (λ (h : Held). h.address.0)) is

      front_now : IsFront (with_held front (put_first front.plb new front.held))
      front_now = record {
        shape = s.front_is.shape;
        ic_from = s.front_is.ic_from;
        ic_to = s.front_is.ic_to;
        roots = s.front_is.roots;
        whole = record {
          some = s.front_is.whole.some;
          fits = take_length front.plb (new ∷ front.held);
          distinct = subst AreApart
              (sym (addresses_of-inserted front.plb new front.held))
              (put_distinct front.plb (addresses_of front.held) a.0
              (not_among (addresses_of front.held) a.0 (λ has. unheld (subst (Has a.0) (sym held_is) has)))
              s.front_is.whole.distinct);
        };
        inside = λ b has. elim (take_has front.plb (a.0 ∷ addresses_of front.held) b
            (subst (Has b) (addresses_of-inserted front.plb new front.held) has)) [
              | inl is ↦ subst (λ x. x < front.shape.total) (sym is)
                  (subst (λ (x : Shape). a.0 < x.total) (sym s.shape) inside)
              | inr at ↦ s.front_is.inside b at
            ];
      }
