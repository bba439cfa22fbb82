-- The line of a position-map block by its children's counters.
use Rattle.std.proofs.Common.{◌≡◌, ℕ, ◌+◌, ◌-◌, ◌^◌, ◌<◌, ◌≤◌, inl, inr, true, false, arith, refl, sym, ap, ◌∙◌, subst}
use Rattle.std.proofs.Common.{List, length, get_or, replicate, take, drop, nat_lt, if◌then◌else◌, lit<}
use Rattle.std.proofs.Math.Nat.{pow-le-pow_right}
use Rattle.std.proofs.lemmas.Bool.{cases_lt}
use Rattle.std.proofs.lemmas.Bool.Decides.{leb_tells}
use Rattle.std.specs.Int.Digits.{number_from_digits}
use Rattle.std.proofs.lemmas.List.{get_or_past, length-set, length-take-le}
use Rattle.std.proofs.lemmas.List.FromFn.{length-map-range_with_len, get_or-map-range_with_len, fill_by_all}
use Rattle.asc_base.specs.Bytes.{AreBytes}
use Rattle.asc_base.specs.declared.block.Counter.{Counter}
use Rattle.asc_base.proofs.Bytes.{byte_of}
use Rattle.posmap_counters.specs.Digits.{digits}
use Rattle.posmap_counters.specs.Group.{GroupState, IsGroup, line_of, line_in, group_of, own_of, group_in}
use Rattle.posmap_counters.specs.Group.{child_counter, first_group, stepped_group, moved_group}
use Rattle.posmap_counters.specs.Counters.{first_counter}
use Rattle.posmap_counters.specs.Families.{HasCounters, HasOneGroup, own_counts, family_group, family_line}
use Rattle.posmap_counters.proofs.DigitLaws.{length-digits, number_below}
use Rattle.posmap_counters.proofs.LineLaws.{group-line, own-line, Below-take}
use Rattle.posmap_counters.proofs.PieceLaws.{own_below, own_set, zeros_below}
use Rattle.posmap_counters.proofs.FamilyLaws.{zeros_at}
use Rattle.posmap_counters.proofs.Order.{same_counter}

-- groups with the same counters are one
same_group : (g h : GroupState) → g.group ≡ h.group → g.own ≡ h.own → g ≡ h
same_group g h group own = λ i. record { group = group i; own = own i }

lt_true : (m n : ℕ) → m < n → nat_lt m n ≡ true
lt_true m n less = grind arith

lt_false : (m n : ℕ) → n ≤ m → nat_lt m n ≡ false
lt_false m n more = grind arith

-- what stands for a child
abbrev own_for : (ℕ → Counter) → ℕ → ℕ → ℕ → ℕ
own_for count first number child = (if nat_lt child number then (count (first + child)).own else 0)

own_for-member : (count : ℕ → Counter) (first number child : ℕ) → child < number
    → own_for count first number child ≡ (count (first + child)).own
own_for-member count first number child within = let yes : nat_lt child number ≡ true = lt_true child number within in
    rw yes refl

own_for-other : (count : ℕ → Counter) (first number child : ℕ) → number ≤ child → own_for count first number child ≡ 0
own_for-other count first number child past = let no : nat_lt child number ≡ false = lt_false child number past in
    rw no refl

pub length-own_counts : (count : ℕ → Counter) (first number : ℕ) → length (own_counts count first number) ≡ 32
unfolding own_counts
length-own_counts count first number = length-map-range_with_len (own_for count first number) 0 32

pub own_counts-member : (count : ℕ → Counter) (first number child : ℕ) → number ≤ 32 → child < number
    → get_or (own_counts count first number) child 0 ≡ (count (first + child)).own
unfolding own_counts
own_counts-member count first number child few within =
    get_or-map-range_with_len (own_for count first number) 0 32 child child 0 (omega arith) (omega arith)
    ∙ own_for-member count first number child within

pub own_counts-other : (count : ℕ → Counter) (first number child : ℕ) → number ≤ child
    → get_or (own_counts count first number) child 0 ≡ 0
unfolding own_counts
own_counts-other count first number child past =
    elim (cases_lt child 32) [
      | inl within ↦ get_or-map-range_with_len (own_for count first number) 0 32 child child 0 within (omega arith)
          ∙ own_for-other count first number child past
      | inr out ↦ get_or_past (own_counts count first number) child 0
          (omega (arith, length-own_counts count first number))
    ]

-- a family with one group counter has the counters of its group
pub family_has : (count : ℕ → Counter) (first number : ℕ) → number ≤ 32 → HasOneGroup count first number
    → HasCounters count first number (family_group count (first, number))
family_has count first number few one = record {
  children = λ child within. same_counter (count (first + child))
      (child_counter (family_group count (first, number)) child)
      (one child within) (sym (own_counts-member count first number child few within));
  others = λ child past. own_counts-other count first number child past;
}

-- and of no other
pub family_only : (count : ℕ → Counter) (first number : ℕ) (group : GroupState) → 1 ≤ number → length group.own ≡ 32
    → HasCounters count first number group → group ≡ family_group count (first, number)
unfolding own_counts
family_only count first number group some long has =
    same_group group (family_group count (first, number)) group_is
    (fill_by_all (own_for count first number) group.own 32 0 long each)
  where
    group_is : group.group ≡ (count first).group
    group_is =
        let same : first + 0 ≡ first = omega arith in
        sym (ap (λ (c : Counter). c.group) (subst (λ a. count a ≡ child_counter group 0) same
        (has.children 0 (omega arith))))

    each : (child : ℕ) → child < 32 → get_or group.own child 0 ≡ own_for count first number child
    each child within =
        elim (cases_lt child number) [
          | inl member ↦ sym (ap (λ (c : Counter). c.own) (has.children child member))
              ∙ sym (own_for-member count first number child member)
          | inr past ↦ has.others child past ∙ sym (own_for-other count first number child past)
        ]

-- the group of a family whose counters are in range
pub family_is : (count : ℕ → Counter) (first number : ℕ) → number ≤ 32 → (count first).group < 2 ^ 64
    → ((child : ℕ) → child < number → (count (first + child)).own < 16384)
    → IsGroup (family_group count (first, number))
family_is count first number few fits own = record {
  fits = fits;
  children = length-own_counts count first number;
  own = λ child. elim (cases_lt child number) [
    | inl member ↦ omega (arith, own child member, own_counts-member count first number child few member)
    | inr past ↦ omega (arith, own_counts-other count first number child past)
  ];
}

pub read_line : (group : GroupState) → IsGroup group → group_in (line_in group) ≡ group
read_line group is =
    same_group (group_in (line_in group)) group (group-line group.group group.own is.fits)
    (own-line group.group group.own is.children is.own)

-- a family that was never accessed has a line of zeros
pub family_blank : (count : ℕ → Counter) (first number : ℕ) → 1 ≤ number
    → ((child : ℕ) → child < number → count (first + child) ≡ first_counter)
    → family_line count (first, number) ≡ replicate 64 0
unfolding line_of digits
family_blank count first number some blank =
    let is = family_only count first number first_group some refl (record {
      children = λ child within. blank child within
          ∙ sym (same_counter (child_counter first_group child) first_counter refl (zeros child));
      others = λ child past. zeros child;
    }) in
    ap line_in (sym is)
  where
    zeros : (child : ℕ) → get_or first_group.own child 0 ≡ 0
    zeros child = zeros_at 32 child

-- what is read is a group, and so is a group that is stepped or moved
pub read_is : (line : List ℕ) → length line ≡ 64 → AreBytes line → IsGroup (group_in line)
unfolding group_of own_of
read_is line long are = record {
  fits =
      let size : length (take 8 line) ≡ 8 = length-take-le 8 line (omega arith) in
      rw size at (number_below 256 (take 8 line) (Below-take 256 8 line (omega arith) (λ k. byte_of line k are)));
  children = length-digits 16384 32 (number_from_digits 256 (drop 8 line));
  own = own_below line;
}

pub step_is : (ic child : ℕ) (group : GroupState) → ic ≤ 14 → IsGroup group → IsGroup (stepped_group ic group child)
step_is ic child group most is =
    elim (leb_tells (2 ^ ic - 1) (get_or group.own child 0)) [
      | inl full ↦ rw full.0 is
      | inr rest ↦
          let bound : 2 ^ ic ≤ 2 ^ 14 = pow-le-pow_right (lit< tt) most in
          let less = rest.1 in
          rw rest.0 (record {
            fits = is.fits;
            children = length-set group.own child (get_or group.own child 0 + 1) ∙ is.children;
            own = own_set group.own child (get_or group.own child 0 + 1) is.own (omega arith);
          })
    ]

pub moved_is : (group : GroupState) → IsGroup (moved_group group)
moved_is group = record { fits = omega arith; children = refl; own = zeros_below 32 }
