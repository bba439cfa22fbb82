-- What an access that is asked for changes.
use Rattle.std.proofs.Common.{◌≡◌, ℕ, ◌+◌, ◌-◌, ◌^◌, ◌<◌, ◌≤◌, inl, inr, arith, refl, sym, ap, ◌∙◌, subst}
use Rattle.std.proofs.Common.{cond, List, [], ◌∷◌, ◌++◌, length, get_or, Some, is_none}
use Rattle.std.proofs.Math.Nat.{pow-le-pow_right}
use Rattle.std.proofs.Common.{lit<}
use Rattle.std.proofs.lemmas.Bool.Decides.{leb_tells}
use Rattle.asc_base.specs.TreeShape.{parent_of, children_of}
use Rattle.asc_base.specs.declared.block.Counter.{Counter}
use Rattle.posmap_counters.specs.Group.{GroupState, stepped_group, moved_group, asked_group}
use Rattle.posmap_counters.specs.Counters.{Counters, counter_at, Access, after, after_all, group_move, asked_changes}
use Rattle.posmap_counters.specs.Families.{HasCounters}
use Rattle.posmap_counters.proofs.ChangeLaws.{counters_join}
use Rattle.posmap_counters.proofs.FamilyLaws.{zeros_at, step_counters}
use Rattle.posmap_counters.proofs.MoveLaws.{move_counters}

-- own counts of one bit or more have room for one access
pub some_room : (ic : ℕ) → 1 ≤ ic → 1 ≤ 2 ^ ic - 1
some_room ic some =
    let bound : 2 ^ 1 ≤ 2 ^ ic = pow-le-pow_right (lit< tt) some in
    omega arith

module _ (lines layers : ℕ) where
  -- a group move comes first at the greatest own count
  pub asked-full : (ic : ℕ) (counters : Counters) (held : List ℕ) (a : ℕ) → 2 ^ ic - 1 ≤ (counter_at counters a).own
      → asked_changes lines layers ic held counters a ≡ group_move lines layers held a ++ Access a ∷ []
  unfolding asked_changes
  asked-full ic counters held a full =
      elim (leb_tells (2 ^ ic - 1) (counter_at counters a).own) [
        | inl h ↦ rw h.0 refl
        | inr h ↦ absurd (omega arith)
      ]

  -- below it the access is alone
  pub asked-room : (ic : ℕ) (counters : Counters) (held : List ℕ) (a : ℕ) → (counter_at counters a).own < 2 ^ ic - 1
      → asked_changes lines layers ic held counters a ≡ Access a ∷ []
  unfolding asked_changes
  asked-room ic counters held a room =
      elim (leb_tells (2 ^ ic - 1) (counter_at counters a).own) [
        | inl h ↦ absurd (omega arith)
        | inr h ↦ rw h.0 refl
      ]

  own_is : (counters : Counters) (first number child : ℕ) (group : GroupState) → child < number
      → HasCounters (counter_at counters) first number group
      → (counter_at counters (first + child)).own ≡ get_or group.own child 0
  own_is counters first number child group within has = ap (λ (c : Counter). c.own) (has.children child within)

  pub family-full : (ic first number child : ℕ) (group : GroupState) (counters : Counters) (held : List ℕ)
      → child < number
      → HasCounters (counter_at counters) first number group → 2 ^ ic - 1 ≤ get_or group.own child 0
      → asked_changes lines layers ic held counters (first + child)
      ≡ group_move lines layers held (first + child) ++ Access (first + child) ∷ []
  family-full ic first number child group counters held within has full =
      let same = own_is counters first number child group within has in
      asked-full ic counters held (first + child) (omega arith)

  pub family-room : (ic first number child : ℕ) (group : GroupState) (counters : Counters) (held : List ℕ)
      → child < number
      → HasCounters (counter_at counters) first number group → get_or group.own child 0 < 2 ^ ic - 1
      → asked_changes lines layers ic held counters (first + child) ≡ Access (first + child) ∷ []
  family-room ic first number child group counters held within has room =
      let same = own_is counters first number child group within has in
      asked-room ic counters held (first + child) (omega arith)

  -- all children move, and then one is accessed
  pub counters-full : (ic parent first number child : ℕ) (group : GroupState) (counters : Counters) (held : List ℕ)
      → 1 ≤ ic
      → parent_of lines layers (first + child) ≡ Some parent → children_of lines layers parent ≡ Some (first, number)
      → child < number → number ≤ 32
      → HasCounters (counter_at counters) first number group → 2 ^ ic - 1 ≤ get_or group.own child 0
      → HasCounters (counter_at (after_all lines layers counters
      (asked_changes lines layers ic held counters (first + child))))
      first number (stepped_group ic (moved_group group) child)
  unfolding after_all
  counters-full ic parent first number child group counters held bits above children within few has full =
      let moved : Counters = after_all lines layers counters (group_move lines layers held (first + child)) in
      let after_both : Counters = after lines layers moved (Access (first + child)) in
      let have : HasCounters (counter_at moved) first number (moved_group group) =
      move_counters lines layers counters (first + child) parent first number group held above children has in
      let fresh : get_or (moved_group group).own child 0 < 2 ^ ic - 1 =
      omega (arith, zeros_at 32 child, some_room ic bits) in
      let stepped : HasCounters (counter_at after_both) first number (stepped_group ic (moved_group group) child) =
      step_counters lines layers moved ic first number child (moved_group group) within few
      (ap is_none above) fresh have in
      let all : after_all lines layers counters (asked_changes lines layers ic held counters (first + child))
      ≡ after_both =
      ap (after_all lines layers counters) (family-full ic first number child group counters held within has full)
      ∙ counters_join lines layers counters (group_move lines layers held (first + child))
      (Access (first + child) ∷ []) in
      subst (λ now. HasCounters (counter_at now) first number (stepped_group ic (moved_group group) child))
      (sym all) stepped

  -- one child is accessed alone
  pub counters-room : (ic parent first number child : ℕ) (group : GroupState) (counters : Counters) (held : List ℕ)
      → parent_of lines layers (first + child) ≡ Some parent → child < number → number ≤ length group.own
      → HasCounters (counter_at counters) first number group → get_or group.own child 0 < 2 ^ ic - 1
      → HasCounters (counter_at (after_all lines layers counters
      (asked_changes lines layers ic held counters (first + child))))
      first number (stepped_group ic group child)
  unfolding after_all
  counters-room ic parent first number child group counters held above within long has room =
      subst (λ changes. HasCounters (counter_at (after_all lines layers counters changes)) first number
      (stepped_group ic group child))
      (sym (family-room ic first number child group counters held within has room))
      (step_counters lines layers counters ic first number child group within long (ap is_none above) room has)

  -- the group of a family after an access that is asked for
  pub counters-asked : (ic parent first number child : ℕ) (group : GroupState) (counters : Counters) (held : List ℕ)
      → 1 ≤ ic
      → parent_of lines layers (first + child) ≡ Some parent → children_of lines layers parent ≡ Some (first, number)
      → child < number → number ≤ 32 → length group.own ≡ 32 → HasCounters (counter_at counters) first number group
      → HasCounters (counter_at (after_all lines layers counters
      (asked_changes lines layers ic held counters (first + child))))
      first number (asked_group ic group child)
  counters-asked ic parent first number child group counters held bits above children within few long has =
      let moved : GroupState = stepped_group ic (moved_group group) child in
      let here : GroupState = stepped_group ic group child in
      let now : ℕ → Counter = counter_at (after_all lines layers counters
      (asked_changes lines layers ic held counters (first + child))) in
      elim (leb_tells (2 ^ ic - 1) (get_or group.own child 0)) [
        | inl full ↦ subst (HasCounters now first number) (sym (ap (λ b. cond b moved here) full.0))
            (counters-full ic parent first number child group counters held bits above children within few has full.1)
        | inr rest ↦ subst (HasCounters now first number) (sym (ap (λ b. cond b moved here) rest.0))
            (counters-room ic parent first number child group counters held above within (omega arith) has rest.1)
      ]
