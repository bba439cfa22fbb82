-- What changes make of the counters of a family: those of its own blocks, a group move of all, and those of other
-- families.
use Rattle.std.proofs.Common.{◌≡◌, ◌≢◌, ℕ, zero, suc, ◌+◌, ◌-◌, ◌^◌, ◌<◌, ◌≤◌, inl, inr, arith}
use Rattle.std.proofs.Common.{true, false, cond, refl, sym, ap, ◌∙◌, subst, is_none, Some}
use Rattle.std.proofs.Common.{List, [], ◌∷◌, length, map, take, get_or, set, replicate, All}
use Rattle.std.proofs.lemmas.Bool.{cases_eq}
use Rattle.std.proofs.lemmas.Bool.Decides.{leb_tells}
use Rattle.std.proofs.lemmas.List.{get_or-set_same, get_or-set_other}
use Rattle.std.proofs.lemmas.List.Elements.{All-cons}
use Rattle.asc_base.specs.TreeShape.{layer_first, parent_of, children_of}
use Rattle.asc_base.specs.declared.block.Counter.{Counter}
use Rattle.asc_base.proofs.Families.{parent_of_child}
use Rattle.posmap_counters.specs.Group.{GroupState, child_counter, first_group, stepped_group}
use Rattle.posmap_counters.specs.Counters.{Counters, counter_at, next_group, next_own, addresses_from, is_among}
use Rattle.posmap_counters.specs.Counters.{Change, Access, MoveChild, RenumberChild, block_of, child_move}
use Rattle.posmap_counters.specs.Counters.{after, changed_counter}
use Rattle.posmap_counters.specs.Families.{HasCounters, HasOneGroup}
use Rattle.posmap_counters.proofs.ChangeLaws.{after_at, after_other}

pub zeros_at : (n k : ℕ) → get_or (replicate n zero) k zero ≡ zero
zeros_at zero k = refl
zeros_at (suc n) zero = refl
zeros_at (suc n) (suc k) = zeros_at n k

-- a counter of this group
abbrev pub under : ℕ → ℕ → Counter
under group own = record { group = group; own = own }

-- at the start
pub start_counters : (first number : ℕ) → HasCounters (counter_at []) first number first_group
unfolding counter_at
start_counters first number = record {
  children = λ child h. ap (under 0) (sym (zeros_at 32 child));
  others = λ child h. zeros_at 32 child;
}

pub one_group : (count : ℕ → Counter) (first number : ℕ) (group : GroupState) → HasCounters count first number group
    → HasOneGroup count first number
one_group count first number group has child h =
    let same : first + 0 ≡ first = omega arith in
    let zeroth = subst (λ a. count a ≡ child_counter group 0) same (has.children 0 (omega arith)) in
    ap (λ (c : Counter). c.group) (has.children child h) ∙ sym (ap (λ (c : Counter). c.group) zeroth)

-- numbers from a first one on
pub all_from : (P : ℕ → Type 0) (first number : ℕ) → ((j : ℕ) → j < number → P (first + j))
    → All P (addresses_from first number)
unfolding addresses_from
all_from P first zero each = λ k d h. absurd (omega arith)
all_from P first (suc number) each =
    All-cons P first (addresses_from (first + 1) number)
    (let same : first + 0 ≡ first = omega arith in subst P same (each 0 (omega arith)))
    (all_from P (first + 1) number
    (λ j h. let same : first + (j + 1) ≡ first + 1 + j = omega arith in subst P same (each (j + 1) (omega arith))))

pub length-addresses : (first number : ℕ) → length (addresses_from first number) ≡ number
unfolding addresses_from
length-addresses first zero = refl
length-addresses first (suc number) = ap suc (length-addresses (first + 1) number)

pub take_moves : (held : List ℕ) (first done number : ℕ) → done ≤ number
    → take done (map (child_move held) (addresses_from first number))
    ≡ map (child_move held) (addresses_from first done)
unfolding addresses_from
take_moves held first zero number h = refl
take_moves held first (suc done) zero h = absurd (omega arith)
take_moves held first (suc done) (suc number) h =
    ap (λ rest. child_move held first ∷ rest) (take_moves held (first + 1) done number (omega arith))

-- which block a child's part of a group move changes
pub block_of-child : (held : List ℕ) (child : ℕ) → block_of (child_move held child) ≡ child
block_of-child held child = by (is_among held child)
  where
    by : (is : _) → block_of (cond is (RenumberChild child) (MoveChild child)) ≡ child
    by true = refl
    by false = refl

module _ (lines layers : ℕ) where
  pub child_moved : (counters : Counters) (held : List ℕ) (child : ℕ)
      → changed_counter lines layers counters (child_move held child) ≡ next_group (counter_at counters child)
  child_moved counters held child = by (is_among held child)
    where
      by : (is : _) → changed_counter lines layers counters (cond is (RenumberChild child) (MoveChild child))
          ≡ next_group (counter_at counters child)
      by true = refl
      by false = refl

  -- a child's part of a group move gives it the next group counter, and leaves the others
  pub moves_at : (counters : Counters) (held : List ℕ) (child : ℕ)
      → counter_at (after lines layers counters (child_move held child)) child ≡ next_group (counter_at counters child)
  moves_at counters held child =
      subst (λ x. counter_at (after lines layers counters (child_move held child)) x
      ≡ changed_counter lines layers counters (child_move held child))
      (block_of-child held child) (after_at lines layers counters (child_move held child))
      ∙ child_moved counters held child

  pub moves_other : (counters : Counters) (held : List ℕ) (child b : ℕ) → b ≢ child
      → counter_at (after lines layers counters (child_move held child)) b ≡ counter_at counters b
  moves_other counters held child b other =
      after_other lines layers counters (child_move held child) b (λ e. other (e ∙ block_of-child held child))

  -- changes of other families
  pub other_family : (counters : Counters) (change : Change) (q first number : ℕ)
      → q < layer_first lines layers → children_of lines layers q ≡ Some (first, number)
      → parent_of lines layers (block_of change) ≢ Some q → (child : ℕ) → child < number
      → counter_at (after lines layers counters change) (first + child) ≡ counter_at counters (first + child)
  other_family counters change q first number inside children apart child h =
      let above = (parent_of_child lines layers q first number child inside children h).0 in
      after_other lines layers counters change (first + child)
      (λ same. apart (subst (λ x. parent_of lines layers x ≡ Some q) same above))

  pub counters_stay : (counters : Counters) (change : Change) (q first number : ℕ) (group : GroupState)
      → q < layer_first lines layers → children_of lines layers q ≡ Some (first, number)
      → parent_of lines layers (block_of change) ≢ Some q → HasCounters (counter_at counters) first number group
      → HasCounters (counter_at (after lines layers counters change)) first number group
  counters_stay counters change q first number group inside children apart has = record {
    children = λ child h. other_family counters change q first number inside children apart child h
        ∙ has.children child h;
    others = has.others;
  }

  -- an access to a child
  pub step_counters : (counters : Counters) (ic first number child : ℕ) (group : GroupState)
      → child < number → number ≤ length group.own → is_none (parent_of lines layers (first + child)) ≡ false
      → get_or group.own child 0 < 2 ^ ic - 1 → HasCounters (counter_at counters) first number group
      → HasCounters (counter_at (after lines layers counters (Access (first + child)))) first number
      (stepped_group ic group child)
  step_counters counters ic first number child group within few below room has =
      elim (leb_tells (2 ^ ic - 1) (get_or group.own child 0)) [
        | inl full ↦ absurd (omega arith)
        | inr rest ↦ subst (HasCounters (counter_at (after lines layers counters (Access (first + child)))) first
            number)
            (sym (ap (λ full. cond full group now) rest.0)) stepped
      ]
    where
      now : GroupState
      now = record { group = group.group; own = set group.own child (get_or group.own child 0 + 1) }

      here : counter_at (after lines layers counters (Access (first + child))) (first + child)
          ≡ under group.group (get_or group.own child 0 + 1)
      here =
          after_at lines layers counters (Access (first + child))
          ∙ ap (λ top. cond top (next_group (counter_at counters (first + child)))
          (next_own (counter_at counters (first + child)))) below
          ∙ ap next_own (has.children child within)

      stepped : HasCounters (counter_at (after lines layers counters (Access (first + child)))) first number now
      stepped = record {
        children = λ k h. elim (cases_eq k child) [
          | inl same ↦ rw same (here ∙ ap (under group.group)
              (sym (get_or-set_same group.own child (get_or group.own child 0 + 1) 0 (omega arith))))
          | inr other ↦ after_other lines layers counters (Access (first + child)) (first + k)
              (λ e. other (omega arith))
              ∙ has.children k h
              ∙ ap (under group.group) (sym (get_or-set_other group.own child k (get_or group.own child 0 + 1) 0 other))
        ];
        others = λ k h. get_or-set_other group.own child k (get_or group.own child 0 + 1) 0 (λ e. absurd (omega arith))
            ∙ has.others k h;
      }
