-- A group move, a child at a time.
use Rattle.std.proofs.Common.{◌≡◌, ◌≢◌, ℕ, zero, suc, ◌+◌, ◌%◌, ◌^◌, ◌<◌, ◌≤◌, inl, inr, arith}
use Rattle.std.proofs.Common.{Bool, true, false, cond, refl, sym, ap, ◌∙◌, subst, not, Some}
use Rattle.std.proofs.Common.{List, [], ◌∷◌, ◌++◌, length, map, filter, take, All}
use Rattle.std.specs.List.{range_with_len}
use Rattle.std.proofs.lemmas.Bool.{cases_lt}
use Rattle.std.proofs.lemmas.List.{take_all}
use Rattle.std.proofs.lemmas.List.Elements.{All-map}
use Rattle.asc_base.specs.TreeShape.{layer_first, parent_of, children_of}
use Rattle.asc_base.specs.declared.block.Point.{Point}
use Rattle.asc_base.proofs.Families.{parent_of_child, child_of_parent}
use Rattle.asc_base.proofs.Lookups.{some_is}
use Rattle.posmap_counters.specs.Group.{GroupState, child_counter, moved_group}
use Rattle.posmap_counters.specs.Counters.{Counters, counter_at, next_group, point_of, addresses_from, is_among}
use Rattle.posmap_counters.specs.Counters.{MoveChild, RenumberChild, block_of, child_move, siblings}
use Rattle.posmap_counters.specs.Counters.{after, after_all, points, all_points, group_move}
use Rattle.posmap_counters.specs.Families.{HasCounters, IsMoving, move_points}
use Rattle.posmap_counters.proofs.ChangeLaws.{All-to, after_others}
use Rattle.posmap_counters.proofs.FamilyLaws.{zeros_at, under, all_from, length-addresses, take_moves}
use Rattle.posmap_counters.proofs.FamilyLaws.{block_of-child, moves_at, moves_other}

-- nothing is moved yet
pub move_begins : (count : ℕ → _) (first number : ℕ) (group : GroupState) → HasCounters count first number group
    → IsMoving count first number 0 group
move_begins count first number group has = record {
  moved = λ child h. absurd (omega arith);
  left = λ child from h. has.children child h;
}

-- all are moved
pub move_ends : (count : ℕ → _) (first number : ℕ) (group : GroupState) → IsMoving count first number number group
    → HasCounters count first number (moved_group group)
move_ends count first number group moving = record {
  children = λ child h. moving.moved child h ∙ ap (under ((group.group + 1) % 2 ^ 64)) (sym (zeros_at 32 child));
  others = λ child h. zeros_at 32 child;
}

-- the points of so many children from one on, by the group
abbrev shown_from : ℕ → ℕ → ℕ → GroupState → List ℕ → List Point
shown_from first done more group held =
    map (λ child. point_of (first + child) (child_counter group child))
    (filter (λ child. not (is_among held (first + child))) (range_with_len done more))

-- with one child more in front
shown_more : (first done more : ℕ) (group : GroupState) (held : List ℕ) (is : Bool) → is_among held (first + done) ≡ is
    → shown_from first done (suc more) group held
    ≡ cond is (shown_from first (done + 1) more group held)
    (point_of (first + done) (child_counter group done) ∷ shown_from first (done + 1) more group held)
shown_more first done more group held true is = rw is refl
shown_more first done more group held false is = rw is refl

module _ (lines layers : ℕ) where
  -- one more
  pub child_moves : (counters : Counters) (first number done : ℕ) (group : GroupState) (held : List ℕ) → done < number
      → IsMoving (counter_at counters) first number done group
      → IsMoving (counter_at (after lines layers counters (child_move held (first + done)))) first number
      (done + 1) group
  child_moves counters first number done group held within moving = record {
    moved = λ child h. elim (cases_lt child done) [
      | inl before ↦ moves_other lines layers counters held (first + done) (first + child) (λ e. absurd (omega arith))
          ∙ moving.moved child before
      | inr rest ↦
          let same : child ≡ done = omega arith in
          rw same (moves_at lines layers counters held (first + done)
          ∙ ap next_group (moving.left done (omega arith) within))
    ];
    left = λ child from h.
        moves_other lines layers counters held (first + done) (first + child) (λ e. absurd (omega arith))
        ∙ moving.left child (omega arith) h;
  }

  -- so many more
  children_move : (counters : Counters) (first number done more : ℕ) (group : GroupState) (held : List ℕ)
      → done + more ≤ number
      → IsMoving (counter_at counters) first number done group
      → IsMoving (counter_at (after_all lines layers counters
      (map (child_move held) (addresses_from (first + done) more))))
      first number (done + more) group
  unfolding after_all addresses_from
  children_move counters first number done zero group held within moving =
      let same : done ≡ done + 0 = omega arith in
      subst (λ n. IsMoving (counter_at counters) first number n group) same moving
  children_move counters first number done (suc more) group held within moving =
      let next : Counters = after lines layers counters (child_move held (first + done)) in
      let same : done + 1 + more ≡ done + suc more = omega arith in
      let place : first + (done + 1) ≡ first + done + 1 = omega arith in
      subst (λ n. IsMoving
      (counter_at (after_all lines layers next (map (child_move held) (addresses_from (first + done + 1) more)))) first
      number n group)
      same
      (subst (λ a. IsMoving (counter_at (after_all lines layers next (map (child_move held) (addresses_from a more))))
      first number (done + 1 + more) group) place
      (children_move next first number (done + 1) more group held (omega arith)
      (child_moves counters first number done group held (omega arith) moving)))

  -- the siblings of a block by its parent
  pub siblings-parent : (a parent first number : ℕ) → parent_of lines layers a ≡ Some parent
      → children_of lines layers parent ≡ Some (first, number) → siblings lines layers a ≡ addresses_from first number
  unfolding siblings
  siblings-parent a parent first number above children = rw (above, children) refl

  pub move_is : (held : List ℕ) (a parent first number : ℕ) → parent_of lines layers a ≡ Some parent
      → children_of lines layers parent ≡ Some (first, number)
      → group_move lines layers held a ≡ map (child_move held) (addresses_from first number)
  unfolding group_move
  move_is held a parent first number above children =
      ap (map (child_move held)) (siblings-parent a parent first number above children)

  pub length-move : (held : List ℕ) (a parent first number : ℕ) → parent_of lines layers a ≡ Some parent
      → children_of lines layers parent ≡ Some (first, number) → length (group_move lines layers held a) ≡ number
  length-move held a parent first number above children =
      ap length (move_is held a parent first number above children)
      ∙ length-map (addresses_from first number) ∙ length-addresses first number
    where
      length-map : (xs : List ℕ) → length (map (child_move held) xs) ≡ length xs
      length-map [] = refl
      length-map (x ∷ xs) = ap suc (length-map xs)

  -- each prefix of a group move has its counters
  pub prefix_moves : (counters : Counters) (a parent first number done : ℕ) (group : GroupState) (held : List ℕ)
      → parent_of lines layers a ≡ Some parent → children_of lines layers parent ≡ Some (first, number) → done ≤ number
      → HasCounters (counter_at counters) first number group
      → IsMoving (counter_at (after_all lines layers counters (take done (group_move lines layers held a)))) first
      number done group
  prefix_moves counters a parent first number done group held above children within has =
      let cut : take done (group_move lines layers held a) ≡ map (child_move held) (addresses_from first done) =
      ap (take done) (move_is held a parent first number above children) ∙ take_moves held first done number within in
      let from : first + 0 ≡ first = omega arith in
      let count : 0 + done ≡ done = omega arith in
      subst (λ changes. IsMoving (counter_at (after_all lines layers counters changes)) first number done group)
      (sym cut)
      (subst (λ x. IsMoving (counter_at (after_all lines layers counters
      (map (child_move held) (addresses_from x done)))) first number done group) from
      (subst (λ n. IsMoving (counter_at (after_all lines layers counters
      (map (child_move held) (addresses_from (first + 0) done)))) first number n group) count
      (children_move counters first number 0 done group held (omega arith)
      (move_begins (counter_at counters) first number group has))))

  -- a whole one has those of the moved group
  pub move_counters : (counters : Counters) (a parent first number : ℕ) (group : GroupState) (held : List ℕ)
      → parent_of lines layers a ≡ Some parent → children_of lines layers parent ≡ Some (first, number)
      → HasCounters (counter_at counters) first number group
      → HasCounters (counter_at (after_all lines layers counters (group_move lines layers held a))) first number
      (moved_group group)
  move_counters counters a parent first number group held above children has =
      let size = length-move held a parent first number above children in
      let all : take number (group_move lines layers held a) ≡ group_move lines layers held a =
      take_all number (group_move lines layers held a) (omega arith) in
      subst (λ changes. HasCounters (counter_at (after_all lines layers counters changes)) first number
      (moved_group group)) all
      (move_ends (counter_at (after_all lines layers counters (take number (group_move lines layers held a)))) first
      number group
      (prefix_moves counters a parent first number number group held above children (omega arith) has))

  -- the point of one child, and those of the children after it
  point_more : (counters : Counters) (first done more : ℕ) (group : GroupState) (held : List ℕ)
      → counter_at counters (first + done) ≡ child_counter group done
      → all_points lines layers (after lines layers counters (child_move held (first + done)))
      (map (child_move held) (addresses_from (first + done + 1) more))
      ≡ shown_from first (done + 1) more group held
      → points lines layers counters (child_move held (first + done))
      ++ all_points lines layers (after lines layers counters (child_move held (first + done)))
      (map (child_move held) (addresses_from (first + done + 1) more))
      ≡ shown_from first done (suc more) group held
  unfolding points
  point_more counters first done more group held here later = by (is_among held (first + done)) refl
    where
      rest : List Point
      rest = all_points lines layers (after lines layers counters (child_move held (first + done)))
          (map (child_move held) (addresses_from (first + done + 1) more))

      by : (is : Bool) → is_among held (first + done) ≡ is
          → points lines layers counters (child_move held (first + done)) ++ rest
          ≡ shown_from first done (suc more) group held
      by true is =
          ap (λ b. points lines layers counters (cond b (RenumberChild (first + done)) (MoveChild (first + done)))
          ++ rest) is
          ∙ later ∙ sym (shown_more first done more group held true is)
      by false is =
          ap (λ b. points lines layers counters (cond b (RenumberChild (first + done)) (MoveChild (first + done)))
          ++ rest) is
          ∙ ap (λ c. point_of (first + done) c ∷ rest) here
          ∙ ap (λ points. point_of (first + done) (child_counter group done) ∷ points) later
          ∙ sym (shown_more first done more group held false is)

  points_from : (counters : Counters) (first number done more : ℕ) (group : GroupState) (held : List ℕ)
      → done + more ≤ number
      → IsMoving (counter_at counters) first number done group
      → all_points lines layers counters (map (child_move held) (addresses_from (first + done) more))
      ≡ shown_from first done more group held
  unfolding all_points addresses_from
  points_from counters first number done zero group held within moving = refl
  points_from counters first number done (suc more) group held within moving =
      let next : Counters = after lines layers counters (child_move held (first + done)) in
      let place : first + (done + 1) ≡ first + done + 1 = omega arith in
      point_more counters first done more group held (moving.left done (omega arith) (omega arith))
      (subst (λ a. all_points lines layers next (map (child_move held) (addresses_from a more))
      ≡ shown_from first (done + 1) more group held) place
      (points_from next first number (done + 1) more group held (omega arith)
      (child_moves counters first number done group held (omega arith) moving)))

  -- the points of a group move, by the group
  pub points_of_move : (counters : Counters) (a parent first number : ℕ) (group : GroupState) (held : List ℕ)
      → parent_of lines layers a ≡ Some parent → children_of lines layers parent ≡ Some (first, number)
      → HasCounters (counter_at counters) first number group
      → all_points lines layers counters (group_move lines layers held a) ≡ move_points held first number group
  points_of_move counters a parent first number group held above children has =
      let from : first + 0 ≡ first = omega arith in
      ap (all_points lines layers counters) (move_is held a parent first number above children)
      ∙ subst (λ x. all_points lines layers counters (map (child_move held) (addresses_from x number))
      ≡ move_points held first number group) from
      (points_from counters first number 0 number group held (omega arith)
      (move_begins (counter_at counters) first number group has))

  -- the siblings of a block have its parent
  pub siblings_under : (a parent : ℕ) → a < layer_first lines layers → parent_of lines layers a ≡ Some parent
      → All (λ sibling. parent_of lines layers sibling ≡ Some parent) (siblings lines layers a)
  siblings_under a parent inside above =
      let up = child_of_parent lines layers a parent inside above in
      let first : ℕ = up.0 in
      let number : ℕ = up.1 in
      let children : children_of lines layers parent ≡ Some (first, number) = up.2 in
      let within : parent < layer_first lines layers = up.5 in
      subst (λ xs. All (λ c. parent_of lines layers c ≡ Some parent) xs)
      (sym (siblings-parent a parent first number above children))
      (all_from (λ c. parent_of lines layers c ≡ Some parent) first number
      (λ j h. (parent_of_child lines layers parent first number j within children h).0))

  -- changes of a group move are of children of its parent
  pub move_under : (held : List ℕ) (a parent : ℕ) → a < layer_first lines layers
      → parent_of lines layers a ≡ Some parent
      → All (λ change. parent_of lines layers (block_of change) ≡ Some parent) (group_move lines layers held a)
  unfolding group_move
  move_under held a parent inside above =
      All-map (λ change. parent_of lines layers (block_of change) ≡ Some parent) (child_move held)
      (siblings lines layers a)
      (All-to (λ c. parent_of lines layers c ≡ Some parent) (λ c. parent_of lines layers (block_of (child_move held c))
      ≡ Some parent)
      (siblings lines layers a) (siblings_under a parent inside above)
      (λ c is. ap (parent_of lines layers) (block_of-child held c) ∙ is))

  -- so it leaves all others
  pub move_others : (counters : Counters) (held : List ℕ) (a parent b : ℕ) → a < layer_first lines layers
      → parent_of lines layers a ≡ Some parent → parent_of lines layers b ≢ Some parent
      → counter_at (after_all lines layers counters (group_move lines layers held a)) b ≡ counter_at counters b
  move_others counters held a parent b inside above apart =
      after_others lines layers counters (group_move lines layers held a) b
      (All-to (λ change. parent_of lines layers (block_of change) ≡ Some parent) (λ change. b ≢ block_of change)
      (group_move lines layers held a) (move_under held a parent inside above)
      (λ change under same. apart (ap (parent_of lines layers) same ∙ under)))

  pub move_leaves : (counters : Counters) (held : List ℕ) (a parent q first number : ℕ) (group : GroupState)
      → a < layer_first lines layers → parent_of lines layers a ≡ Some parent → q < layer_first lines layers
      → children_of lines layers q ≡ Some (first, number) → q ≢ parent
      → HasCounters (counter_at counters) first number group
      → HasCounters (counter_at (after_all lines layers counters (group_move lines layers held a))) first number group
  move_leaves counters held a parent q first number group inside above inside_q children apart has = record {
    children = λ child h.
        let under_q = (parent_of_child lines layers q first number child inside_q children h).0 in
        move_others counters held a parent (first + child) inside above (λ e. apart (some_is (sym under_q ∙ e)))
        ∙ has.children child h;
    others = has.others;
  }
