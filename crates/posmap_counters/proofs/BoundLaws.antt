-- Counters stay bounded: by the number of accesses, and their own counts by their bits.
use Rattle.std.proofs.Common.{◌≡◌, ◌≢◌, ℕ, zero, suc, ◌+◌, ◌-◌, ◌^◌, ◌<◌, ◌≤◌, inl, inr, arith, refl, sym, ap, ◌∙◌}
use Rattle.std.proofs.Common.{subst}
use Rattle.std.proofs.Common.{Bool, true, false, cond, List, [], ◌∷◌, ◌++◌, length, get_or, map, Option, None, Some}
use Rattle.std.proofs.Common.{is_none}
use Rattle.std.specs.Bool.{OnTrue}
use Rattle.std.proofs.Math.Nat.{mod-le}
use Rattle.std.proofs.lemmas.Bool.{cases_eq, cases_lt}
use Rattle.std.proofs.lemmas.List.{length-append}
use Rattle.asc_base.specs.TreeShape.{layer_first, parent_of, children_of, child_index_of}
use Rattle.asc_base.specs.declared.block.Counter.{Counter}
use Rattle.asc_base.proofs.Families.{parent_of_child, child_of_parent, children_few}
use Rattle.asc_base.proofs.Lookups.{some_is, none_is_not}
use Rattle.posmap_counters.specs.Bounds.{AreCounters}
use Rattle.posmap_counters.specs.Group.{GroupState, moved_group}
use Rattle.posmap_counters.specs.Counters.{Counters, counter_at, next_group, next_own, addresses_from, is_among}
use Rattle.posmap_counters.specs.Counters.{Change, Access, MoveChild, RenumberChild, block_of, changed_counter}
use Rattle.posmap_counters.specs.Counters.{child_move}
use Rattle.posmap_counters.specs.Counters.{after, after_all, points, all_points, HasRoom, NoneWraps, group_move}
use Rattle.posmap_counters.specs.Counters.{asked_changes}
use Rattle.posmap_counters.specs.Families.{HasCounters, HasOneGroup, IsMoving, family_group}
use Rattle.posmap_counters.proofs.ChangeLaws.{after_at, after_other, counters_join, points_join, room_joins}
use Rattle.posmap_counters.proofs.FamilyLaws.{zeros_at, one_group}
use Rattle.posmap_counters.proofs.FamilyLines.{family_has}
use Rattle.posmap_counters.proofs.MoveLaws.{move_begins, child_moves, move_is, move_counters}
use Rattle.posmap_counters.proofs.AskedLaws.{some_room, asked-full, asked-room}

pub start_bounded : (lines layers ic : ℕ) → AreCounters lines layers ic (counter_at []) None 0
unfolding counter_at
start_bounded lines layers ic = record {
  few = λ a. omega arith;
  own = λ a. omega arith;
  top = λ a inside none. refl;
  families = λ parent first number inside children still child within. refl;
}

-- a move begins, and ends once its family has one group counter
pub move_opens : (lines layers ic : ℕ) (count : ℕ → Counter) (p accesses : ℕ)
    → AreCounters lines layers ic count None accesses
    → AreCounters lines layers ic count (Some p) accesses
move_opens lines layers ic count p accesses are = record {
  few = are.few;
  own = are.own;
  top = are.top;
  families = λ parent first number inside children still. are.families parent first number inside children none_is_not;
}

pub move_closes : (lines layers ic : ℕ) (count : ℕ → Counter) (p first number accesses : ℕ)
    → children_of lines layers p ≡ Some (first, number)
    → HasOneGroup count first number → AreCounters lines layers ic count (Some p) accesses
    → AreCounters lines layers ic count None accesses
move_closes lines layers ic count p first number accesses children one are = record {
  few = are.few;
  own = are.own;
  top = are.top;
  families = λ parent f n inside of_parent still. elim (cases_eq p parent) [
    | inl same ↦ family parent f n (sym of_parent ∙ ap (children_of lines layers) (sym same) ∙ children)
    | inr other ↦ are.families parent f n inside of_parent (λ e. other (some_is e))
  ];
}
  where
    pair_is : {x y : ℕ × ℕ} → Some x ≡ Some y → x ≡ y
    pair_is e = cc

    family : (parent f n : ℕ) → ◌≡◌ {A = Option (ℕ × ℕ)} (Some (f, n)) (Some (first, number)) → HasOneGroup count f n
    family parent f n same =
        let both = pair_is same in
        subst (λ (x : ℕ × ℕ). HasOneGroup count x.0 x.1) (sym both) one

-- the next group counter is one more at most
next-le : (c : Counter) → (next_group c).group ≤ c.group + 1
next-le c = mod-le (c.group + 1) (2 ^ 64)

module _ (lines layers ic : ℕ) where
  -- a change that gives its block a counter within the bounds
  bounded : (counters : Counters) (change : Change) (moving : Option ℕ) (n m : ℕ) → n ≤ m
      → (changed_counter lines layers counters change).group + (changed_counter lines layers counters change).own ≤ m
      → (changed_counter lines layers counters change).own ≤ 2 ^ ic - 1
      → (block_of change < layer_first lines layers → parent_of lines layers (block_of change) ≡ None
      → (changed_counter lines layers counters change).own ≡ 0)
      → ((parent : ℕ) → parent_of lines layers (block_of change) ≡ Some parent → moving ≢ Some parent
      → (changed_counter lines layers counters change).group ≡ (counter_at counters (block_of change)).group)
      → AreCounters lines layers ic (counter_at counters) moving n
      → AreCounters lines layers ic (counter_at (after lines layers counters change)) moving m
  bounded counters change moving n m more sum own top group are = record {
    few = λ a. elim (cases_eq a (block_of change)) [
      | inl same ↦ subst (λ x. (now x).group + (now x).own ≤ m) (sym same)
          (subst (λ (c : Counter). c.group + c.own ≤ m) (sym here) sum)
      | inr other ↦ subst (λ (c : Counter). c.group + c.own ≤ m) (sym (there a other))
          (let h : (counter_at counters a).group + (counter_at counters a).own ≤ n = are.few a in omega arith)
    ];
    own = λ a. elim (cases_eq a (block_of change)) [
      | inl same ↦ subst (λ x. (now x).own ≤ 2 ^ ic - 1) (sym same)
          (subst (λ (c : Counter). c.own ≤ 2 ^ ic - 1) (sym here) own)
      | inr other ↦ subst (λ (c : Counter). c.own ≤ 2 ^ ic - 1) (sym (there a other)) (are.own a)
    ];
    top = λ a inside none. elim (cases_eq a (block_of change)) [
      | inl same ↦ subst (λ x. (now x).own ≡ 0) (sym same) (ap (λ (c : Counter). c.own) here
          ∙ top (subst (λ x. x < layer_first lines layers) same inside) (ap (parent_of lines layers) (sym same) ∙ none))
      | inr other ↦ ap (λ (c : Counter). c.own) (there a other) ∙ are.top a inside none
    ];
    families = λ parent first number inside children still child within.
        let some : first + 0 ≡ first = omega arith in
        let zeroth = subst (λ x. (now x).group ≡ (counter_at counters x).group) some
        (kept parent first number 0 inside children still (omega arith)) in
        kept parent first number child inside children still within
        ∙ are.families parent first number inside children still child within ∙ sym zeroth;
  }
    where
      now : ℕ → Counter
      now = counter_at (after lines layers counters change)

      here : now (block_of change) ≡ changed_counter lines layers counters change
      here = after_at lines layers counters change

      there : (a : ℕ) → a ≢ block_of change → now a ≡ counter_at counters a
      there a other = after_other lines layers counters change a other

      -- group counters stay, unless the family is moving
      kept : (parent first number child : ℕ) → parent < layer_first lines layers
          → children_of lines layers parent ≡ Some (first, number)
          → moving ≢ Some parent → child < number
          → (now (first + child)).group ≡ (counter_at counters (first + child)).group
      kept parent first number child inside children still within =
          elim (cases_eq (first + child) (block_of change)) [
            | inl same ↦
                let above = (parent_of_child lines layers parent first number child inside children within).0 in
                ap (λ (c : Counter). c.group) (ap now same ∙ here)
                ∙ group parent (ap (parent_of lines layers) (sym same) ∙ above) still
                ∙ ap (λ x. (counter_at counters x).group) (sym same)
            | inr other ↦ ap (λ (c : Counter). c.group) (there (first + child) other)
          ]

  -- an access to a block that has room
  pub access_bounded : (counters : Counters) (a n : ℕ) → a < layer_first lines layers
      → (counter_at counters a).own < 2 ^ ic - 1
      → AreCounters lines layers ic (counter_at counters) None n
      → AreCounters lines layers ic (counter_at (after lines layers counters (Access a))) None (n + 1)
  access_bounded counters a n inside room are = by (parent_of lines layers a) refl
    where
      few : (counter_at counters a).group + (counter_at counters a).own ≤ n
      few = are.few a

      is : (top : Bool) → is_none (parent_of lines layers a) ≡ top
          → changed_counter lines layers counters (Access a)
          ≡ cond top (next_group (counter_at counters a)) (next_own (counter_at counters a))
      is top same = ap (λ b. cond b (next_group (counter_at counters a)) (next_own (counter_at counters a))) same

      by : (o : Option ℕ) → parent_of lines layers a ≡ o
          → AreCounters lines layers ic (counter_at (after lines layers counters (Access a))) None (n + 1)
      by None none =
          let to = is true (ap is_none none) in
          bounded counters (Access a) None n (n + 1) (omega arith)
          (subst (λ (c : Counter). c.group + c.own ≤ n + 1) (sym to)
          (omega (arith, next-le (counter_at counters a), few)))
          (subst (λ (c : Counter). c.own ≤ 2 ^ ic - 1) (sym to) (omega arith))
          (λ inside none. ap (λ (c : Counter). c.own) to)
          (λ parent above still. absurd (none_is_not (sym none ∙ above)))
          are
      by (Some p) some =
          let to = is false (ap is_none some) in
          bounded counters (Access a) None n (n + 1) (omega arith)
          (subst (λ (c : Counter). c.group + c.own ≤ n + 1) (sym to) (omega (arith, few)))
          (subst (λ (c : Counter). c.own ≤ 2 ^ ic - 1) (sym to) (omega (arith, room)))
          (λ inside none. absurd (none_is_not (sym none ∙ some)))
          (λ parent above still. ap (λ (c : Counter). c.group) to)
          are

  some_apart : (p parent a : ℕ) → parent_of lines layers a ≡ Some p → parent_of lines layers a ≡ Some parent
      → Some p ≢ Some parent → ⊥
  some_apart p parent a of_p of_parent other = other (sym of_p ∙ of_parent)

  -- a child of a moving family
  pub child_bounded : (counters : Counters) (a p n : ℕ) → parent_of lines layers a ≡ Some p
      → AreCounters lines layers ic (counter_at counters) (Some p) n
      → AreCounters lines layers ic (counter_at (after lines layers counters (MoveChild a))) (Some p) (n + 1)
  child_bounded counters a p n above are =
      let few : (counter_at counters a).group + (counter_at counters a).own ≤ n = are.few a in
      bounded counters (MoveChild a) (Some p) n (n + 1) (omega arith)
      (omega (arith, next-le (counter_at counters a), few)) (omega arith) (λ inside none. refl)
      (λ parent of_parent still. absurd (some_apart p parent a above of_parent still))
      are

  -- one that is renumbered: its group counter is below the number of accesses
  pub renumber_bounded : (counters : Counters) (a p n : ℕ) → parent_of lines layers a ≡ Some p
      → (counter_at counters a).group < n
      → AreCounters lines layers ic (counter_at counters) (Some p) n
      → AreCounters lines layers ic (counter_at (after lines layers counters (RenumberChild a))) (Some p) n
  renumber_bounded counters a p n above low are =
      bounded counters (RenumberChild a) (Some p) n n (omega arith)
      (omega (arith, next-le (counter_at counters a), low)) (omega arith) (λ inside none. refl)
      (λ parent of_parent still. absurd (some_apart p parent a above of_parent still))
      are

  -- changes that stay within bounds and wrap nothing
  record StayBounded (counters : Counters) (moving : Option ℕ) (n : ℕ) (changes : List Change) : Type 0 where
    pub bounds : AreCounters lines layers ic (counter_at (after_all lines layers counters changes)) moving
        (n + length (all_points lines layers counters changes))
    pub room : n + length (all_points lines layers counters changes) < 2 ^ 64 → NoneWraps lines layers counters changes

  stay_none : (counters : Counters) (moving : Option ℕ) (n : ℕ)
      → AreCounters lines layers ic (counter_at counters) moving n
      → StayBounded counters moving n []
  unfolding after_all all_points
  stay_none counters moving n are = record {
    bounds = let same : n ≡ n + 0 = omega arith in
        subst (λ m. AreCounters lines layers ic (counter_at counters) moving m) same are;
    room = λ low. tt;
  }

  stay_more : (counters : Counters) (change : Change) (moving : Option ℕ) (n : ℕ) (rest : List Change)
      → (n + length (points lines layers counters change) < 2 ^ 64 → HasRoom lines layers counters change)
      → StayBounded (after lines layers counters change) moving (n + length (points lines layers counters change)) rest
      → StayBounded counters moving n (change ∷ rest)
  unfolding after_all all_points
  stay_more counters change moving n rest has stay =
      let next : Counters = after lines layers counters change in
      let here : ℕ = length (points lines layers counters change) in
      let later : ℕ = length (all_points lines layers next rest) in
      let long : length (points lines layers counters change ++ all_points lines layers next rest) ≡ here + later =
      length-append (points lines layers counters change) (all_points lines layers next rest) in
      let sum : n + here + later ≡ n + length (points lines layers counters change ++ all_points lines layers next rest)
      = omega arith in
      record {
        bounds = subst (λ m. AreCounters lines layers ic (counter_at (after_all lines layers next rest)) moving m) sum
            stay.bounds;
        room = λ low. (has (omega arith), stay.room (omega arith));
      }

  stay_joins : (counters : Counters) (m moving : Option ℕ) (n : ℕ) (xs ys : List Change) → StayBounded counters m n xs
      → StayBounded (after_all lines layers counters xs) moving (n + length (all_points lines layers counters xs)) ys
      → StayBounded counters moving n (xs ++ ys)
  stay_joins counters m moving n xs ys first second =
      let mid : Counters = after_all lines layers counters xs in
      let long : length (all_points lines layers counters (xs ++ ys))
      ≡ length (all_points lines layers counters xs) + length (all_points lines layers mid ys) =
      ap length (points_join lines layers counters xs ys)
      ∙ length-append (all_points lines layers counters xs) (all_points lines layers mid ys) in
      let sum : n + length (all_points lines layers counters xs) + length (all_points lines layers mid ys)
      ≡ n + length (all_points lines layers counters (xs ++ ys)) = omega arith in
      record {
        bounds = subst (λ now. AreCounters lines layers ic (counter_at now) moving
            (n + length (all_points lines layers counters (xs ++ ys))))
            (sym (counters_join lines layers counters xs ys))
            (subst (λ k. AreCounters lines layers ic (counter_at (after_all lines layers mid ys)) moving k) sum
            second.bounds);
        room = λ low. room_joins lines layers counters xs ys (first.room (omega arith)) (second.room (omega arith));
      }

  -- a child's part of a group move
  move_stays : (counters : Counters) (a p n : ℕ) (moving : Bool) (rest : List Change)
      → parent_of lines layers a ≡ Some p
      → (counter_at counters a).group < n → AreCounters lines layers ic (counter_at counters) (Some p) n
      → ((m : ℕ) → n ≤ m
      → AreCounters lines layers ic (counter_at (after lines layers counters
      (cond moving (RenumberChild a) (MoveChild a)))) (Some p) m
      → StayBounded (after lines layers counters (cond moving (RenumberChild a) (MoveChild a))) (Some p) m rest)
      → StayBounded counters (Some p) n (cond moving (RenumberChild a) (MoveChild a) ∷ rest)
  unfolding points
  move_stays counters a p n true rest above low are then_rest =
      stay_more counters (RenumberChild a) (Some p) n rest (λ few. omega arith)
      (then_rest (n + 0) (omega arith)
      (let same : n ≡ n + 0 = omega arith in
      subst (λ m. AreCounters lines layers ic (counter_at (after lines layers counters (RenumberChild a))) (Some p) m)
      same
      (renumber_bounded counters a p n above low are)))
  move_stays counters a p n false rest above low are then_rest =
      stay_more counters (MoveChild a) (Some p) n rest (λ few. omega arith)
      (then_rest (n + 1) (omega arith) (child_bounded counters a p n above are))

  children_stay : (counters : Counters) (p first number done more n : ℕ) (group : GroupState) (held : List ℕ)
      → p < layer_first lines layers → children_of lines layers p ≡ Some (first, number) → done + more ≤ number
      → group.group < n
      → IsMoving (counter_at counters) first number done group
      → AreCounters lines layers ic (counter_at counters) (Some p) n
      → StayBounded counters (Some p) n (map (child_move held) (addresses_from (first + done) more))
  unfolding addresses_from
  children_stay counters p first number done zero n group held inside children within low moving are =
      stay_none counters (Some p) n are
  children_stay counters p first number done (suc more) n group held inside children within low moving are =
      let next : Counters = after lines layers counters (child_move held (first + done)) in
      let place : first + (done + 1) ≡ first + done + 1 = omega arith in
      let same : (counter_at counters (first + done)).group ≡ group.group =
      ap (λ (c : Counter). c.group) (moving.left done (omega arith) (omega arith)) in
      move_stays counters (first + done) p n (is_among held (first + done))
      (map (child_move held) (addresses_from (first + done + 1) more))
      (parent_of_child lines layers p first number done inside children (omega arith)).0 (omega arith) are
      (λ m over now. subst (λ a. StayBounded next (Some p) m (map (child_move held) (addresses_from a more))) place
      (children_stay next p first number (done + 1) more m group held inside children (omega arith) (omega arith)
      (child_moves lines layers counters first number done group held (omega arith) moving) now))

  access_stays : (counters : Counters) (a n : ℕ) → a < layer_first lines layers
      → (counter_at counters a).own < 2 ^ ic - 1
      → AreCounters lines layers ic (counter_at counters) None n → StayBounded counters None n (Access a ∷ [])
  unfolding points
  access_stays counters a n inside room are =
      stay_more counters (Access a) None n [] has
      (stay_none (after lines layers counters (Access a)) None (n + 1) (access_bounded counters a n inside room are))
    where
      has : n + 1 < 2 ^ 64 → HasRoom lines layers counters (Access a)
      has low = by (is_none (parent_of lines layers a))
        where
          by : (top : Bool) → OnTrue top ((counter_at counters a).group + 1 < 2 ^ 64)
          by true = let few : (counter_at counters a).group + (counter_at counters a).own ≤ n = are.few a in omega arith
          by false = tt

  -- a group move, and then the access
  full_stays : (counters : Counters) (held : List ℕ) (a p n : ℕ) → 1 ≤ ic → a < layer_first lines layers
      → parent_of lines layers a ≡ Some p → 2 ^ ic - 1 ≤ (counter_at counters a).own
      → AreCounters lines layers ic (counter_at counters) None n
      → StayBounded counters None n (group_move lines layers held a ++ Access a ∷ [])
  full_stays counters held a p n some inside above full are =
      stay_joins counters (Some p) None n (group_move lines layers held a) (Access a ∷ []) moved
      (access_stays mid a (n + length (all_points lines layers counters (group_move lines layers held a))) inside room
      (move_closes lines layers ic (counter_at mid) p first number
      (n + length (all_points lines layers counters (group_move lines layers held a))) children
      (one_group (counter_at mid) first number (moved_group group) ended) moved.bounds))
    where
      up : (first : ℕ) × (number : ℕ) × (children_of lines layers p ≡ Some (first, number))
          × (a ≡ first + child_index_of lines layers a)
          × (child_index_of lines layers a < number) × (p < layer_first lines layers)
      up = child_of_parent lines layers a p inside above

      first : ℕ
      first = up.0

      number : ℕ
      number = up.1

      children : children_of lines layers p ≡ Some (first, number)
      children = up.2

      within : p < layer_first lines layers
      within = up.5

      few : number ≤ 32
      few = (children_few lines layers p first number within children).1

      group : GroupState
      group = family_group (counter_at counters) (first, number)

      has : HasCounters (counter_at counters) first number group
      has = family_has (counter_at counters) first number few (are.families p first number within children none_is_not)

      -- the asked block is one of them, so its own count is above 0
      low : group.group < n
      low =
          let here = has.children (child_index_of lines layers a) up.4 in
          let same : (counter_at counters a).group ≡ group.group =
          ap (λ x. (counter_at counters x).group) up.3 ∙ ap (λ (c : Counter). c.group) here in
          let sum : (counter_at counters a).group + (counter_at counters a).own ≤ n = are.few a in
          omega (arith, some_room ic some)

      mid : Counters
      mid = after_all lines layers counters (group_move lines layers held a)

      moved : StayBounded counters (Some p) n (group_move lines layers held a)
      moved =
          let from : first + 0 ≡ first = omega arith in
          subst (StayBounded counters (Some p) n) (sym (move_is lines layers held a p first number above children))
          (subst (λ x. StayBounded counters (Some p) n (map (child_move held) (addresses_from x number))) from
          (children_stay counters p first number 0 number n group held within children (omega arith) low
          (move_begins (counter_at counters) first number group has)
          (move_opens lines layers ic (counter_at counters) p n are)))

      ended : HasCounters (counter_at mid) first number (moved_group group)
      ended = move_counters lines layers counters a p first number group held above children has

      room : (counter_at mid a).own < 2 ^ ic - 1
      room =
          let here = ended.children (child_index_of lines layers a) up.4 in
          let own : (counter_at mid a).own ≡ get_or (moved_group group).own (child_index_of lines layers a) 0 =
          ap (λ x. (counter_at mid x).own) up.3 ∙ ap (λ (c : Counter). c.own) here in
          omega (arith, zeros_at 32 (child_index_of lines layers a), some_room ic some)

  asked_stays : (counters : Counters) (held : List ℕ) (a n : ℕ) → 1 ≤ ic → a < layer_first lines layers
      → AreCounters lines layers ic (counter_at counters) None n
      → StayBounded counters None n (asked_changes lines layers ic held counters a)
  asked_stays counters held a n some inside are =
      elim (cases_lt (counter_at counters a).own (2 ^ ic - 1)) [
        | inl room ↦ subst (StayBounded counters None n) (sym (asked-room lines layers ic counters held a room))
            (access_stays counters a n inside room are)
        | inr full ↦ subst (StayBounded counters None n) (sym (asked-full lines layers ic counters held a full))
            (by (parent_of lines layers a) refl full)
      ]
    where
      by : (o : Option ℕ) → parent_of lines layers a ≡ o → 2 ^ ic - 1 ≤ (counter_at counters a).own
          → StayBounded counters None n (group_move lines layers held a ++ Access a ∷ [])
      by None none full = absurd (omega (arith, are.top a inside none, some_room ic some))
      by (Some p) above full = full_stays counters held a p n some inside above full are

  -- what an access that is asked for changes stays within bounds, and wraps nothing while accesses are few
  pub asked_bounded : (counters : Counters) (held : List ℕ) (a n : ℕ) → 1 ≤ ic → a < layer_first lines layers
      → AreCounters lines layers ic (counter_at counters) None n
      → AreCounters lines layers ic (counter_at (after_all lines layers counters
      (asked_changes lines layers ic held counters a))) None
      (n + length (all_points lines layers counters (asked_changes lines layers ic held counters a)))
  asked_bounded counters held a n some inside are = (asked_stays counters held a n some inside are).bounds

  pub asked_wraps_none : (counters : Counters) (held : List ℕ) (a n : ℕ) → 1 ≤ ic → a < layer_first lines layers
      → AreCounters lines layers ic (counter_at counters) None n
      → n + length (all_points lines layers counters (asked_changes lines layers ic held counters a)) < 2 ^ 64
      → NoneWraps lines layers counters (asked_changes lines layers ic held counters a)
  asked_wraps_none counters held a n some inside are = (asked_stays counters held a n some inside are).room
