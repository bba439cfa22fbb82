-- What a change makes of the counters: of its own block, and of the others. Counters rise, so no point comes twice.
use Rattle.std.proofs.Common.{◌≡◌, ◌≢◌, ℕ, suc, ◌+◌, ◌^◌, ◌<◌, ◌≤◌, ◌==◌, inl, inr, arith}
use Rattle.std.proofs.Common.{Bool, true, false, cond, if◌then◌else◌, refl, sym, ap, ◌∙◌, subst, nat_eq, is_none}
use Rattle.std.proofs.Common.{List, [], ◌∷◌, ◌++◌, length, get_or, All, AllPairs, append_assoc}
use Rattle.std.specs.Bool.{OnTrue}
use Rattle.std.proofs.Math.Nat.{mod-le}
use Rattle.std.proofs.lemmas.Bool.Decides.{eqb_tells}
use Rattle.std.proofs.lemmas.List.Elements.{All-cons, All-head, All-tail, All-append}
use Rattle.std.proofs.lemmas.List.Kept.{AllPairs-cons}
use Rattle.asc_base.specs.TreeShape.{parent_of}
use Rattle.asc_base.specs.declared.block.Counter.{Counter}
use Rattle.asc_base.specs.declared.block.Point.{Point}
use Rattle.asc_base.specs.declared.block.Point.TheVariants.{Real, Dummy}
use Rattle.posmap_counters.specs.Counters.{Counters, counter_at, next_group, next_own, point_of, IsBefore, IsNotAfter}
use Rattle.posmap_counters.specs.Counters.{Change, Access, MoveChild, RenumberChild, block_of, accessed}
use Rattle.posmap_counters.specs.Counters.{changed_counter}
use Rattle.posmap_counters.specs.Counters.{after, after_all, points, all_points, HasRoom, NoneWraps}
use Rattle.posmap_counters.proofs.Order.{before_trans, not_after_trans, before_irreflexive, next_group-before}
use Rattle.posmap_counters.proofs.Order.{next_own-before}

pub All-to : {X : Type 0} (P Q : X → Type 0) (xs : List X) → All P xs → ((x : X) → P x → Q x) → All Q xs
All-to P Q xs all to k d h = to (get_or xs k d) (all k d h)

-- lists without two of one
AllPairs-append : {X : Type 0} (R : X → X → Type 0) (xs ys : List X) → AllPairs R xs → AllPairs R ys
    → All (λ x. All (R x) ys) xs → AllPairs R (xs ++ ys)
AllPairs-append R [] ys first second cross = second
AllPairs-append R (x ∷ xs) ys first second cross =
    AllPairs-cons R x (xs ++ ys)
    (All-append (R x) xs ys (λ k d h. first 0 (suc k) d (omega arith) (omega arith))
    (All-head (λ y. All (R y) ys) x xs cross))
    (AllPairs-append R xs ys (λ i j d p h. first (suc i) (suc j) d (omega arith) (omega arith)) second
    (All-tail (λ y. All (R y) ys) x xs cross))

-- a point's counter is before that which its block now has
IsPassed : Counters → Point → Type 0
IsPassed counters (Real a c) = IsBefore c (counter_at counters a.0)
IsPassed counters (Dummy n) = ⊥

-- and isn't before it
IsAhead : Counters → Point → Type 0
IsAhead counters (Real a c) = IsNotAfter (counter_at counters a.0) c
IsAhead counters (Dummy n) = ⊥

apart : (counters : Counters) (p q : Point) → IsPassed counters p → IsAhead counters q → p ≢ q
unfolding IsPassed IsAhead
apart counters (Real a c) q passed ahead e =
    before_irreflexive c (before_trans c (counter_at counters a.0) c passed
    (let P : Point → Type 0 = IsAhead counters in subst P (sym e) ahead))
apart counters (Dummy n) q passed ahead e = passed

module _ (lines layers : ℕ) where
  -- the counter of each block after a change
  pub after_put : (counters : Counters) (change : Change) (b : ℕ)
      → counter_at (after lines layers counters change) b
      ≡ (if b == block_of change then changed_counter lines layers counters change else counter_at counters b)
  unfolding counter_at after
  after_put counters change b = by (nat_eq b (block_of change)) refl
    where
      by : (same : Bool) → nat_eq b (block_of change) ≡ same
          → counter_at (after lines layers counters change) b
          ≡ (if b == block_of change then changed_counter lines layers counters change else counter_at counters b)
      by true is = rw is refl
      by false is = rw is refl

  pub after_at : (counters : Counters) (change : Change)
      → counter_at (after lines layers counters change) (block_of change) ≡ changed_counter lines layers counters change
  after_at counters change =
      after_put counters change (block_of change)
      ∙ elim (eqb_tells (block_of change) (block_of change)) [
        | inl same ↦ rw same.0 refl
        | inr other ↦ absurd (other.1 refl)
      ]

  pub after_other : (counters : Counters) (change : Change) (b : ℕ) → b ≢ block_of change
      → counter_at (after lines layers counters change) b ≡ counter_at counters b
  after_other counters change b other =
      after_put counters change b
      ∙ elim (eqb_tells b (block_of change)) [
        | inl same ↦ absurd (other same.1)
        | inr apart ↦ rw apart.0 refl
      ]

  pub after_others : (counters : Counters) (changes : List Change) (b : ℕ) → All (λ change. b ≢ block_of change) changes
      → counter_at (after_all lines layers counters changes) b ≡ counter_at counters b
  unfolding after_all
  after_others counters [] b all = refl
  after_others counters (change ∷ changes) b all =
      after_others (after lines layers counters change) changes b (All-tail (λ c. b ≢ block_of c) change changes all)
      ∙ after_other counters change b (All-head (λ c. b ≢ block_of c) change changes all)

  accessed-before : (counters : Counters) (a : ℕ) → HasRoom lines layers counters (Access a)
      → IsBefore (counter_at counters a) (accessed lines layers counters a)
  accessed-before counters a room = by (is_none (parent_of lines layers a)) room
    where
      by : (top : Bool) → OnTrue top ((counter_at counters a).group + 1 < 2 ^ 64)
          → IsBefore (counter_at counters a) (cond top (next_group (counter_at counters a))
          (next_own (counter_at counters a)))
      by true room = next_group-before (counter_at counters a) room
      by false room = next_own-before (counter_at counters a)

  changed-before : (counters : Counters) (change : Change) → HasRoom lines layers counters change
      → IsBefore (counter_at counters (block_of change)) (changed_counter lines layers counters change)
  changed-before counters (Access a) room = accessed-before counters a room
  changed-before counters (MoveChild a) room = next_group-before (counter_at counters a) room
  changed-before counters (RenumberChild a) room = next_group-before (counter_at counters a) room

  -- a change gives its block a later counter
  pub block_rises : (counters : Counters) (change : Change) → HasRoom lines layers counters change
      → IsBefore (counter_at counters (block_of change)) (counter_at (after lines layers counters change)
      (block_of change))
  block_rises counters change room =
      subst (IsBefore (counter_at counters (block_of change))) (sym (after_at counters change))
      (changed-before counters change room)

  -- no counter falls
  pub rises : (counters : Counters) (change : Change) (b : ℕ) → HasRoom lines layers counters change
      → IsNotAfter (counter_at counters b) (counter_at (after lines layers counters change) b)
  rises counters change b room =
      elim (eqb_tells b (block_of change)) [
        | inl same ↦ inr (subst (λ x. IsBefore (counter_at counters x)
            (counter_at (after lines layers counters change) x))
            (sym same.1) (block_rises counters change room))
        | inr other ↦ inl (sym (after_other counters change b other.1))
      ]

  pub all_rise : (counters : Counters) (changes : List Change) (b : ℕ) → NoneWraps lines layers counters changes
      → IsNotAfter (counter_at counters b) (counter_at (after_all lines layers counters changes) b)
  unfolding after_all
  all_rise counters [] b room = inl refl
  all_rise counters (change ∷ changes) b room =
      not_after_trans (counter_at counters b) (counter_at (after lines layers counters change) b)
      (counter_at (after_all lines layers (after lines layers counters change) changes) b)
      (rises counters change b room.0) (all_rise (after lines layers counters change) changes b room.1)

  -- the point of a change is passed by it
  points_passed : (counters : Counters) (change : Change) → HasRoom lines layers counters change
      → All (IsPassed (after lines layers counters change)) (points lines layers counters change)
  unfolding points IsPassed
  points_passed counters (Access a) room =
      All-cons (IsPassed (after lines layers counters (Access a))) (point_of a (counter_at counters a)) []
      (block_rises counters (Access a) room) (λ k d h. absurd (omega arith))
  points_passed counters (MoveChild a) room =
      All-cons (IsPassed (after lines layers counters (MoveChild a))) (point_of a (counter_at counters a)) []
      (block_rises counters (MoveChild a) room) (λ k d h. absurd (omega arith))
  points_passed counters (RenumberChild a) room = λ k d h. absurd (omega arith)

  -- and not before it
  points_ahead : (counters : Counters) (change : Change) → All (IsAhead counters) (points lines layers counters change)
  unfolding points IsAhead
  points_ahead counters (Access a) =
      All-cons (IsAhead counters) (point_of a (counter_at counters a)) [] (inl refl) (λ k d h. absurd (omega arith))
  points_ahead counters (MoveChild a) =
      All-cons (IsAhead counters) (point_of a (counter_at counters a)) [] (inl refl) (λ k d h. absurd (omega arith))
  points_ahead counters (RenumberChild a) = λ k d h. absurd (omega arith)

  -- points that come later aren't before what the map has now
  all_points_ahead : (counters : Counters) (changes : List Change) → NoneWraps lines layers counters changes
      → All (IsAhead counters) (all_points lines layers counters changes)
  unfolding all_points IsAhead
  all_points_ahead counters [] room = λ k d h. absurd (omega arith)
  all_points_ahead counters (change ∷ changes) room =
      let next : Counters = after lines layers counters change in
      All-append (IsAhead counters) (points lines layers counters change) (all_points lines layers next changes)
      (points_ahead counters change)
      (All-to (IsAhead next) (IsAhead counters) (all_points lines layers next changes)
      (all_points_ahead next changes room.1) back)
    where
      back : (p : Point) → IsAhead (after lines layers counters change) p → IsAhead counters p
      back (Real b c) ahead =
          not_after_trans (counter_at counters b.0) (counter_at (after lines layers counters change) b.0) c
          (rises counters change b.0 room.0) ahead
      back (Dummy n) ahead = ahead

  -- a change has one point at most
  points_apart : (counters : Counters) (change : Change) → AllPairs (λ p q. p ≢ q) (points lines layers counters change)
  unfolding points
  points_apart counters (Access a) = λ i j d p h. absurd (omega arith)
  points_apart counters (MoveChild a) = λ i j d p h. absurd (omega arith)
  points_apart counters (RenumberChild a) = λ i j d p h. absurd (omega arith)

  -- no point comes twice
  pub all_points_apart : (counters : Counters) (changes : List Change) → NoneWraps lines layers counters changes
      → AllPairs (λ p q. p ≢ q) (all_points lines layers counters changes)
  unfolding all_points
  all_points_apart counters [] room = λ i j d p h. absurd (omega arith)
  all_points_apart counters (change ∷ changes) room =
      let next : Counters = after lines layers counters change in
      AllPairs-append (λ p q. p ≢ q) (points lines layers counters change) (all_points lines layers next changes)
      (points_apart counters change) (all_points_apart next changes room.1)
      (All-to (IsPassed next) (λ p. All (λ q. p ≢ q) (all_points lines layers next changes))
      (points lines layers counters change) (points_passed counters change room.0)
      (λ p passed. All-to (IsAhead next) (λ q. p ≢ q) (all_points lines layers next changes)
      (all_points_ahead next changes room.1) (λ q. apart next p q passed)))

  -- changes one after another
  pub counters_join : (counters : Counters) (xs ys : List Change)
      → after_all lines layers counters (xs ++ ys) ≡ after_all lines layers (after_all lines layers counters xs) ys
  unfolding after_all
  counters_join counters [] ys = refl
  counters_join counters (x ∷ xs) ys = counters_join (after lines layers counters x) xs ys

  pub points_join : (counters : Counters) (xs ys : List Change)
      → all_points lines layers counters (xs ++ ys)
      ≡ all_points lines layers counters xs ++ all_points lines layers (after_all lines layers counters xs) ys
  unfolding all_points after_all
  points_join counters [] ys = refl
  points_join counters (x ∷ xs) ys =
      ap (λ r. points lines layers counters x ++ r) (points_join (after lines layers counters x) xs ys)
      ∙ sym (append_assoc (points lines layers counters x) (all_points lines layers (after lines layers counters x) xs)
      (all_points lines layers (after_all lines layers (after lines layers counters x) xs) ys))

  pub room_joins : (counters : Counters) (xs ys : List Change) → NoneWraps lines layers counters xs
      → NoneWraps lines layers (after_all lines layers counters xs) ys → NoneWraps lines layers counters (xs ++ ys)
  unfolding after_all
  room_joins counters [] ys first second = second
  room_joins counters (x ∷ xs) ys first second =
      (first.0, room_joins (after lines layers counters x) xs ys first.1 second)

  next_group-le : (c : Counter) (bound : ℕ) → c.group ≤ bound → (next_group c).group ≤ bound + 1
  next_group-le c bound h = omega (arith, mod-le (c.group + 1) (2 ^ 64))

  changed-le : (counters : Counters) (change : Change) (bound : ℕ) → ((a : ℕ) → (counter_at counters a).group ≤ bound)
      → (changed_counter lines layers counters change).group ≤ bound + 1
  changed-le counters (Access a) bound all = by (is_none (parent_of lines layers a))
    where
      by : (top : Bool)
          → (cond top (next_group (counter_at counters a)) (next_own (counter_at counters a))).group ≤ bound + 1
      by true = next_group-le (counter_at counters a) bound (all a)
      by false = let h : (counter_at counters a).group ≤ bound = all a in omega arith
  changed-le counters (MoveChild a) bound all = next_group-le (counter_at counters a) bound (all a)
  changed-le counters (RenumberChild a) bound all = next_group-le (counter_at counters a) bound (all a)

  -- a change raises no group counter by more than one
  rise_one : (counters : Counters) (change : Change) (bound : ℕ) → ((a : ℕ) → (counter_at counters a).group ≤ bound)
      → (b : ℕ) → (counter_at (after lines layers counters change) b).group ≤ bound + 1
  rise_one counters change bound all b =
      let h : (counter_at counters b).group ≤ bound = all b in
      elim (eqb_tells b (block_of change)) [
        | inl same ↦ subst (λ x. (counter_at (after lines layers counters change) x).group ≤ bound + 1) (sym same.1)
            (subst (λ (c : Counter). c.group ≤ bound + 1) (sym (after_at counters change))
            (changed-le counters change bound all))
        | inr other ↦ subst (λ (c : Counter). c.group ≤ bound + 1) (sym (after_other counters change b other.1))
            (omega arith)
      ]

  pub groups_bounded : (counters : Counters) (changes : List Change) (bound : ℕ)
      → ((a : ℕ) → (counter_at counters a).group ≤ bound)
      → (b : ℕ) → (counter_at (after_all lines layers counters changes) b).group ≤ bound + length changes
  unfolding after_all
  groups_bounded counters [] bound all b = let h : (counter_at counters b).group ≤ bound = all b in omega arith
  groups_bounded counters (change ∷ changes) bound all b =
      let h = groups_bounded (after lines layers counters change) changes (bound + 1)
      (rise_one counters change bound all) b in
      omega arith

  has_room : (counters : Counters) (change : Change) (bound : ℕ) → ((a : ℕ) → (counter_at counters a).group ≤ bound)
      → bound + 1 < 2 ^ 64 → HasRoom lines layers counters change
  has_room counters (Access a) bound all low = by (is_none (parent_of lines layers a))
    where
      by : (top : Bool) → OnTrue top ((counter_at counters a).group + 1 < 2 ^ 64)
      by true = let h : (counter_at counters a).group ≤ bound = all a in omega arith
      by false = tt
  has_room counters (MoveChild a) bound all low = let h : (counter_at counters a).group ≤ bound = all a in omega arith
  has_room counters (RenumberChild a) bound all low = let h : (counter_at counters a).group ≤ bound = all a in
      omega arith

  -- changes that are few enough wrap nothing
  pub few_wrap_none : (counters : Counters) (changes : List Change) (bound : ℕ)
      → ((a : ℕ) → (counter_at counters a).group ≤ bound) → bound + length changes < 2 ^ 64
      → NoneWraps lines layers counters changes
  few_wrap_none counters [] bound all low = tt
  few_wrap_none counters (change ∷ changes) bound all low = (
    has_room counters change bound all (omega arith),
    few_wrap_none (after lines layers counters change) changes (bound + 1) (rise_one counters change bound all)
        (omega arith),
  )
