-- What a walk makes of the counters: they stay bounded, and no point comes twice.
use Rattle.std.proofs.Common.{◌≡◌, ◌≢◌, ℕ, zero, suc, ◌+◌, ◌^◌, ◌<◌, ◌≤◌, ◌⊎◌, Bool, cond, not, inl, inr}
use Rattle.std.proofs.Common.{arith}
use Rattle.std.proofs.Common.{List, [], ◌∷◌, ◌++◌, length, reverse, take, take_while, slice_get, All, AllPairs}
use Rattle.std.proofs.Common.{Option, None, Some}
use Rattle.std.proofs.Common.{refl, sym, ap, ◌∙◌, subst}
use Rattle.std.specs.Option.{option_map_or}
use Rattle.std.proofs.lemmas.Bool.{cases_Bool}
use Rattle.std.proofs.lemmas.List.{length-append, reverse-append}
use Rattle.std.proofs.lemmas.List.Elements.{All-head, All-tail}
use Rattle.std.proofs.lemmas.List.Sums.{take_while-cons}
use Rattle.asc_base.specs.Has.{Has}
use Rattle.asc_base.specs.TreeShape.{layer_first, parent_of}
use Rattle.asc_base.proofs.Families.{parent_above}
use Rattle.posmap_counters.specs.Bounds.{AreCounters}
use Rattle.posmap_counters.specs.Counters.{Counters, counter_at, Change, Access, MoveChild, RenumberChild, is_among}
use Rattle.posmap_counters.specs.Counters.{points, all_points, after, after_all, asked_changes, NoneWraps}
use Rattle.posmap_counters.proofs.BoundLaws.{start_bounded, asked_bounded, asked_wraps_none}
use Rattle.posmap_counters.proofs.ChangeLaws.{all_points_apart, counters_join, points_join, room_joins}
use Rattle.posmap_lookaside.specs.Walk.{WalkSizes, WalkAccess, OnChip, Walked, Purpose, Refill, Final, chip_at_start}
use Rattle.posmap_lookaside.specs.Walk.{ancestors, accesses_of, accesses_of_all, visit, refill, walk_down}
use Rattle.posmap_lookaside.specs.Walk.{missing, looked_up, walk, walks, points_of}

points-append : (xs ys : List WalkAccess) → points_of (xs ++ ys) ≡ points_of xs ++ points_of ys
points-append [] ys = refl
points-append (x ∷ xs) ys = ap (λ rest. points_of (x ∷ []) ++ rest) (points-append xs ys)

length-points : (xs : List WalkAccess) → length (points_of xs) ≡ length xs
length-points [] = refl
length-points (x ∷ xs) = ap suc (length-points xs)

-- what stands in the front of a list, or in a list turned round, stands in the list
while-has : (p : ℕ → Bool) (xs : List ℕ) (x : ℕ) → Has x (take_while p xs) → Has x xs
while-has p [] x has = has
while-has p (y ∷ xs) x has =
    elim (cases_Bool (p y)) [
      | inl here ↦ elim (subst (Has x) (take_while-cons p y xs ∙ ap (λ b. cond b (y ∷ take_while p xs) []) here) has) [
        | inl same ↦ inl same
        | inr later ↦ inr (while-has p xs x later)
      ]
      | inr other ↦ absurd (subst (Has x) (take_while-cons p y xs ∙ ap (λ b. cond b (y ∷ take_while p xs) []) other)
          has)
    ]

pub has-parts : (xs ys : List ℕ) (x : ℕ) → Has x (xs ++ ys) → (Has x xs) ⊎ (Has x ys)
has-parts [] ys x has = inr has
has-parts (y ∷ xs) ys x (inl same) = inl (inl same)
has-parts (y ∷ xs) ys x (inr later) = elim (has-parts xs ys x later) [
  | inl front ↦ inl (inr front)
  | inr back ↦
      inr back
]

pub reverse-has : (xs : List ℕ) (x : ℕ) → Has x (reverse xs) → Has x xs
reverse-has [] x has = has
reverse-has (y ∷ xs) x has =
    elim (has-parts (reverse xs) (y ∷ []) x (subst (Has x) (reverse-append (y ∷ []) xs) has)) [
      | inl front ↦ inr (reverse-has xs x front)
      | inr last ↦ elim last [ inl same ↦ inl same | inr none ↦ absurd none ]
    ]

pub missing-has : (held above : List ℕ) (x : ℕ) → Has x (reverse (missing held above)) → Has x above
missing-has held above x has =
    while-has (λ a. not (is_among held a)) above x (reverse-has (missing held above) x has)

module _ (sizes : WalkSizes) where
  -- the ancestors of a block are blocks, above it
  pub ancestors-inside : (more address x : ℕ) → address < layer_first sizes.lines sizes.layers
      → Has x (ancestors sizes more address) → (address < x) × (x < layer_first sizes.lines sizes.layers)
  unfolding ancestors
  ancestors-inside zero address x inside has = absurd has
  ancestors-inside (suc more) address x inside has =
      by (λ parent low. ancestors-inside more parent x low) (parent_of sizes.lines sizes.layers address) refl has
    where
      by : ((parent : ℕ) → parent < layer_first sizes.lines sizes.layers → Has x (ancestors sizes more parent)
          → (parent < x) × (x < layer_first sizes.lines sizes.layers))
          → (o : Option ℕ) → parent_of sizes.lines sizes.layers address ≡ o
          → Has x (option_map_or (λ parent. parent ∷ ancestors sizes more parent) o [])
          → (address < x) × (x < layer_first sizes.lines sizes.layers)
      by again None at here = absurd here
      by again (Some parent) at (inl same) =
          let up = parent_above sizes.lines sizes.layers address parent inside at in
          subst (λ y. (address < y) × (y < layer_first sizes.lines sizes.layers)) (sym same) up
      by again (Some parent) at (inr later) =
          let up = parent_above sizes.lines sizes.layers address parent inside at in
          let rest = again parent up.1 later in
          (omega arith, rest.1)

  accesses-points : (purpose : Purpose) (displaced : Option ℕ) (counters : Counters) (change : Change)
      → points_of (accesses_of sizes purpose displaced counters change)
      ≡ points sizes.lines sizes.layers counters change
  unfolding points
  accesses-points purpose displaced counters (Access a) = refl
  accesses-points purpose displaced counters (MoveChild a) = refl
  accesses-points purpose displaced counters (RenumberChild a) = refl

  -- the accesses of changes have their points
  all-points : (purpose : Purpose) (displaced : Option ℕ) (counters : Counters) (changes : List Change)
      → points_of (accesses_of_all sizes purpose displaced counters changes)
      ≡ all_points sizes.lines sizes.layers counters changes
  unfolding accesses_of_all all_points
  all-points purpose displaced counters [] = refl
  all-points purpose displaced counters (change ∷ changes) =
      let next : Counters = after sizes.lines sizes.layers counters change in
      points-append (accesses_of sizes purpose displaced counters change)
      (accesses_of_all sizes purpose displaced next changes)
      ∙ ap (λ here. here ++ points_of (accesses_of_all sizes purpose displaced next changes))
      (accesses-points purpose displaced counters change)
      ∙ ap (λ rest. points sizes.lines sizes.layers counters change ++ rest) (all-points purpose displaced next changes)

  -- Accesses that are those of changes one after another, which stay within bounds.
  record Goes (counters : Counters) (n : ℕ) (accesses : List WalkAccess) (now : Counters) : Type 0 where
    pub changes : List Change
    pub points_are : points_of accesses ≡ all_points sizes.lines sizes.layers counters changes
    pub counters_are : now ≡ after_all sizes.lines sizes.layers counters changes
    pub bounds : AreCounters sizes.lines sizes.layers sizes.ic (counter_at now) None (n + length accesses)
    pub room : n + length accesses < 2 ^ 64 → NoneWraps sizes.lines sizes.layers counters changes

  goes-none : (counters : Counters) (n : ℕ)
      → AreCounters sizes.lines sizes.layers sizes.ic (counter_at counters) None n → Goes counters n [] counters
  unfolding all_points after_all
  goes-none counters n are = record {
    changes = [];
    points_are = refl;
    counters_are = refl;
    bounds = let same : n ≡ n + 0 = omega arith in
        subst (λ m. AreCounters sizes.lines sizes.layers sizes.ic (counter_at counters) None m) same are;
    room = λ low. tt;
  }

  goes-join : (counters : Counters) (n : ℕ) (xs ys : List WalkAccess) (mid now : Counters) → Goes counters n xs mid
      → Goes mid (n + length xs) ys now → Goes counters n (xs ++ ys) now
  goes-join counters n xs ys mid now first second =
      let long : length (xs ++ ys) ≡ length xs + length ys = length-append xs ys in
      let sum : n + length xs + length ys ≡ n + length (xs ++ ys) = omega arith in
      let next : Counters = after_all sizes.lines sizes.layers counters first.changes in
      record {
        changes = first.changes ++ second.changes;
        points_are = points-append xs ys
            ∙ ap (λ here. here ++ points_of ys) first.points_are
            ∙ ap (λ rest. all_points sizes.lines sizes.layers counters first.changes ++ rest)
            (second.points_are ∙ ap (λ c. all_points sizes.lines sizes.layers c second.changes) first.counters_are)
            ∙ sym (points_join sizes.lines sizes.layers counters first.changes second.changes);
        counters_are = second.counters_are
            ∙ ap (λ c. after_all sizes.lines sizes.layers c second.changes) first.counters_are
            ∙ sym (counters_join sizes.lines sizes.layers counters first.changes second.changes);
        bounds = subst (λ m. AreCounters sizes.lines sizes.layers sizes.ic (counter_at now) None m) sum second.bounds;
        room = λ low. room_joins sizes.lines sizes.layers counters first.changes second.changes
            (first.room (omega arith))
            (subst (λ c. NoneWraps sizes.lines sizes.layers c second.changes) first.counters_are
            (second.room (omega arith)));
      }

  -- one block
  goes-visit : (purpose : Purpose) (displaced : Option ℕ) (held : List ℕ) (chip : OnChip) (address n : ℕ) → 1 ≤ sizes.ic
      → address < layer_first sizes.lines sizes.layers
      → AreCounters sizes.lines sizes.layers sizes.ic (counter_at chip.counters) None n
      → Goes chip.counters n (visit sizes purpose displaced held chip address).accesses
      (visit sizes purpose displaced held chip address).chip.counters
  goes-visit purpose displaced held chip address n some inside are =
      let changes : List Change = asked_changes sizes.lines sizes.layers sizes.ic chip.held chip.counters address in
      let accesses : List WalkAccess = accesses_of_all sizes purpose displaced chip.counters changes in
      let shown = all-points purpose displaced chip.counters changes in
      let long : length (all_points sizes.lines sizes.layers chip.counters changes) ≡ length accesses =
      sym (ap length shown) ∙ length-points accesses in
      record {
        changes = changes;
        points_are = shown;
        counters_are = refl;
        bounds = subst (λ m. AreCounters sizes.lines sizes.layers sizes.ic
            (counter_at (after_all sizes.lines sizes.layers chip.counters changes)) None (n + m)) long
            (asked_bounded sizes.lines sizes.layers sizes.ic chip.counters chip.held address n some inside are);
        room = λ low. asked_wraps_none sizes.lines sizes.layers sizes.ic chip.counters chip.held address n some inside
            are
            (omega arith);
      }

  goes-down : (line : ℕ) (below : List ℕ) (chip : OnChip) (n : ℕ) → 1 ≤ sizes.ic
      → line < layer_first sizes.lines sizes.layers
      → ((b : ℕ) → Has b below → b < layer_first sizes.lines sizes.layers)
      → AreCounters sizes.lines sizes.layers sizes.ic (counter_at chip.counters) None n
      → Goes chip.counters n (walk_down sizes line below chip).accesses (walk_down sizes line below chip).chip.counters
  unfolding walk_down
  goes-down line [] chip n some inside all are = goes-visit Final None chip.held chip line n some inside are
  goes-down line (address ∷ below) chip n some inside all are =
      let first : Walked = refill sizes chip address in
      let one = goes-visit Refill (slice_get (address ∷ chip.held) sizes.plb)
      (take sizes.plb (address ∷ chip.held)) chip
      address n some (all address (inl refl)) are in
      goes-join chip.counters n first.accesses (walk_down sizes line below first.chip).accesses first.chip.counters
      (walk_down sizes line below first.chip).chip.counters one
      (goes-down line below first.chip (n + length first.accesses) some inside (λ b has. all b (inr has)) one.bounds)

  goes-walk : (chip : OnChip) (line n : ℕ) → 1 ≤ sizes.ic → line < layer_first sizes.lines sizes.layers
      → AreCounters sizes.lines sizes.layers sizes.ic (counter_at chip.counters) None n
      → Goes chip.counters n (walk sizes chip line).accesses (walk sizes chip line).chip.counters
  goes-walk chip line n some inside are =
      let above = ancestors sizes sizes.layers line in
      goes-down line (reverse (missing chip.held above))
      (record { held = looked_up chip.held above; counters = chip.counters }) n some inside
      (λ b has. (ancestors-inside sizes.layers line b inside (missing-has chip.held above b has)).1) are

  goes-walks : (chip : OnChip) (lines : List ℕ) (n : ℕ) → 1 ≤ sizes.ic
      → All (λ line. line < layer_first sizes.lines sizes.layers) lines
      → AreCounters sizes.lines sizes.layers sizes.ic (counter_at chip.counters) None n
      → Goes chip.counters n (walks sizes chip lines).accesses (walks sizes chip lines).chip.counters
  unfolding walks
  goes-walks chip [] n some all are = goes-none chip.counters n are
  goes-walks chip (line ∷ lines) n some all are =
      let first : Walked = walk sizes chip line in
      let inside = All-head (λ l. l < layer_first sizes.lines sizes.layers) line lines all in
      let one = goes-walk chip line n some inside are in
      goes-join chip.counters n first.accesses (walks sizes first.chip lines).accesses first.chip.counters
      (walks sizes first.chip lines).chip.counters one
      (goes-walks first.chip lines (n + length first.accesses) some
      (All-tail (λ l. l < layer_first sizes.lines sizes.layers) line lines all) one.bounds)

  pub walk_bounded : (chip : OnChip) (line n : ℕ) → 1 ≤ sizes.ic → line < layer_first sizes.lines sizes.layers
      → AreCounters sizes.lines sizes.layers sizes.ic (counter_at chip.counters) None n
      → AreCounters sizes.lines sizes.layers sizes.ic (counter_at (walk sizes chip line).chip.counters) None
      (n + length (walk sizes chip line).accesses)
  walk_bounded chip line n some inside are = (goes-walk chip line n some inside are).bounds

  pub walks_apart : (chip : OnChip) (lines : List ℕ) (n : ℕ) → 1 ≤ sizes.ic
      → All (λ line. line < layer_first sizes.lines sizes.layers) lines
      → AreCounters sizes.lines sizes.layers sizes.ic (counter_at chip.counters) None n
      → n + length (walks sizes chip lines).accesses < 2 ^ 64
      → AllPairs (λ p q. p ≢ q) (points_of (walks sizes chip lines).accesses)
  walks_apart chip lines n some all are low =
      let go = goes-walks chip lines n some all are in
      subst (AllPairs (λ p q. p ≢ q)) (sym go.points_are)
      (all_points_apart sizes.lines sizes.layers chip.counters go.changes (go.room low))

  pub starts_apart : (lines : List ℕ) → 1 ≤ sizes.ic
      → All (λ line. line < layer_first sizes.lines sizes.layers) lines
      → length (walks sizes chip_at_start lines).accesses < 2 ^ 64
      → AllPairs (λ p q. p ≢ q) (points_of (walks sizes chip_at_start lines).accesses)
  starts_apart lines some all low =
      walks_apart chip_at_start lines 0 some all (start_bounded sizes.lines sizes.layers sizes.ic) (omega arith)
