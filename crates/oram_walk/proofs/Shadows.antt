-- Each access is under the counter that its parent's group gives, and groups are stepped and moved by accesses alone.
use Rattle.std.proofs.Common.{◌≡◌, ◌≢◌, ℕ, zero, suc, ◌+◌, ◌%◌, ◌^◌, ◌<◌, Bool, true, false, nat_le}
use Rattle.std.proofs.Common.{length}
use Rattle.std.specs.Prelude.{◌&&◌}
use Rattle.std.proofs.Common.{List, [], ◌∷◌, ◌++◌, Option, Some, None, option_map, inl}
use Rattle.std.proofs.Common.{inr}
use Rattle.std.proofs.Common.{refl, sym, ap, ◌∙◌, subst, arith, append_assoc, append-nil}
use Rattle.std.specs.Prelude.{if◌then◌else◌, slice_index, slice_set}
use Rattle.std.specs.Option.{option_map_or}
use Rattle.std.proofs.Common.{get_or-set_same}
use Rattle.std.proofs.lemmas.Bool.Decides.{eqb_tells, leb_tells}
use Rattle.request_plan.specs.Plan.{Plan, Done, Ask, Outcomes, bind}
use Rattle.request_plan.proofs.Keeps.{Outcomes-bind}
use Rattle.asc_base.specs.Shape.{parent_in, children_in, IsAddress}
use Rattle.asc_base.specs.declared.shape.Shape.{Shape}
use Rattle.asc_base.specs.declared.block.Address.{Address}
use Rattle.asc_base.specs.declared.block.Counter.{Counter}
use Rattle.asc_base.proofs.Lookups.{none_is_not}
use Rattle.posmap_counters.specs.Counters.{first_counter, next_group, is_among}
use Rattle.posmap_counters.specs.Group.{GroupState, child_counter, moved_group, stepped_group, asked_group, line_in}
use Rattle.posmap_lookaside.specs.Held.{held_at, changed, with_group, with_counter, addresses_of, inserted, displaced}
use Rattle.posmap_lookaside.specs.declared.held.Held.{Held}
use Rattle.posmap_lookaside.proofs.AddressLaws.{addresses_of-changed, is_some-held_at}
use Rattle.posmap_lookaside.proofs.HeldLaws.{changed_at, changed_other}
use Rattle.oram_walk.specs.Front.{FrontState, IsFront, with_held, group_at, counter_in, counter_by, counter_under}
use Rattle.oram_walk.specs.Front.{child_in}
use Rattle.oram_walk.specs.Front.{stepped, stepped_by, stepped_under, full_parent, full_by, full_under, root_place}
use Rattle.oram_walk.specs.Plans.{FrontPlan, on, child_by, children_plan, family_plan, full_plan, move_plan}
use Rattle.oram_walk.specs.Plans.{step_plan, visit_plan, append_plan, hold_plan}
use Rattle.oram_walk.specs.Request.{Request}
use Rattle.oram_walk.specs.Shadows.{shown_request, ShowsAlways, moves_shown, family_shown, is_full, visit_shown}
use Rattle.oram_walk.specs.Shadows.{IsVisited, Shadow, Accessed, Displaced}
use Rattle.oram_walk.specs.Shadows.{under_shown, visit_by, is_member, moved_counter, moved_by, counter_held}
use Rattle.oram_walk.specs.declared.slots.Purpose.{Purpose}
use Rattle.oram_walk.specs.declared.slots.Purpose.TheVariants.{Keep}
use Rattle.oram_walk.specs.declared.slots.Seen.{Seen}
use Rattle.oram_walk.proofs.Roots.{root_of}
use Rattle.oram_walk.proofs.Standing.{at_number}

-- one plan after another shows what the first shows, and then the second
shows-bind : {B C A D : Type 0} (R : A → Type 0) (put : B → C) (plan : Plan Request Seen B A)
    (next : A → Plan Request Seen C D) (xs ys : List Shadow) → ShowsAlways xs plan → Outcomes R plan
    → ((a : A) → R a → ShowsAlways ys (next a)) → ShowsAlways (xs ++ ys) (bind put plan next)
shows-bind R put (Done a) next xs ys here out each =
    subst (λ zs. ShowsAlways (zs ++ ys) (next a)) (sym here) (each a out)
shows-bind R put (Ask q b k) next xs ys here out each = (
  here.0 ++ ys,
  ap (λ zs. zs ++ ys) here.1 ∙ append_assoc (shown_request q) (here.0) ys,
  λ x. shows-bind R put (k x) next (here.0) ys (here.2 x) (out x) each,
)

-- the group of a block that was renumbered, and of one that has another group
counter_group : (o : Option Held) (next : Counter)
    → option_map (λ (h : Held). h.group) (option_map (with_counter next) o) ≡ option_map (λ (h : Held). h.group) o
counter_group None next = refl
counter_group (Some block) next = refl

renumbered_group : (held : List Held) (next : Counter) (c q : Address)
    → group_at (changed (with_counter next) held c) q ≡ group_at held q
renumbered_group held next c q =
    elim (eqb_tells q.0 c.0) [
      | inl same ↦
          ap (λ (a : Address). group_at (changed (with_counter next) held c) a) (at_number q c same.1)
          ∙ ap (option_map (λ (h : Held). h.group)) (changed_at (with_counter next) held c (λ h. refl))
          ∙ counter_group (held_at held c) next
          ∙ ap (λ (a : Address). group_at held a) (sym (at_number q c same.1))
      | inr other ↦
          ap (option_map (λ (h : Held). h.group)) (changed_other (with_counter next) held c q (λ h. refl) other.1)
    ]

group_here : (o : Option Held) (group now : GroupState) → option_map (λ (h : Held). h.group) o ≡ Some group
    → option_map (λ (h : Held). h.group) (option_map (with_group now) o) ≡ Some now
group_here None group now e = absurd (none_is_not e)
group_here (Some block) group now e = refl

regrouped_here : (held : List Held) (p : Address) (group now : GroupState) → group_at held p ≡ Some group
    → group_at (changed (with_group now) held p) p ≡ Some now
regrouped_here held p group now at =
    ap (option_map (λ (h : Held). h.group)) (changed_at (with_group now) held p (λ h. refl))
    ∙ group_here (held_at held p) group now at

regrouped_other : (held : List Held) (p q : Address) (now : GroupState) → q.0 ≢ p.0
    → group_at (changed (with_group now) held p) q ≡ group_at held q
regrouped_other held p q now other =
    ap (option_map (λ (h : Held). h.group)) (changed_other (with_group now) held p q (λ h. refl) other)

-- the counter of a block that was renumbered, and of one that has another group
counter_here : (o : Option Held) (next : Counter) (change : Counter → Counter) (was : Option Counter)
    → option_map (λ (h : Held). h.counter) o ≡ option_map change was
    → option_map (λ (h : Held). h.counter) (option_map (with_counter next) o) ≡ option_map (λ (c : Counter). next) was
counter_here None next change None e = refl
counter_here None next change (Some c) e = absurd (none_is_not e)
counter_here (Some block) next change None e = absurd (none_is_not (sym e))
counter_here (Some block) next change (Some c) e = refl

group_counter : (o : Option Held) (group : GroupState)
    → option_map (λ (h : Held). h.counter) (option_map (with_group group) o) ≡ option_map (λ (h : Held). h.counter) o
group_counter None group = refl
group_counter (Some block) group = refl

regrouped_counter : (held : List Held) (p q : Address) (group : GroupState)
    → counter_held (changed (with_group group) held p) q ≡ counter_held held q
regrouped_counter held p q group =
    elim (eqb_tells q.0 p.0) [
      | inl same ↦
          ap (λ (a : Address). counter_held (changed (with_group group) held p) a) (at_number q p same.1)
          ∙ ap (option_map (λ (h : Held). h.counter)) (changed_at (with_group group) held p (λ h. refl))
          ∙ group_counter (held_at held p) group
          ∙ ap (λ (a : Address). counter_held held a) (sym (at_number q p same.1))
      | inr other ↦ ap (option_map (λ (h : Held). h.counter)) (changed_other (with_group group) held p q
          (λ h. refl) other.1)
    ]

-- the members of a family so far
member_last : (first done : ℕ) → is_member first (done + 1) (first + done) ≡ true
member_last first done =
    elim (leb_tells first (first + done)) [
      | inl low ↦ elim (leb_tells (first + done + 1) (first + (done + 1))) [
        | inl high ↦ rw (low.0, high.0) refl
        | inr none ↦ absurd (omega arith)
      ]
      | inr none ↦ absurd (omega arith)
    ]

member_more : (first done a : ℕ) → a ≢ first + done → is_member first (done + 1) a ≡ is_member first done a
member_more first done a other =
    elim (leb_tells (a + 1) (first + done)) [
      | inl below ↦ elim (leb_tells (a + 1) (first + (done + 1))) [
        | inl more ↦ ap (λ b. nat_le first a && b) (more.0 ∙ sym below.0)
        | inr none ↦ absurd (omega arith)
      ]
      | inr past ↦ elim (leb_tells (a + 1) (first + (done + 1))) [
        | inl more ↦ absurd (other (omega arith))
        | inr none ↦ ap (λ b. nat_le first a && b) (none.0 ∙ sym past.0)
      ]
    ]

member_none : (first a : ℕ) → is_member first 0 a ≡ false
member_none first a =
    elim (leb_tells first a) [
      | inl low ↦ elim (leb_tells (a + 1) (first + 0)) [
        | inl below ↦ absurd (omega arith)
        | inr past ↦ rw (low.0, past.0) refl
      ]
      | inr past ↦ rw past.0 refl
    ]

map_same : (was : Option Counter) (f g : Counter → Counter) → ((c : Counter) → f c ≡ g c)
    → option_map f was ≡ option_map g was
map_same None f g each = refl
map_same (Some c) f g each = ap (λ (x : Counter). Some x) (each c)

map_id : (was : Option Counter) → was ≡ option_map (λ (c : Counter). c) was
map_id None = refl
map_id (Some c) = refl

-- a counter after so many children of a family moved
abbrev moved_to : GroupState → ℕ → ℕ → ℕ → Counter → Counter
moved_to group first done a c = (if is_member first done a then next_group (child_counter group 0) else c)

-- a group move's accesses leave the groups
record Kept (old now : FrontState) : Type 0 where
  pub shape : now.shape ≡ old.shape
  pub ic : now.ic ≡ old.ic
  pub roots : now.roots ≡ old.roots
  pub held : addresses_of now.held ≡ addresses_of old.held
  pub groups : (q : Address) → group_at now.held q ≡ group_at old.held q

kept_now : (state : FrontState) → Kept state state
kept_now state = record { shape = refl; ic = refl; roots = refl; held = refl; groups = λ q. refl }

kept_child : (old now : FrontState) (next : Counter) (c : Address) → Kept old now
    → Kept old (with_held now (changed (with_counter next) now.held c))
kept_child old now next c k = record {
  shape = k.shape;
  ic = k.ic;
  roots = k.roots;
  held = addresses_of-changed (with_counter next) now.held c (λ h. refl) ∙ k.held;
  groups = λ q. renumbered_group now.held next c q ∙ k.groups q;
}

-- and renumber the held children that are done
abbrev Renumbers : FrontState → GroupState → ℕ → ℕ → FrontState → Type 0
Renumbers old group first done now =
    (q : Address) → counter_held now.held q ≡ option_map (moved_to group first done q.0) (counter_held old.held q)

renumbers_child : (old now : FrontState) (group : GroupState) (first done : ℕ) → Renumbers old group first done now
    → Renumbers old group first (done + 1)
    (with_held now (changed (with_counter (next_group (child_counter group done))) now.held
    (record { 0 = first + done })))
renumbers_child old now group first done r q =
    let next : Counter = next_group (child_counter group done) in
    let c : Address = record { 0 = first + done } in
    elim (eqb_tells q.0 (first + done)) [
      | inl same ↦
          ap (λ (a : Address). counter_held (changed (with_counter next) now.held c) a) (at_number q c same.1)
          ∙ ap (option_map (λ (h : Held). h.counter)) (changed_at (with_counter next) now.held c (λ h. refl))
          ∙ counter_here (held_at now.held c) next (moved_to group first done (first + done))
          (counter_held old.held c) (r c)
          ∙ map_same (counter_held old.held c) (λ (x : Counter). next) (moved_to group first (done + 1) (first + done))
          (λ x. sym (ap (λ b. if b then next else x) (member_last first done)))
          ∙ ap (λ (a : Address). option_map (moved_to group first (done + 1) a.0) (counter_held old.held a))
          (sym (at_number q c same.1))
      | inr other ↦
          ap (option_map (λ (h : Held). h.counter)) (changed_other (with_counter next) now.held c q (λ h. refl) other.1)
          ∙ r q
          ∙ map_same (counter_held old.held q) (moved_to group first done q.0) (moved_to group first (done + 1) q.0)
          (λ x. ap (λ b. if b then next else x) (sym (member_more first done q.0 other.1)))
    ]

-- the accesses of so many children, where the first is held and where it isn't
moves_held : (list : List ℕ) (first child left : ℕ) (group : GroupState) → is_among list (first + child) ≡ true
    → moves_shown list first group child (suc left) ≡ moves_shown list first group (child + 1) left
moves_held list first child left group there = rw there refl

moves_free : (list : List ℕ) (first child left : ℕ) (group : GroupState) → is_among list (first + child) ≡ false
    → moves_shown list first group child (suc left)
    ≡ Accessed (first + child) (child_counter group child) (next_group (child_counter group child)) Keep
    ∷ moves_shown list first group (child + 1) left
moves_free list first child left group absent = rw absent refl

-- A plan shows these, and leaves the groups.
record Shifted (old : FrontState) (change : ℕ → Counter → Counter) (shown : List Shadow) (plan : FrontPlan ℕ) : Type 0
  where
    pub shows : ShowsAlways shown plan
    pub keeps : Outcomes (λ (r : FrontState × ℕ). Kept old (r.0)
        × ((q : Address) → counter_held ((r.0).held) q ≡ option_map (change q.0) (counter_held old.held q))) plan

children_shift : (old now : FrontState) (group : GroupState) (first child left asked : ℕ) → Kept old now
    → Renumbers old group first child now
    → Shifted old (moved_to group first (child + left)) (moves_shown (addresses_of old.held) first group child left)
    (children_plan group first child left now asked)
children_shift old now group first child zero asked k r =
    let same : child ≡ child + 0 = omega arith in
    record { shows = refl; keeps = (k, subst (λ n. Renumbers old group first n now) same r) }
children_shift old now group first child (suc left) asked k r =
    let count : child + 1 + left ≡ child + suc left = omega arith in
    subst (λ is. Shifted old (moved_to group first (child + suc left))
    (moves_shown (addresses_of old.held) first group child (suc left))
    (on (child_by is (with_held now (changed (with_counter (next_group (child_counter group child))) now.held
    (record { 0 = first + child })))
    (record {
      asked = asked;
      address = record { 0 = first + child };
      counter = child_counter group child;
      next = next_group (child_counter group child);
      purpose = Keep;
    })) (λ later end. children_plan group first (child + 1) left later end)))
    (sym (is_some-held_at now.held (record { 0 = first + child }) ∙ ap (λ l. is_among l (first + child)) k.held))
    (by (is_among (addresses_of old.held) (first + child)) refl
    (λ later end kept done. subst (λ n. Shifted old (moved_to group first n)
    (moves_shown (addresses_of old.held) first group (child + 1) left)
    (children_plan group first (child + 1) left later end)) count
    (children_shift old later group first (child + 1) left end kept done)))
  where
    by : (is : Bool) → is_among (addresses_of old.held) (first + child) ≡ is
        → ((later : FrontState) (end : ℕ) → Kept old later → Renumbers old group first (child + 1) later
        → Shifted old (moved_to group first (child + suc left))
        (moves_shown (addresses_of old.held) first group (child + 1) left)
        (children_plan group first (child + 1) left later end))
        → Shifted old (moved_to group first (child + suc left))
        (moves_shown (addresses_of old.held) first group child (suc left))
        (on (child_by is (with_held now (changed (with_counter (next_group (child_counter group child))) now.held
        (record { 0 = first + child })))
        (record {
          asked = asked;
          address = record { 0 = first + child };
          counter = child_counter group child;
          next = next_group (child_counter group child);
          purpose = Keep;
        })) (λ later end. children_plan group first (child + 1) left later end))
    by true there again =
        let next : Counter = next_group (child_counter group child) in
        let later : FrontState = with_held now (changed (with_counter next) now.held (record { 0 = first + child })) in
        let rest = again later asked (kept_child old now next (record { 0 = first + child }) k)
        (renumbers_child old now group first child r) in
        record {
          shows = subst (λ shown. ShowsAlways shown (children_plan group first (child + 1) left later asked))
              (sym (moves_held (addresses_of old.held) first child left group there)) rest.shows;
          keeps = rest.keeps;
        }
    by false absent again =
        let next : Counter = next_group (child_counter group child) in
        let later : FrontState = with_held now (changed (with_counter next) now.held (record { 0 = first + child })) in
        let kept = kept_child old now next (record { 0 = first + child }) k in
        let done = renumbers_child old now group first child r in
        record {
          shows = (
            moves_shown (addresses_of old.held) first group (child + 1) left,
            moves_free (addresses_of old.held) first child left group absent,
            λ x. (again later x.end kept done).shows,
          );
          keeps = λ x. (again later x.end kept done).keeps;
        }

family_shift : (old : FrontState) (group : GroupState) (family : Option (Address × ℕ)) (asked : ℕ)
    → Shifted old (moved_counter group family) (family_shown (addresses_of old.held) group family)
    (family_plan group family old asked)
family_shift old group None asked =
    record { shows = refl; keeps = (kept_now old, λ q. map_id (counter_held old.held q)) }
family_shift old group (Some (first, number)) asked =
    let count : 0 + number ≡ number = omega arith in
    subst (λ n. Shifted old (moved_to group first.0 n) (moves_shown (addresses_of old.held) first.0 group 0 number)
    (children_plan group first.0 0 number old asked)) count
    (children_shift old old group first.0 0 number asked (kept_now old)
    (λ q. map_id (counter_held old.held q)
    ∙ map_same (counter_held old.held q) (λ (c : Counter). c) (moved_to group first.0 0 q.0)
    (λ c. sym (ap (λ b. if b then next_group (child_counter group 0) else c) (member_none first.0 q.0)))))

-- after a group move of a block the block has the moved group
record Moved (old : FrontState) (change : ℕ → Counter → Counter) (parent : Address) (group : GroupState)
    (now : FrontState) : Type 0 where
  pub shape : now.shape ≡ old.shape
  pub ic : now.ic ≡ old.ic
  pub here : group_at now.held parent ≡ Some group
  pub others : (q : Address) → q.0 ≢ parent.0 → group_at now.held q ≡ group_at old.held q
  pub counters : (q : Address) → counter_held now.held q ≡ option_map (change q.0) (counter_held old.held q)

-- one step at a known group: what it shows, and what is left
step_shift : (old now : FrontState) (change : ℕ → Counter → Counter) (parent address : Address) (group : GroupState)
    (purpose : Purpose) (asked : ℕ)
    → parent_in old.shape address ≡ Some parent → Moved old change parent group now
    → ShowsAlways (Accessed address.0 (child_counter group (child_in old.shape address))
    (child_counter (stepped_group old.ic group (child_in old.shape address))
    (child_in old.shape address)) purpose ∷ [])
    (step_plan now asked address purpose)
    × Moved old change parent (stepped_group old.ic group (child_in old.shape address)) (stepped now address)
step_shift old now change parent address group purpose asked under m =
    let child : ℕ = child_in old.shape address in
    let group' : GroupState = stepped_group old.ic group child in
    let later : FrontState = with_held now (changed (with_group group') now.held parent) in
    let above : parent_in now.shape address ≡ Some parent =
    ap (λ (s : Shape). parent_in s address) m.shape ∙ under in
    let same : child_in now.shape address ≡ child = ap (λ (s : Shape). child_in s address) m.shape in
    let before : counter_in now address ≡ child_counter group child =
    ap (counter_by now address) above ∙ ap (counter_under (child_in now.shape address)) m.here
    ∙ ap (child_counter group) same in
    let is_later : stepped now address ≡ later =
    ap (stepped_by now address) above ∙ ap (stepped_under now address parent) m.here
    ∙ ap (λ k. with_held now (changed (with_group (stepped_group now.ic group k)) now.held parent)) same
    ∙ ap (λ ic. with_held now (changed (with_group (stepped_group ic group child)) now.held parent)) m.ic in
    let here : group_at later.held parent ≡ Some group' = regrouped_here now.held parent group group' m.here in
    let after_it : counter_in later address ≡ child_counter group' child =
    ap (counter_by later address) above ∙ ap (counter_under (child_in now.shape address)) here
    ∙ ap (child_counter group') same in
    let stepped_counter : counter_in (stepped now address) address ≡ child_counter group' child =
    ap (λ (s : FrontState). counter_in s address) is_later ∙ after_it in (
      (
        [],
        ap (λ c. Accessed address.0 c (child_counter group' child) purpose ∷ []) (sym before)
            ∙ ap (λ c. Accessed address.0 (counter_in now address) c purpose ∷ []) (sym stepped_counter),
        λ x. refl,
      ),
      subst (Moved old change parent group') (sym is_later) (record {
        shape = m.shape;
        ic = m.ic;
        here = here;
        others = λ q other. regrouped_other now.held parent q group' other ∙ m.others q other;
        counters = λ q. regrouped_counter now.held parent q group' ∙ m.counters q;
      }),
    )

address_is : {a b : Address} → Some a ≡ Some b → a ≡ b
address_is e = cc

group_is : {a b : GroupState} → Some a ≡ Some b → a ≡ b
group_is e = cc

-- the groups after an access to a child
visited_of : (state now : FrontState) (full : Option (Address × GroupState)) (parent address : Address)
    (group group' : GroupState) → full_parent state address ≡ full → parent_in state.shape address ≡ Some parent
    → group_at state.held parent ≡ Some group
    → group' ≡ asked_group state.ic group (child_in state.shape address)
    → Moved state (moved_by state full) parent group' now
    → IsVisited state address now
visited_of state now full parent address group group' is_full_of under at is m = record {
  parent = λ p g above found.
      ap (λ (a : Address). group_at now.held a) (address_is (sym above ∙ under)) ∙ m.here
      ∙ ap (λ (x : GroupState). Some x) is
      ∙ ap (λ (x : GroupState). Some (asked_group state.ic x (child_in state.shape address)))
      (group_is (sym at ∙ ap (λ (a : Address). group_at state.held a) (address_is (sym under ∙ above)) ∙ found));
  others = λ q apart. m.others q (apart parent under);
  counters = λ q. m.counters q
      ∙ ap (λ (o : Option (Address × GroupState)). option_map (moved_by state o q.0) (counter_held state.held q))
      (sym is_full_of);
}

-- A plan shows these, and leaves what an access that is asked for leaves.
record Follows (state : FrontState) (address : Address) (shown : List Shadow) (plan : FrontPlan Seen) : Type 0 where
  pub shows : ShowsAlways shown plan
  pub leaves : Outcomes (λ (r : FrontState × Seen). IsVisited state address (r.0)) plan

-- of a child whose own count isn't at its greatest, and of one whose is
child_follows : (state : FrontState) (parent address : Address) (group : GroupState) (purpose : Purpose) (asked : ℕ)
    (full : Bool) → is_full state.ic group (child_in state.shape address) ≡ full
    → full_parent state address ≡ (if full then Some (parent, group) else None)
    → parent_in state.shape address ≡ Some parent → group_at state.held parent ≡ Some group
    → Follows state address
    (if full then
    family_shown (addresses_of state.held) group (children_in state.shape parent)
    ++ Accessed address.0 (child_counter (moved_group group) (child_in state.shape address))
    (child_counter (asked_group state.ic group (child_in state.shape address))
    (child_in state.shape address)) purpose
    ∷ []
    else Accessed address.0 (child_counter group (child_in state.shape address))
    (child_counter (asked_group state.ic group (child_in state.shape address)) (child_in state.shape address)) purpose
    ∷ [])
    (on (full_plan state asked (if full then Some (parent, group) else None))
    (λ now end. step_plan now end address purpose))
child_follows state parent address group purpose asked false test full_is under at =
    let child : ℕ = child_in state.shape address in
    let here : Moved state (moved_by state None) parent group state = record {
      shape = refl;
      ic = refl;
      here = at;
      others = λ q other. refl;
      counters = λ q. map_id (counter_held state.held q);
    } in
    let step = step_shift state state (moved_by state None) parent address group purpose asked under here in
    let is : stepped_group state.ic group child ≡ asked_group state.ic group child =
    sym (ap (λ b. if b then stepped_group state.ic (moved_group group) child else stepped_group state.ic
    group child) test)
    in
    record {
      shows = subst (λ (g : GroupState). ShowsAlways (Accessed address.0 (child_counter group child)
          (child_counter g child) purpose ∷ []) (step_plan state asked address purpose)) is (step.0);
      leaves = λ seen. visited_of state (stepped state address) None parent address group _ full_is under at is step.1;
    }
child_follows state parent address group purpose asked true test full_is under at =
    let child : ℕ = child_in state.shape address in
    let is : stepped_group state.ic (moved_group group) child ≡ asked_group state.ic group child =
    sym (ap (λ b. if b then stepped_group state.ic (moved_group group) child else stepped_group state.ic
    group child) test)
    in
    let family = family_shift state group (children_in state.shape parent) asked in
    let regrouped : FrontState → FrontState =
    λ now. with_held now (changed (with_group (moved_group group)) now.held parent) in
    let change : ℕ → Counter → Counter = moved_by state (Some (parent, group)) in
    let moved : (now : FrontState) → Kept state now
    → ((q : Address) → counter_held now.held q ≡ option_map (change q.0) (counter_held state.held q))
    → Moved state change parent (moved_group group) (regrouped now) =
    λ now k counters. record {
      shape = k.shape;
      ic = k.ic;
      here = regrouped_here now.held parent group (moved_group group) (k.groups parent ∙ at);
      others = λ q other. regrouped_other now.held parent q (moved_group group) other ∙ k.groups q;
      counters = λ q. regrouped_counter now.held parent q (moved_group group) ∙ counters q;
    } in
    let Kept_so : FrontState × ℕ → Type 0 =
    λ r. Kept state (r.0)
    × ((q : Address) → counter_held ((r.0).held) q ≡ option_map (change q.0) (counter_held state.held q)) in
    let move_shows : ShowsAlways (family_shown (addresses_of state.held) group (children_in state.shape parent) ++ [])
    (move_plan state asked parent group) =
    shows-bind Kept_so (λ (s : FrontState). s)
    (family_plan group (children_in state.shape parent) state asked)
    (λ (now, end). Done (regrouped now, end)) _ [] family.shows family.keeps (λ r k. refl) in
    let move_leaves : Outcomes (λ (r : FrontState × ℕ). Moved state change parent (moved_group group) (r.0))
    (move_plan state asked parent group) =
    Outcomes-bind Kept_so
    (λ (r : FrontState × ℕ). Moved state change parent (moved_group group) (r.0)) (λ (s : FrontState). s)
    (family_plan group (children_in state.shape parent) state asked)
    (λ (now, end). Done (regrouped now, end)) family.keeps (λ r k. moved (r.0) k.0 k.1) in
    record {
      shows = shows-bind (λ (r : FrontState × ℕ). Moved state change parent (moved_group group) (r.0))
          (λ (s : FrontState). s)
          (move_plan state asked parent group) (λ (now, end). step_plan now end address purpose)
          (family_shown (addresses_of state.held) group (children_in state.shape parent)) _
          (subst (λ shown. ShowsAlways shown (move_plan state asked parent group))
          (append-nil _) move_shows) move_leaves
          (λ r m. subst (λ (g : GroupState). ShowsAlways (Accessed address.0 (child_counter (moved_group group) child)
          (child_counter g child) purpose ∷ []) (step_plan (r.0) (r.1) address purpose)) is
          (step_shift state (r.0) change parent address (moved_group group) purpose (r.1) under m).0);
      leaves = Outcomes-bind (λ (r : FrontState × ℕ). Moved state change parent (moved_group group) (r.0))
          (λ (r : FrontState × Seen). IsVisited state address (r.0)) (λ (s : FrontState). s)
          (move_plan state asked parent group) (λ (now, end). step_plan now end address purpose) move_leaves
          (λ r m. λ seen. visited_of state (stepped (r.0) address) (Some (parent, group)) parent address group _
          full_is under at is
          (step_shift state (r.0) change parent address (moved_group group) purpose (r.1) under m).1);
    }

-- of a block under a parent, by the parent's group
under_follows : (state : FrontState) (parent address : Address) (purpose : Purpose) (asked : ℕ)
    (o : Option GroupState) → group_at state.held parent ≡ o → parent_in state.shape address ≡ Some parent
    → Follows state address (under_shown state address purpose parent o)
    (on (full_plan state asked (full_under state.ic (child_in state.shape address) parent o))
    (λ now end. step_plan now end address purpose))
under_follows state parent address purpose asked None at under =
    let same : stepped state address ≡ state =
    ap (stepped_by state address) under ∙ ap (stepped_under state address parent) at in
    let none : counter_in state address ≡ first_counter =
    ap (counter_by state address) under ∙ ap (counter_under (child_in state.shape address)) at in
    record {
      shows = (
        [],
        ap (λ c. Accessed address.0 c first_counter purpose ∷ []) (sym none)
            ∙ ap (λ c. Accessed address.0 (counter_in state address) c purpose ∷ [])
            (sym (ap (λ (s : FrontState). counter_in s address) same ∙ none)),
        λ x. refl,
      );
      leaves = λ seen. record {
        parent = λ p g above found. absurd (none_is_not (sym at
            ∙ ap (λ (a : Address). group_at state.held a) (address_is (sym under ∙ above)) ∙ found));
        others = λ q apart. ap (λ (s : FrontState). group_at s.held q) same;
        counters = λ q. ap (λ (s : FrontState). counter_held s.held q) same ∙ map_id (counter_held state.held q)
            ∙ ap (λ (o : Option (Address × GroupState)). option_map (moved_by state o q.0) (counter_held state.held q))
            (sym (ap (full_by state address) under
            ∙ ap (full_under state.ic (child_in state.shape address) parent) at));
      };
    }
under_follows state parent address purpose asked (Some group) at under =
    child_follows state parent address group purpose asked (is_full state.ic group (child_in state.shape address)) refl
    (ap (full_by state address) under ∙ ap (full_under state.ic (child_in state.shape address) parent) at) under at

-- of a block of the top layer
root_follows : (state : FrontState) (address : Address) (purpose : Purpose) (asked : ℕ) → IsFront state
    → IsAddress state.shape address → parent_in state.shape address ≡ None
    → Follows state address (visit_by state address purpose None) (step_plan state asked address purpose)
root_follows state address purpose asked front inside top =
    let place : ℕ = root_place state.shape address in
    let raised : ℕ = (slice_index state.roots place + 1) % 2 ^ 64 in
    let root = root_of state.shape address front.shape inside top in
    let low : place < length state.roots = omega (arith, root.below, front.roots) in
    let later : FrontState = record state { roots = slice_set state.roots place raised } in
    let is_later : stepped state address ≡ later = ap (stepped_by state address) top in
    let before : counter_in state address ≡ record { group = slice_index state.roots place; own = 0 } =
    ap (counter_by state address) top in
    let next : counter_in later address ≡ record { group = raised; own = 0 } =
    ap (counter_by later address) top
    ∙ ap (λ n. let c : Counter = record { group = n; own = 0 } in c) (get_or-set_same state.roots place raised 0 low) in
    record {
      shows = (
        [],
        ap (λ c. Accessed address.0 c (record { group = raised; own = 0 }) purpose ∷ []) (sym before)
            ∙ ap (λ c. Accessed address.0 (counter_in state address) c purpose ∷ [])
            (sym (ap (λ (s : FrontState). counter_in s address) is_later ∙ next)),
        λ x. refl,
      );
      leaves = λ seen. record {
        parent = λ p g above found. absurd (none_is_not (sym top ∙ above));
        others = λ q apart. ap (λ (s : FrontState). group_at s.held q) is_later;
        counters = λ q. ap (λ (s : FrontState). counter_held s.held q) is_later ∙ map_id (counter_held state.held q)
            ∙ ap (λ (o : Option (Address × GroupState)). option_map (moved_by state o q.0) (counter_held state.held q))
            (sym (ap (full_by state address) top));
      };
    }

visit_follows : (state : FrontState) (asked : ℕ) (address : Address) (purpose : Purpose) → IsFront state
    → IsAddress state.shape address
    → Follows state address (visit_shown state address purpose) (visit_plan state asked address purpose)
visit_follows state asked address purpose front inside = by (parent_in state.shape address) refl
  where
    by : (o : Option Address) → parent_in state.shape address ≡ o
        → Follows state address (visit_by state address purpose o)
        (on (full_plan state asked (full_by state address o)) (λ now end. step_plan now end address purpose))
    by None top = root_follows state address purpose asked front inside top
    by (Some parent) under =
        under_follows state parent address purpose asked (group_at state.held parent) refl under

-- What an access that is asked for shows, and what it leaves.
pub visit_shows : (state : FrontState) (asked : ℕ) (address : Address) (purpose : Purpose) → IsFront state
    → IsAddress state.shape address
    → ShowsAlways (visit_shown state address purpose) (visit_plan state asked address purpose)
visit_shows state asked address purpose front inside = (visit_follows state asked address purpose front inside).shows

pub visit_leaves : (state : FrontState) (asked : ℕ) (address : Address) (purpose : Purpose) → IsFront state
    → IsAddress state.shape address
    → Outcomes (λ (r : FrontState × Seen). IsVisited state address (r.0)) (visit_plan state asked address purpose)
visit_leaves state asked address purpose front inside = (visit_follows state asked address purpose front inside).leaves

-- What a block shows that comes to be held: the one that it displaces, under its counter, with its group's line.
pub hold_shows : (state : FrontState) (held : Held)
    → ShowsAlways (option_map_or (λ last.
    Displaced last.address.0 last.counter (record { 0 = line_in last.group }) ∷ [])
    (displaced state.plb held state.held)
    []) (hold_plan state held)
hold_shows state held = (
  option_map_or (λ last. Displaced last.address.0 last.counter (record { 0 = line_in last.group }) ∷ [])
      (displaced state.plb held state.held) [],
  refl,
  λ room. by (displaced state.plb held state.held),
)
  where
    by : (d : Option Held) → ShowsAlways
        (option_map_or (λ last. Displaced last.address.0 last.counter (record { 0 = line_in last.group }) ∷ []) d [])
        (append_plan d (with_held state (inserted state.plb held state.held)))
    by None = refl
    by (Some last) = ([], refl, λ x. refl)
