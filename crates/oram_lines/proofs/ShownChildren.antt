-- How a front end's chip goes on showing the counters of all blocks over a group move of the first held block's
-- children.
use Rattle.std.proofs.Common.{◌≡◌, ◌<◌, ◌≤◌, ◌+◌, ◌-◌, ◌^◌, ◌⊎◌, inl, inr, ℕ, Bool, true, false, List, [], ◌∷◌}
use Rattle.std.proofs.Common.{None, Some, length, map, slice_index, if◌then◌else◌, nat_lt, count_by}
use Rattle.std.proofs.Common.{refl, sym, ap, ◌∙◌, subst, arith}
use Rattle.std.proofs.lemmas.Bool.{cases_eq, cases_lt, lt-leb}
use Rattle.std.proofs.lemmas.Bool.Decides.{eqb_tells}
use Rattle.asc_base.proofs.Families.{children_few, parent_of_child}
use Rattle.asc_base.proofs.Lookups.{changed_first-no, some_is, none_is_not}
use Rattle.asc_base.proofs.ShapeFacts.{shape_layered}
use Rattle.asc_base.specs.Has.{Has}
use Rattle.asc_base.specs.Lookup.{changed_first}
use Rattle.asc_base.specs.TreeShape.{parent_of, children_of, layer_first}
use Rattle.asc_base.specs.declared.block.Address.{Address}
use Rattle.asc_base.specs.declared.block.Counter.{Counter}
use Rattle.bus_watch.specs.Log.{LogLists}
use Rattle.oram_contents.proofs.ChipLaws.{groups_wait, groups_begin, groups_moved, groups_renumbered, groups_end}
use Rattle.oram_contents.proofs.SmallLaws.{small_raised}
use Rattle.oram_contents.specs.Chip.{AreGroups, addresses, recount_held}
use Rattle.oram_contents.specs.Counts.{Ghost, put_at}
use Rattle.oram_contents.specs.Decided.{draws}
use Rattle.oram_contents.specs.Entries.{Keys, AreKeys}
use Rattle.oram_contents.specs.Groups.{AreCounters, AreSmall, moved_of}
use Rattle.oram_contents.specs.Steps.{taken}
use Rattle.oram_walk.specs.Front.{FrontState, full_parent, child_in}
use Rattle.posmap_counters.proofs.AskedLaws.{some_room}
use Rattle.posmap_counters.proofs.FamilyLaws.{zeros_at}
use Rattle.posmap_counters.proofs.Order.{next_group-before}
use Rattle.posmap_counters.specs.Counters.{IsBefore, next_group}
use Rattle.posmap_counters.specs.Group.{GroupState, child_counter, moved_group}
use Rattle.posmap_lookaside.proofs.AddressLaws.{addresses_of-changed}
use Rattle.posmap_lookaside.specs.Held.{is_of, changed, with_counter, with_group}
use Rattle.posmap_lookaside.specs.declared.held.Held.{Held}
use Rattle.oram_contents.proofs.Lines.{the_pair}
use Rattle.oram_lines.specs.Shown.{IsMoved, IsRenumbered, IsEnded, HasUsed}
use Rattle.oram_lines.specs.Standing.{IsShown, held_block, chip_of}
use Rattle.oram_lines.proofs.ShownLaws.{counters_same, groups_same, counters_to, small_later, still_none}
use Rattle.oram_lines.proofs.ShownParts.{front_of, held_front, first_changed, no_full}

-- how many children of a block are done, in its group move and in another's
pub moved_here : (p i : ℕ) → moved_of (Some (p, i)) p ≡ i
moved_here p i = elim (eqb_tells p p) [ inl same ↦ rw same.0 refl | inr other ↦ absurd (other.1 refl) ]

pub moved_other : (p q i : ℕ) → (q ≡ p → ⊥) → moved_of (Some (p, i)) q ≡ 0
moved_other p q i apart = elim (eqb_tells p q) [ inl same ↦ absurd (apart (sym same.1)) | inr other ↦ rw other.0 refl ]

lt_true : (m n : ℕ) → m < n → nat_lt m n ≡ true
lt_true m n less = grind arith

lt_false : (m n : ℕ) → n ≤ m → nat_lt m n ≡ false
lt_false m n more = grind arith

-- a held block with another counter, by what stands on chip
recount_map : (a : Address) (c : Counter) (list : List Held)
    → map held_block (changed (with_counter c) list a) ≡ recount_held a.0 c (map held_block list)
unfolding changed_first
recount_map a c [] = refl
recount_map a c (h ∷ list) = elim (eqb_tells h.address.0 a.0) [
  | inl same ↦ rw same.0 refl
  | inr other ↦ rw other.0 (ap (λ l. held_block h ∷ l) (recount_map a c list))
]

-- a change that keeps groups
changed_wide : (a : Address) (c : Counter) (list : List Held) → ((h : Held) → Has h list → length h.group.own ≡ 32)
    → (h : Held) → Has h (changed (with_counter c) list a) → length h.group.own ≡ 32
unfolding changed_first
changed_wide a c [] wide h has = absurd has
changed_wide a c (x ∷ list) wide h has = elim (eqb_tells x.address.0 a.0) [
  | inl same ↦ first_one (rw same.0 at has)
  | inr other ↦ later (λ at. changed_wide a c list (λ y in_list. wide y (inr in_list)) h at) (rw other.0 at has)
]
  where
    first_one : Has h (with_counter c x ∷ list) → length h.group.own ≡ 32
    first_one (inl is) = ap (λ (y : Held). length y.group.own) is ∙ wide x (inl refl)
    first_one (inr at) = wide h (inr at)

    later : (Has h (changed (with_counter c) list a) → length h.group.own ≡ 32)
        → Has h (x ∷ changed (with_counter c) list a) → length h.group.own ≡ 32
    later next (inl is) = ap (λ (y : Held). length y.group.own) is ∙ wide x (inl refl)
    later next (inr at) = next at

module _ (keys : Keys) (lawful : AreKeys keys) where
  -- the first held block's group move, by the parts of the front end
  module _ (ic : ℕ) (roots : List ℕ) (plb : ℕ) (p : Address) (counter : Counter) (group : GroupState)
      (rest : List Held) (g : Ghost) (first number : ℕ)
      (s : IsShown keys (front_of keys.shape ic roots plb
      (record { address = p; counter = counter; group = group } ∷ rest)) g)
      (children : children_of keys.shape.lines keys.shape.layers p.0 ≡ Some (first, number)) where
    abbrev top : Held
    top = record { address = p; counter = counter; group = group }

    abbrev front : FrontState
    front = front_of keys.shape ic roots plb (record { address = p; counter = counter; group = group } ∷ rest)

    p_in : p.0 < layer_first keys.shape.lines keys.shape.layers
    p_in = omega (
      arith,
      s.groups.inside p.0 (subst (Has p.0) (sym s.groups.listed) (inl refl)),
      (shape_layered keys.shape lawful.shape).total,
    )

    few_of : (1 ≤ number) × (number ≤ 32) × (first + number ≤ p.0)
    few_of = children_few keys.shape.lines keys.shape.layers p.0 first number p_in children

    up : (k : ℕ) → k < number → parent_of keys.shape.lines keys.shape.layers (first + k) ≡ Some p.0
    up k less = (parent_of_child keys.shape.lines keys.shape.layers p.0 first number k p_in children less).0

    inside_of : (k : ℕ) → k < number → first + k < keys.shape.total
    inside_of k less = omega (arith, few_of.2, p_in, (shape_layered keys.shape lawful.shape).total)

    -- the move begins
    pub begins : g.move ≡ None → IsShown keys (front_of keys.shape ic roots plb (top ∷ rest))
        (record g { move = Some (p.0, 0) })
    begins none = record {
      front_is = s.front_is;
      shape = s.shape;
      groups = groups_begin keys.shape lawful.shape plb g roots (held_block top) (map held_block rest) s.groups none;
      counters = record {
        group = s.counters.group;
        own = s.counters.own;
        siblings = λ q f n k inside of less still. s.counters.siblings q f n k inside of less
            (still_none g.move q none);
      };
      wide = s.wide;
    }

    module _ (log : LogLists) (i : ℕ) (small : AreSmall keys.shape ic log g.count)
        (few : count_by draws log.events < 2 ^ 40) (level : g.stepped ≡ None) (none : g.pend ≡ None)
        (moving : g.move ≡ Some (p.0, i)) (less : i < number) where
      child_at : (k : ℕ) → k < number
          → g.count (first + k) ≡ (if nat_lt k i then next_group (child_counter group k) else child_counter group k)
      child_at k under =
          ((s.groups.groups (held_block top) (inl refl)).shows first number k children under).level
          (λ at. absurd (none_is_not (sym level ∙ at)))
          ∙ ap (λ m. (if nat_lt k m then next_group (child_counter group k) else child_counter group k))
          (ap (λ m. moved_of m p.0) moving ∙ moved_here p.0 i)

      counter_is : child_counter group i ≡ g.count (first + i)
      counter_is = sym (child_at i less
          ∙ ap {A = Bool} {B = Counter} (λ b. if b then next_group (child_counter group i) else child_counter group i)
          (lt_false i i (omega arith)))

      bound : group.group + slice_index group.own i ≤ count_by draws log.events
      bound = omega (
        arith,
        small.drawn (first + i) (inside_of i less),
        ap (λ (c : Counter). c.group) counter_is,
        ap (λ (c : Counter). c.own) counter_is,
      )

      rises_is : IsBefore (g.count (first + i)) (next_group (child_counter group i))
      rises_is = subst (λ c. IsBefore c (next_group (child_counter group i))) counter_is
          (next_group-before (child_counter group i) (omega (arith, bound, few)))

      counters_of : (h : Ghost) → h.count ≡ put_at g.count (first + i) (next_group (child_counter group i))
          → h.move ≡ Some (p.0, i + 1) → AreCounters keys.shape h
      counters_of h count now = counters_to keys lawful g h (first + i) (next_group (child_counter group i))
          (Some (p.0, i + 1)) count now (omega arith) (omega arith)
          (λ q q_in of still. absurd (omega (
            arith,
            sym (ap (λ x. moved_of (Some (p.0, i + 1)) x) (some_is (sym of ∙ up i less))) ∙ still,
            moved_here p.0 (i + 1),
          )))
          (λ q still. elim (cases_eq q p.0) [
            | inl is ↦ absurd (omega (
              arith,
              sym (ap (λ x. moved_of (Some (p.0, i + 1)) x) is) ∙ still,
              moved_here p.0 (i + 1),
            ))
            | inr other ↦ ap (λ m. moved_of m q) moving ∙ moved_other p.0 q i other
          ]) s.counters

      next_in : next_group (g.count (first + i)) ≡ next_group (child_counter group i)
      next_in = ap next_group (sym counter_is)

      pub moves : (Has (first + i) g.held → ⊥) → IsMoved keys front g log p group first i
      moves unheld = record {
        counter = counter_is;
        rises = rises_is;
        waits = record {
          front_is = s.front_is;
          shape = s.shape;
          groups = groups_wait keys.shape lawful.shape plb g (chip_of front) s.groups (first + i)
              (λ q of. (
                addresses (map held_block rest),
                s.groups.listed ∙ ap (λ x. x ∷ addresses (map held_block rest)) (some_is (sym (up i less) ∙ of)),
              ));
          counters = counters_same g (record g { pend = Some (first + i) }) refl refl keys.shape s.counters;
          wide = s.wide;
        };
        taken = λ h count same level' pend now. record {
          front_is = s.front_is;
          shape = s.shape;
          groups = groups_same (record (taken g (first + i) (next_group (g.count (first + i))))
              { move = Some (p.0, i + 1) }) h (count ∙ ap (put_at g.count (first + i)) (sym next_in)) same level' pend
              now keys.shape plb (chip_of front)
              (groups_moved keys.shape lawful.shape plb g roots (held_block top) (map held_block rest) s.groups first
              number i children less level moving unheld);
          counters = counters_of h count now;
          wide = s.wide;
        };
        small = λ log' more. small_raised keys.shape ic log' g.count (first + i) (next_group (child_counter group i))
            (λ absent. refl) (omega arith) (omega (arith, bound, more, few))
            (small_later keys.shape ic log log' g.count (omega (arith, more)) small);
      }

      -- the next group count is at most the number of points drawn
      room : HasUsed number group → group.group + 1 ≤ count_by draws log.events
      room used = elim (cases_lt used.0 i) [
        | inl done ↦
            (let is : g.count (first + used.0) ≡ next_group (child_counter group used.0) =
            child_at used.0 used.1 ∙ ap {A = Bool} {B = Counter}
            (λ b. if b then next_group (child_counter group used.0) else child_counter group used.0)
            (lt_true used.0 i done) in
            omega (
              arith,
              small.drawn (first + used.0) (inside_of used.0 used.1),
              ap (λ (c : Counter). c.group) is,
              bound,
              few,
            ))
        | inr left ↦
            (let is : g.count (first + used.0) ≡ child_counter group used.0 =
            child_at used.0 used.1 ∙ ap {A = Bool} {B = Counter}
            (λ b. if b then next_group (child_counter group used.0) else child_counter group used.0)
            (lt_false used.0 i left) in
            omega (
              arith,
              small.drawn (first + used.0) (inside_of used.0 used.1),
              ap (λ (c : Counter). c.group) is,
              ap (λ (c : Counter). c.own) is,
              used.2,
            ))
      ]

      apart : p.0 ≡ first + i → ⊥
      apart is = omega (arith, is, few_of.2, less)

      changed_is : changed (with_counter (next_group (child_counter group i))) (top ∷ rest) (record { 0 = first + i })
          ≡ top ∷ changed (with_counter (next_group (child_counter group i))) rest (record { 0 = first + i })
      changed_is = changed_first-no (with_counter (next_group (child_counter group i)))
          (is_of (record { 0 = first + i })) top rest
          (elim (eqb_tells p.0 (first + i)) [ inl same ↦ absurd (apart same.1) | inr other ↦ other.0 ])

      pub renumbers : HasUsed number group → IsRenumbered keys front g log p group first i
      renumbers used = record {
        counter = counter_is;
        rises = rises_is;
        shown = record {
          front_is = held_front front (changed (with_counter (next_group (child_counter group i))) (top ∷ rest)
              (record { 0 = first + i }))
              (addresses_of-changed (with_counter (next_group (child_counter group i))) (top ∷ rest)
              (record { 0 = first + i }) (λ h. refl)) s.front_is;
          shape = s.shape;
          groups = subst (λ c. AreGroups keys.shape plb
              (record g { count = put_at g.count (first + i) c; move = Some (p.0, i + 1) })
              (record {
                roots = roots;
                held = map held_block (changed (with_counter (next_group (child_counter group i))) (top ∷ rest)
                    (record { 0 = first + i }));
              })) next_in
              (subst (λ l. AreGroups keys.shape plb
              (record g {
                count = put_at g.count (first + i) (next_group (g.count (first + i)));
                move = Some (p.0, i + 1);
              })
              (record { roots = roots; held = l })) (sym chip_is)
              (groups_renumbered keys.shape lawful.shape plb g roots (held_block top) (map held_block rest) s.groups
              first number i children less level moving));
          counters = counters_of (record g {
            count = put_at g.count (first + i) (next_group (child_counter group i));
            move = Some (p.0, i + 1);
          }) refl refl;
          wide = changed_wide (record { 0 = first + i }) (next_group (child_counter group i)) (top ∷ rest) s.wide;
        };
        small = small_raised keys.shape ic log g.count (first + i) (next_group (child_counter group i))
            (λ absent. refl) (omega arith) (omega (arith, room used, few)) small;
        first_is = record {
          counter = counter;
          rest = changed (with_counter (next_group (child_counter group i))) rest (record { 0 = first + i });
          held = changed_is;
        };
      }
        where
          chip_is : map held_block (changed (with_counter (next_group (child_counter group i))) (top ∷ rest)
              (record { 0 = first + i }))
              ≡ held_block top ∷ recount_held (first + i) (next_group (g.count (first + i))) (map held_block rest)
          chip_is = ap (map held_block) changed_is
              ∙ ap (λ l. held_block top ∷ l)
              (recount_map (record { 0 = first + i }) (next_group (child_counter group i)) rest
              ∙ ap (λ c. recount_held (first + i) c (map held_block rest)) (sym next_in))

    -- the move ends
    module _ (level : g.stepped ≡ None) (moving : g.move ≡ Some (p.0, number)) where
      moved_top : Held
      moved_top = record { address = p; counter = counter; group = moved_group group }

      done_at : (k : ℕ) → k < number → g.count (first + k) ≡ next_group (child_counter group k)
      done_at k under =
          ((s.groups.groups (held_block top) (inl refl)).shows first number k children under).level
          (λ at. absurd (none_is_not (sym level ∙ at)))
          ∙ ap {A = Bool} {B = Counter} (λ b. if b then next_group (child_counter group k) else child_counter group k)
          (ap (nat_lt k) (ap (λ m. moved_of m p.0) moving ∙ moved_here p.0 number) ∙ lt_true k number under)

      siblings_of : (q f n k : ℕ) → q < keys.shape.total
          → children_of keys.shape.lines keys.shape.layers q ≡ Some (f, n) → k < n → (q ≡ p.0) ⊎ (q ≡ p.0 → ⊥)
          → (g.count (f + k)).group ≡ (g.count f).group
      siblings_of q f n k inside of under (inr other) = s.counters.siblings q f n k inside of under
          (ap (λ m. moved_of m q) moving ∙ moved_other p.0 q number other)
      siblings_of q f n k inside of under (inl is) =
          let both = the_pair (sym children ∙ ap (children_of keys.shape.lines keys.shape.layers) (sym is) ∙ of) in
          let this : k < number = omega (arith, under, both.1) in
          subst (λ x. (g.count (x + k)).group ≡ (g.count x).group) both.0
          (ap (λ (c : Counter). c.group) (done_at k this)
          ∙ sym (ap (λ (c : Counter). c.group) (done_at 0 (omega (arith, this))))
          ∙ ap (λ x. (g.count x).group) (omega arith))

      changed_top : changed (with_group (moved_group group)) (top ∷ rest) p ≡ moved_top ∷ rest
      unfolding moved_top
      changed_top = first_changed (with_group (moved_group group)) top rest p refl

      pub ends : IsEnded keys front g p group
      unfolding moved_top
      ends = record {
        shown = record {
          front_is = held_front front (changed (with_group (moved_group group)) (top ∷ rest) p)
              (addresses_of-changed (with_group (moved_group group)) (top ∷ rest) p (λ h. refl)) s.front_is;
          shape = s.shape;
          groups = subst (λ l. AreGroups keys.shape plb (record g { move = None })
              (record { roots = roots; held = l })) (ap (map held_block) (sym changed_top))
              (groups_end keys.shape lawful.shape plb g roots (held_block top) (map held_block rest) s.groups first
              number children level moving);
          counters = record {
            group = s.counters.group;
            own = s.counters.own;
            siblings = λ q f n k inside of under still. siblings_of q f n k inside of under (cases_eq q p.0);
          };
          wide = λ h has. elim (subst (Has h) changed_top has) [
            | inl is ↦ ap (λ (x : Held). length x.group.own) is
            | inr at ↦ s.wide h (inr at)
          ];
        };
        first_is = record { counter = counter; rest = rest; held = changed_top };
        room = λ a of. ap (λ l. full_parent (front_of keys.shape ic roots plb l) a) changed_top
            ∙ no_full keys.shape ic roots plb moved_top rest a p.0 of refl
            (lt-leb (2 ^ ic - 1) (slice_index (moved_group group).own (child_in keys.shape a))
            (omega (arith, zeros_at 32 (child_in keys.shape a), some_room ic (omega (arith, s.front_is.ic_from)))));
      }
