-- How a front end's chip shows the counters of all blocks over each step of its plans.
use Rattle.std.proofs.Common.{◌≡◌, ◌<◌, ◌≤◌, ◌+◌, ◌-◌, ◌%◌, ◌^◌, inl, inr, ℕ, Bool, false, List, [], ◌∷◌}
use Rattle.std.proofs.Common.{Option, None, Some, length, map, set, slice_index, if◌then◌else◌, nat_lt, nat_le}
use Rattle.std.proofs.Common.{refl, sym, ap, ◌∙◌, subst, arith}
use Rattle.asc_base.specs.Has.{Has}
use Rattle.asc_base.specs.declared.block.Counter.{Counter}
use Rattle.asc_base.specs.declared.shape.Shape.{Shape}
use Rattle.oram_contents.specs.Chip.{Chip, AreGroups, IsRootOf, root_counter, addresses, AreDistinct}
use Rattle.oram_contents.specs.Counts.{Ghost, put_at}
use Rattle.oram_contents.specs.Entries.{Keys, AreKeys}
use Rattle.oram_contents.specs.Groups.{AreCounters, AreSmall, moved_of}
use Rattle.oram_contents.proofs.ChipLaws.{same_group, groups_start}
use Rattle.posmap_counters.specs.Counters.{next_group}
use Rattle.oram_walk.specs.Front.{FrontState}
use Rattle.oram_lines.specs.Shown.{ParentFirst, IsStep, IsStepped}
use Rattle.oram_lines.specs.Standing.{IsShown, chip_of}
use Rattle.asc_base.specs.TreeShape.{parent_of, children_of, layer_first, layer_count}
use Rattle.asc_base.specs.Settings.{IsConfig}
use Rattle.asc_base.specs.declared.settings.Config.{Config}
use Rattle.oram_contents.specs.Starts.{first_ghost}
use Rattle.oram_walk.proofs.Fronts.{first_is}
use Rattle.asc_base.specs.declared.block.Address.{Address}
use Rattle.asc_base.proofs.Families.{child_of_parent, children_few}
use Rattle.asc_base.proofs.Lookups.{some_is, none_is_not}
use Rattle.asc_base.proofs.ShapeFacts.{shape_layered}
use Rattle.bus_watch.specs.Log.{LogLists}
use Rattle.std.specs.Prelude.{count_by}
use Rattle.std.proofs.Math.Pow.{pow_mono}
use Rattle.std.proofs.lemmas.List.{get_or-set_same, length-set}
use Rattle.std.proofs.lemmas.Bool.{leb-false}
use Rattle.oram_contents.specs.Decided.{draws}
use Rattle.oram_contents.proofs.ChipLaws.{groups_wait, groups_root, groups_stepped, groups_taken, groups_root_taken}
use Rattle.oram_contents.proofs.GroupLaws.{counters_kept}
use Rattle.oram_contents.proofs.SmallLaws.{small_raised}
use Rattle.oram_contents.specs.Steps.{taken}
use Rattle.oram_walk.specs.Front.{first_front, counter_in, stepped, full_parent, root_place, child_in}
use Rattle.posmap_counters.proofs.Order.{next_group-before, next_own-before}
use Rattle.posmap_counters.proofs.RootLaws.{top_place}
use Rattle.posmap_counters.specs.Counters.{IsBefore, next_own}
use Rattle.posmap_counters.specs.Group.{child_counter}
use Rattle.posmap_lookaside.specs.Held.{addresses_of}
use Rattle.posmap_lookaside.specs.declared.held.Held.{Held}
use Rattle.oram_lines.specs.Standing.{held_block}
use Rattle.oram_lines.proofs.ShownParts.{front_of, spelled, held_front, rooted_front, counter_top, stepped_top}
use Rattle.oram_lines.proofs.ShownParts.{counter_first, room_first, stepped_first, chip_addresses}

same_counter : (c d : Counter) → c.group ≡ d.group → c.own ≡ d.own → c ≡ d
same_counter c d g o = λ i. record { group = g i; own = o i }

-- no child is done where no group move is under way
pub still_none : (m : Option (ℕ × ℕ)) (p : ℕ) → m ≡ None → moved_of m p ≡ 0
still_none m p none = ap (λ x. moved_of x p) none

pub not_under : (k m : ℕ) → m ≡ 0 → nat_lt k m ≡ false
not_under k m none = grind arith

-- counters stay small where the log grows by draws
pub small_later : (shape : Shape) (ic : ℕ) (old new : LogLists) (count : ℕ → Counter)
    → count_by draws old.events ≤ count_by draws new.events → AreSmall shape ic old count → AreSmall shape ic new count
small_later shape ic old new count more s = record {
  top = s.top;
  own = s.own;
  drawn = λ a inside. omega (arith, s.drawn a inside, more);
}

-- ghost records that agree on counters, on what is held, and on what is under way
module _ (g h : Ghost) (count : h.count ≡ g.count) (held : h.held ≡ g.held) (stepped : h.stepped ≡ g.stepped)
    (pend : h.pend ≡ g.pend) (move : h.move ≡ g.move) where
  root_same : (a : ℕ) (c : Counter) → IsRootOf g a c → IsRootOf h a c
  root_same a c is = record {
    ahead = λ now. is.ahead (sym stepped ∙ now) ∙ ap (λ f. next_group (f a)) (sym count);
    level = λ none. is.level (λ was. none (stepped ∙ was)) ∙ ap (λ f. f a) (sym count);
  }

  pub groups_same : (shape : Shape) (plb : ℕ) (chip : Chip) → AreGroups shape plb g chip → AreGroups shape plb h chip
  groups_same shape plb chip s = record {
    roots = λ a inside top. root_same a (root_counter shape chip.roots a) (s.roots a inside top);
    counters = λ x has. s.counters x has ∙ ap (λ f. f x.address) (sym count);
    groups = λ x has. same_group shape g h x.address x.group.group x.group.own count stepped
        (ap (λ m. moved_of m x.address) move) (s.groups x has);
    parent = λ a p at of. let first = s.parent a p (sym pend ∙ at) of in (first.0, held ∙ first.1);
    listed = held ∙ s.listed;
    apart = subst AreDistinct (sym held) s.apart;
    few = subst (λ l. length l ≤ plb) (sym held) s.few;
    inside = λ p has. s.inside p (subst (Has p) held has);
    families = λ p has. s.families p (subst (Has p) held has);
  }

-- room depends on counters and a group move alone
pub counters_same : (g h : Ghost) → h.count ≡ g.count → h.move ≡ g.move → (shape : Shape) → AreCounters shape g
    → AreCounters shape h
counters_same g h count move shape s = record {
  group = λ a inside. subst (λ f. (f a).group < 2 ^ 64) (sym count) (s.group a inside);
  own = λ a inside. subst (λ f. (f a).own < 16384) (sym count) (s.own a inside);
  siblings = λ p first number k inside children less still.
      subst (λ f. (f (first + k)).group ≡ (f first).group) (sym count)
      (s.siblings p first number k inside children less (sym (ap (λ m. moved_of m p) move) ∙ still));
}

module _ (keys : Keys) (lawful : AreKeys keys) where
  -- what is shown depends on these parts of a ghost record alone
  pub shown_same : (front : FrontState) (g h : Ghost) → h.count ≡ g.count → h.held ≡ g.held → h.stepped ≡ g.stepped
      → h.pend ≡ g.pend → h.move ≡ g.move → IsShown keys front g → IsShown keys front h
  shown_same front g h count held stepped pend move s = record {
    front_is = s.front_is;
    shape = s.shape;
    groups = groups_same g h count held stepped pend move keys.shape front.plb (chip_of front) s.groups;
    counters = counters_same g h count move keys.shape s.counters;
    wide = s.wide;
  }

  -- the start, at which no block was accessed
  pub start_shown : (config : Config) → IsConfig config → config.shape ≡ keys.shape
      → IsShown keys (first_front config) first_ghost
  start_shown config is same = record {
    front_is = first_is config is;
    shape = same;
    groups = groups_start keys.shape config.plb (layer_count config.shape.lines (config.shape.layers - 1));
    counters = record {
      group = λ a inside. omega arith;
      own = λ a inside. omega arith;
      siblings = λ p first number k inside children less still. refl;
    };
    wide = λ h has. absurd has;
  }

  -- the counters after one block's counter was changed: its group stays, or its siblings are moving
  pub counters_to : (g h : Ghost) (a : ℕ) (c : Counter) (move : Option (ℕ × ℕ)) → h.count ≡ put_at g.count a c
      → h.move ≡ move → c.group < 2 ^ 64 → c.own < 16384
      → ((p : ℕ) → p < keys.shape.total → parent_of keys.shape.lines keys.shape.layers a ≡ Some p
      → moved_of move p ≡ 0 → c.group ≡ (g.count a).group)
      → ((p : ℕ) → moved_of move p ≡ 0 → moved_of g.move p ≡ 0)
      → AreCounters keys.shape g → AreCounters keys.shape h
  counters_to g h a c move count moving group own common still s =
      counters_same (record g { count = put_at g.count a c; move = move }) h count moving keys.shape
      (counters_kept keys.shape g a c move lawful.shape (shape_layered keys.shape lawful.shape).total group own common
      still s)

  -- a block of the top layer
  top_shown : (ic : ℕ) (roots : List ℕ) (plb : ℕ) (held : List Held) (g : Ghost) (log : LogLists) (a : Address)
      → IsShown keys (front_of keys.shape ic roots plb held) g → AreSmall keys.shape ic log g.count
      → count_by draws log.events < 2 ^ 40 → a.0 < keys.shape.total → g.stepped ≡ None → g.move ≡ None
      → (Has a.0 g.held → ⊥) → parent_of keys.shape.lines keys.shape.layers a.0 ≡ None
      → (now : FrontState)
      → now ≡ front_of keys.shape ic (set roots (root_place keys.shape a)
      ((slice_index roots (root_place keys.shape a) + 1) % 2 ^ 64)) plb held
      → IsStep keys (front_of keys.shape ic roots plb held) now g log a
  top_shown ic roots plb held g log a s small few inside level still unheld top now now_is =
      subst (λ (f : FrontState). IsStep keys (front_of keys.shape ic roots plb held) f g log a) (sym now_is) (record {
        counter = counter_is;
        rises = subst (IsBefore (g.count a.0)) (sym next_is) (next_group-before (g.count a.0) fits);
        waits = shown_now (record g { pend = Some a.0; stepped = Some a.0 }) refl waiting
            (counters_same g (record g { pend = Some a.0; stepped = Some a.0 }) refl refl keys.shape s.counters);
        taken = λ h count same level' pend move. shown_now h same
            (groups_same (taken (record g { stepped = Some a.0 }) a.0 (next_group (g.count a.0))) h
            (count ∙ ap (put_at g.count a.0) next_is) same level' pend (move ∙ sym still) keys.shape plb
            (chip_of after)
            (groups_root_taken keys.shape lawful.shape plb (record g { stepped = Some a.0 }) (chip_of after) groups_now
            a.0 inside top refl unheld))
            (counters_to g h a.0 (next_group (g.count a.0)) None (count ∙ ap (put_at g.count a.0) next_is) move
            (omega arith) (omega arith) (λ p p_in up. absurd (none_is_not (sym top ∙ up)))
            (λ p none. still_none g.move p still) s.counters);
        small = λ log' more. subst (λ c. AreSmall keys.shape ic log' (put_at g.count a.0 c)) (sym next_is)
            (small_raised keys.shape ic log' g.count a.0 (next_group (g.count a.0)) (λ none. refl) (omega arith)
            (omega (arith, small.drawn a.0 inside, more, few))
            (small_later keys.shape ic log log' g.count (omega (arith, more)) small));
      })
    where
      roots' : List ℕ
      roots' = set roots (root_place keys.shape a) ((slice_index roots (root_place keys.shape a) + 1) % 2 ^ 64)

      after : FrontState
      after = front_of keys.shape ic roots' plb held

      fits : (g.count a.0).group + 1 < 2 ^ 64
      fits = omega (arith, small.drawn a.0 inside, few)

      level_of : (b : ℕ) → g.stepped ≡ Some b → ⊥
      level_of b at = absurd (none_is_not (sym level ∙ at))

      counter_is : counter_in (front_of keys.shape ic roots plb held) a ≡ g.count a.0
      counter_is = counter_top (front_of keys.shape ic roots plb held) a top
          ∙ (s.groups.roots a.0 inside top).level (level_of a.0)

      there : root_place keys.shape a < length roots
      there = let place = top_place keys.shape.lines keys.shape.layers a.0
          (omega (arith, inside, (shape_layered keys.shape lawful.shape).total)) top in
          omega (arith, place.1, s.front_is.roots)

      groups_now : AreGroups keys.shape plb (record g { stepped = Some a.0 }) (chip_of after)
      groups_now = groups_root keys.shape lawful.shape plb g (chip_of (front_of keys.shape ic roots plb held)) s.groups
          a.0 inside top there level

      waiting : AreGroups keys.shape plb (record g { pend = Some a.0; stepped = Some a.0 }) (chip_of after)
      waiting = groups_wait keys.shape lawful.shape plb (record g { stepped = Some a.0 }) (chip_of after) groups_now a.0
          (λ p up. absurd (none_is_not (sym top ∙ up)))

      next_is : counter_in after a ≡ next_group (g.count a.0)
      next_is = counter_top after a top ∙ (groups_now.roots a.0 inside top).ahead refl

      shown_now : (h : Ghost) → h.held ≡ g.held → AreGroups keys.shape plb h (chip_of after)
          → AreCounters keys.shape h → IsShown keys after h
      shown_now h same groups counters = record {
        front_is = rooted_front (front_of keys.shape ic roots plb held) roots'
            (length-set roots (root_place keys.shape a) ((slice_index roots (root_place keys.shape a) + 1) % 2 ^ 64))
            s.front_is;
        shape = refl;
        groups = groups;
        counters = counters;
        wide = s.wide;
      }

  -- a block whose parent is the first held block
  under_shown : (ic : ℕ) (roots : List ℕ) (plb : ℕ) (h : Held) (rest : List Held) (g : Ghost) (log : LogLists)
      (a : Address) (p : ℕ) → IsShown keys (front_of keys.shape ic roots plb (h ∷ rest)) g
      → AreSmall keys.shape ic log g.count → a.0 < keys.shape.total → g.stepped ≡ None → g.move ≡ None
      → (Has a.0 g.held → ⊥) → parent_of keys.shape.lines keys.shape.layers a.0 ≡ Some p → h.address.0 ≡ p
      → nat_le (2 ^ ic - 1) (slice_index h.group.own (child_in keys.shape a)) ≡ false
      → (now : FrontState)
      → now ≡ front_of keys.shape ic roots plb (record h {
        group = record {
          group = h.group.group;
          own = set h.group.own (child_in keys.shape a) (slice_index h.group.own (child_in keys.shape a) + 1);
        };
      } ∷ rest)
      → IsStep keys (front_of keys.shape ic roots plb (h ∷ rest)) now g log a
  under_shown ic roots plb h rest g log a p s small inside level still unheld parent first_is room now now_is =
      subst (λ (f : FrontState). IsStep keys (front_of keys.shape ic roots plb (h ∷ rest)) f g log a)
      (sym now_is) (record {
        counter = counter_is;
        rises = subst (IsBefore (g.count a.0)) (sym next_is) (next_own-before (g.count a.0));
        waits = shown_now (record g { pend = Some a.0; stepped = Some a.0 }) refl waiting
            (counters_same g (record g { pend = Some a.0; stepped = Some a.0 }) refl refl keys.shape s.counters);
        taken = λ x count same level' pend move. shown_now x same
            (groups_same (taken (record g { stepped = Some a.0 }) a.0 (next_own (g.count a.0))) x
            (count ∙ ap (put_at g.count a.0) next_is) same level' pend (move ∙ sym still) keys.shape plb
            (chip_of after) taken_now)
            (counters_to g x a.0 (next_own (g.count a.0)) None (count ∙ ap (put_at g.count a.0) next_is) move
            (omega (arith, s.counters.group a.0 inside)) (omega (arith, few, most)) (λ q q_in up none. refl)
            (λ q none. still_none g.move q still) s.counters);
        small = λ log' more. subst (λ c. AreSmall keys.shape ic log' (put_at g.count a.0 c)) (sym next_is)
            (small_raised keys.shape ic log' g.count a.0 (next_own (g.count a.0))
            (λ none. absurd (none_is_not (sym none ∙ parent))) (omega (arith, few))
            (omega (arith, small.drawn a.0 inside, more))
            (small_later keys.shape ic log log' g.count (omega (arith, more)) small));
      })
    where
      k : ℕ
      k = child_in keys.shape a

      own' : List ℕ
      own' = set h.group.own k (slice_index h.group.own k + 1)

      h' : Held
      h' = record h { group = record { group = h.group.group; own = own' } }

      after : FrontState
      after = front_of keys.shape ic roots plb (h' ∷ rest)

      total_is : keys.shape.total ≡ layer_first keys.shape.lines keys.shape.layers
      total_is = (shape_layered keys.shape lawful.shape).total

      family : (first : ℕ) × (number : ℕ) × (children_of keys.shape.lines keys.shape.layers p ≡ Some (first, number))
          × (a.0 ≡ first + child_in keys.shape a) × (child_in keys.shape a < number)
          × (p < layer_first keys.shape.lines keys.shape.layers)
      family = child_of_parent keys.shape.lines keys.shape.layers a.0 p (omega (arith, inside, total_is)) parent

      first : ℕ
      first = family.0

      number : ℕ
      number = family.1

      children : children_of keys.shape.lines keys.shape.layers h.address.0 ≡ Some (first, number)
      children = ap (children_of keys.shape.lines keys.shape.layers) first_is ∙ family.2

      number_to : number ≤ length h.group.own
      number_to = let few = children_few keys.shape.lines keys.shape.layers p first number family.5 family.2 in
          omega (arith, few.1, s.wide h (inl refl))

      here : a.0 ≡ first + k
      here = family.3

      less : k < number
      less = family.4

      level_of : (b : ℕ) → g.stepped ≡ Some b → ⊥
      level_of b at = absurd (none_is_not (sym level ∙ at))

      still_of : (q : ℕ) → moved_of g.move q ≡ 0
      still_of q = still_none g.move q still

      shown_is : g.count a.0 ≡ child_counter h.group k
      shown_is = ap g.count here
          ∙ ((s.groups.groups (held_block h) (inl refl)).shows first number k children less).level
          (level_of (first + k))
          ∙ ap {A = Bool} {B = Counter}
          (λ b. if b then next_group (child_counter h.group k) else child_counter h.group k)
          (not_under k (moved_of g.move h.address.0) (still_of h.address.0))

      counter_is : counter_in (front_of keys.shape ic roots plb (h ∷ rest)) a ≡ g.count a.0
      counter_is = counter_first keys.shape ic roots plb h rest a p parent first_is ∙ sym shown_is

      few : (g.count a.0).own < 2 ^ ic - 1
      few = let under = leb-false (2 ^ ic - 1) (slice_index h.group.own k) room in
          omega (arith, under, ap (λ (c : Counter). c.own) shown_is)

      most : 2 ^ ic ≤ 2 ^ 14
      most = pow_mono {i = ic} {j = 14} s.front_is.ic_to

      next_is : counter_in after a ≡ next_own (g.count a.0)
      next_is = counter_first keys.shape ic roots plb h' rest a p parent first_is
          ∙ same_counter (child_counter h'.group k) (next_own (child_counter h.group k)) refl
          (get_or-set_same h.group.own k (slice_index h.group.own k + 1) 0 (omega (arith, less, number_to)))
          ∙ ap next_own (sym shown_is)

      groups_now : AreGroups keys.shape plb (record g { stepped = Some a.0 }) (chip_of after)
      groups_now = subst (λ b. AreGroups keys.shape plb (record g { stepped = Some b }) (chip_of after)) (sym here)
          (groups_stepped keys.shape lawful.shape plb g roots (held_block h) (map held_block rest) s.groups first number
          k children less number_to level (still_of h.address.0))

      waiting : AreGroups keys.shape plb (record g { pend = Some a.0; stepped = Some a.0 }) (chip_of after)
      waiting = groups_wait keys.shape lawful.shape plb (record g { stepped = Some a.0 }) (chip_of after) groups_now a.0
          (λ q up. (
            addresses (map held_block rest),
            s.groups.listed ∙ ap (λ x. x ∷ addresses (map held_block rest)) (first_is ∙ some_is (sym parent ∙ up)),
          ))

      taken_now : AreGroups keys.shape plb (taken (record g { stepped = Some a.0 }) a.0 (next_own (g.count a.0)))
          (chip_of after)
      taken_now = subst
          (λ b. AreGroups keys.shape plb (taken (record g { stepped = Some a.0 }) b (next_own (g.count b)))
          (chip_of after)) (sym here)
          (groups_taken keys.shape lawful.shape plb (record g { stepped = Some a.0 }) roots (held_block h')
          (map held_block rest) groups_now first number k children less (ap Some here) (still_of h.address.0)
          (λ has. unheld (subst (λ b. Has b g.held) (sym here) has)))

      shown_now : (x : Ghost) → x.held ≡ g.held → AreGroups keys.shape plb x (chip_of after)
          → AreCounters keys.shape x → IsShown keys after x
      shown_now x same groups counters = record {
        front_is = held_front (front_of keys.shape ic roots plb (h ∷ rest)) (h' ∷ rest) refl s.front_is;
        shape = refl;
        groups = groups;
        counters = counters;
        wide = λ y has. elim has [
          | inl is ↦ ap (λ (z : Held). length z.group.own) is ∙ length-set h.group.own k (slice_index h.group.own k + 1)
              ∙ s.wide h (inl refl)
          | inr later ↦ s.wide y (inr later)
        ];
      }

  -- a front end by its parts shows the same
  by_parts : (front : FrontState) (g : Ghost) (held : List Held) → front.held ≡ held → IsShown keys front g
      → IsShown keys (front_of keys.shape front.ic front.roots front.plb held) g
  by_parts front g held is s = subst (λ (f : FrontState). IsShown keys f g) (spelled front keys.shape held s.shape is) s

  pub step_shown : (front : FrontState) (g : Ghost) (log : LogLists) (a : Address) → IsShown keys front g
      → AreSmall keys.shape front.ic log g.count → count_by draws log.events < 2 ^ 40 → a.0 < keys.shape.total
      → g.stepped ≡ None → g.pend ≡ None → g.move ≡ None → ParentFirst keys g a.0 → (Has a.0 g.held → ⊥)
      → full_parent front a ≡ None → IsStepped keys front g log a
  step_shown front g log a s small few inside level none still parent_first unheld room =
      by_parent (parent_of keys.shape.lines keys.shape.layers a.0) refl
    where
      by_held : (p : ℕ) → parent_of keys.shape.lines keys.shape.layers a.0 ≡ Some p → (rest : List ℕ)
          → g.held ≡ p ∷ rest → (held : List Held) → front.held ≡ held → IsStepped keys front g log a
      by_held p up rest first_is [] is =
          let bad : [] ≡ p ∷ rest = sym (s.groups.listed ∙ chip_addresses front.held
          ∙ ap (λ (l : List Held). addresses_of l) is) ∙ first_is in
          absurd (cc)
      by_held p up rest first_is (h ∷ held) is =
          let heads : h.address.0 ∷ addresses_of held ≡ p ∷ rest =
          sym (s.groups.listed ∙ chip_addresses front.held ∙ ap (λ (l : List Held). addresses_of l) is) ∙ first_is in
          let here : h.address.0 ≡ p = cc in
          let parts : front ≡ front_of keys.shape front.ic front.roots front.plb (h ∷ held) =
          spelled front keys.shape (h ∷ held) s.shape is in
          let test : nat_le (2 ^ front.ic - 1) (slice_index h.group.own (child_in keys.shape a)) ≡ false =
          room_first keys.shape front.ic front.roots front.plb h held a p up here
          (ap (λ (f : FrontState). full_parent f a) (sym parts) ∙ room) in
          subst (λ (f : FrontState). IsStepped keys f g log a) (sym parts)
          (under_shown front.ic front.roots front.plb h held g log a p (by_parts front g (h ∷ held) is s) small inside
          level still unheld up here test
          (stepped (front_of keys.shape front.ic front.roots front.plb (h ∷ held)) a)
          (stepped_first keys.shape front.ic front.roots front.plb h held a p up here test))

      by_parent : (o : Option ℕ) → parent_of keys.shape.lines keys.shape.layers a.0 ≡ o → IsStepped keys front g log a
      by_parent None top =
          let parts : front ≡ front_of keys.shape front.ic front.roots front.plb front.held =
          spelled front keys.shape front.held s.shape refl in
          subst (λ (f : FrontState). IsStepped keys f g log a) (sym parts)
          (top_shown front.ic front.roots front.plb front.held g log a (by_parts front g front.held refl s) small few
          inside level still unheld top
          (stepped (front_of keys.shape front.ic front.roots front.plb front.held) a)
          (stepped_top (front_of keys.shape front.ic front.roots front.plb front.held) a top))
      by_parent (Some p) up = let first_is = parent_first p up in by_held p up first_is.0 first_is.1 front.held refl
