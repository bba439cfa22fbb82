-- How a front end's chip goes on showing the counters of all blocks over a group move of the first held block's
-- children.
use Rattle.std.proofs.Common.{◌≡◌, ◌<◌, ◌+◌, ◌-◌, ◌^◌, ◌⊎◌, inl, inr, ℕ, Bool, true, false, List, [], ◌∷◌}
use Rattle.std.proofs.Common.{Option, None, Some, slice_index, option_map, is_some, if◌then◌else◌, nat_le, count_by}
use Rattle.std.proofs.Common.{refl, sym, ap, ◌∙◌, subst, arith}
use Rattle.std.proofs.lemmas.Bool.{leb-true}
use Rattle.std.proofs.lemmas.Bool.Decides.{eqb_tells}
use Rattle.asc_base.proofs.Families.{child_of_parent}
use Rattle.asc_base.proofs.Lookups.{find-yes, find-no, find-has, find-holds, changed_first-none, some_is, none_is_not}
use Rattle.asc_base.proofs.ShapeFacts.{shape_layered}
use Rattle.asc_base.specs.Has.{Has}
use Rattle.asc_base.specs.Shape.{children_in}
use Rattle.asc_base.specs.TreeShape.{parent_of, children_of, layer_first}
use Rattle.asc_base.specs.declared.block.Address.{Address}
use Rattle.asc_base.specs.declared.shape.Shape.{Shape}
use Rattle.bus_watch.specs.Log.{LogLists}
use Rattle.oram_contents.specs.Counts.{Ghost}
use Rattle.oram_contents.specs.Decided.{draws}
use Rattle.oram_contents.specs.Entries.{Keys, AreKeys}
use Rattle.oram_contents.specs.Groups.{AreSmall}
use Rattle.oram_walk.specs.Front.{FrontState, with_held, full_parent, full_by, child_in}
use Rattle.posmap_counters.proofs.AskedLaws.{some_room}
use Rattle.posmap_counters.specs.Group.{GroupState}
use Rattle.posmap_lookaside.specs.Held.{is_of, held_at, changed, addresses_of}
use Rattle.posmap_lookaside.specs.declared.held.Held.{Held}
use Rattle.oram_lines.specs.Shown.{IsFirst, HasUsed, ParentFirst, IsMoved, IsRenumbered, IsEnded, IsFull}
use Rattle.oram_lines.specs.Standing.{IsShown}
use Rattle.oram_lines.proofs.ShownChildren.{begins, moves, renumbers, ends}
use Rattle.oram_lines.proofs.ShownParts.{front_of, spelled, chip_addresses, full_first}

module _ (keys : Keys) (lawful : AreKeys keys) where
  -- what is held is found at its address
  pub held_tells : (front : FrontState) (g : Ghost) (a : Address) → IsShown keys front g
      → ((is_some (held_at front.held a) ≡ true) × Has a.0 g.held)
      ⊎ ((held_at front.held a ≡ None) × (Has a.0 g.held → ⊥))
  held_tells front g a s = by (held_at front.held a) refl
    where
      held_is : g.held ≡ addresses_of front.held
      held_is = s.groups.listed ∙ chip_addresses front.held

      mapped : (x : Held) (list : List Held) → Has x list → Has x.address.0 (addresses_of list)
      mapped x [] has = has
      mapped x (y ∷ list) (inl same) = inl (ap (λ (z : Held). z.address.0) same)
      mapped x (y ∷ list) (inr later) = inr (mapped x list later)

      absent : (list : List Held) → held_at list a ≡ None → Has a.0 (addresses_of list) → ⊥
      absent [] none has = has
      absent (x ∷ list) none has = elim (eqb_tells x.address.0 a.0) [
        | inl same ↦ absurd (none_is_not (sym none ∙ find-yes (is_of a) x list same.0))
        | inr other ↦ elim has [
          | inl is ↦ other.1 (sym is)
          | inr later ↦ absent list
              (sym (find-no (is_of a) x list other.0) ∙ none) later
        ]
      ]

      by : (found : Option Held) → held_at front.held a ≡ found
          → ((is_some (held_at front.held a) ≡ true) × Has a.0 g.held)
          ⊎ ((held_at front.held a ≡ None) × (Has a.0 g.held → ⊥))
      by None none = inr (none, λ has. absent front.held none (subst (Has a.0) held_is has))
      by (Some h) found = inl (
        ap {B = Bool} is_some found,
        subst (Has a.0) (sym held_is) (subst (λ x. Has x (addresses_of front.held))
            (elim (eqb_tells h.address.0 a.0) [
              | inl same ↦ same.1
              | inr other ↦ absurd
                  (let bad : true ≡ false = sym (find-holds (is_of a) front.held h found) ∙ other.0 in cc)
            ])
            (mapped h front.held (find-has (is_of a) front.held h found))),
      )

  -- what isn't held isn't changed
  pub unheld_same : (front : FrontState) (change : Held → Held) (a : Address) → held_at front.held a ≡ None
      → with_held front (changed change front.held a) ≡ front
  unheld_same front change a none = ap (with_held front) (changed_first-none change (is_of a) front.held none)

  -- the front end with the first held block is this one
  parts_are : (front : FrontState) (g : Ghost) (p : Address) (group : GroupState) → IsShown keys front g
      → (f : IsFirst front p group)
      → front ≡ front_of keys.shape front.ic front.roots front.plb
      (record { address = p; counter = f.counter; group = group } ∷ f.rest)
  parts_are front g p group s f = spelled front keys.shape
      (record { address = p; counter = f.counter; group = group } ∷ f.rest) s.shape f.held

  module _ (front : FrontState) (g : Ghost) (p : Address) (group : GroupState) (first number : ℕ)
      (s : IsShown keys front g) (f : IsFirst front p group)
      (children : children_of keys.shape.lines keys.shape.layers p.0 ≡ Some (first, number)) where
    parted : IsShown keys (front_of keys.shape front.ic front.roots front.plb
        (record { address = p; counter = f.counter; group = group } ∷ f.rest)) g
    parted = subst (λ (x : FrontState). IsShown keys x g) (parts_are front g p group s f) s

    pub move_begins : g.move ≡ None → IsShown keys front (record g { move = Some (p.0, 0) })
    move_begins none = subst (λ (x : FrontState). IsShown keys x (record g { move = Some (p.0, 0) }))
        (sym (parts_are front g p group s f))
        (begins keys lawful front.ic front.roots front.plb p f.counter group f.rest g first number parted children none)

    module _ (log : LogLists) (i : ℕ) (small : AreSmall keys.shape front.ic log g.count)
        (few : count_by draws log.events < 2 ^ 40) (level : g.stepped ≡ None) (none : g.pend ≡ None)
        (moving : g.move ≡ Some (p.0, i)) (less : i < number) where
      -- a child that isn't held is moved in its slot
      pub child_shown : (Has (first + i) g.held → ⊥) → IsMoved keys front g log p group first i
      child_shown unheld = subst (λ (x : FrontState). IsMoved keys x g log p group first i)
          (sym (parts_are front g p group s f))
          (moves keys lawful front.ic front.roots front.plb p f.counter group f.rest g first number parted children log
          i small few level none moving less unheld)

      -- and one that is held is renumbered
      pub held_child_shown : HasUsed number group → IsRenumbered keys front g log p group first i
      held_child_shown used = subst (λ (x : FrontState). IsRenumbered keys x g log p group first i)
          (sym (parts_are front g p group s f))
          (renumbers keys lawful front.ic front.roots front.plb p f.counter group f.rest g first number parted children
          log i small few level none moving less used)

    pub move_ends : g.stepped ≡ None → g.move ≡ Some (p.0, number) → IsEnded keys front g p group
    move_ends level moving = subst (λ (x : FrontState). IsEnded keys x g p group) (sym (parts_are front g p group s f))
        (ends keys lawful front.ic front.roots front.plb p f.counter group f.rest g first number parted children level
        moving)

  -- a full parent is the first held block
  pub full_shown : (front : FrontState) (g : Ghost) (a p : Address) (group : GroupState) → IsShown keys front g
      → ParentFirst keys g a.0 → a.0 < keys.shape.total → full_parent front a ≡ Some (p, group)
      → IsFull keys front a p group
  full_shown front g a p group s parent_first inside full = by_parent
      (parent_of keys.shape.lines keys.shape.layers a.0) refl
    where
      spelled_full : (held : List Held) → front.held ≡ held
          → full_parent (front_of keys.shape front.ic front.roots front.plb held) a ≡ Some (p, group)
      spelled_full held is = sym (ap (λ (x : FrontState). full_parent x a) (spelled front keys.shape held s.shape is))
          ∙ full

      is_full : (q : ℕ) → parent_of keys.shape.lines keys.shape.layers a.0 ≡ Some q → (h : Held) (held : List Held)
          → front.held ≡ h ∷ held → h.address.0 ≡ q → (b : Bool)
          → nat_le (2 ^ front.ic - 1) (slice_index h.group.own (child_in keys.shape a)) ≡ b
          → IsFull keys front a p group
      is_full q up h held is here false test = absurd (none_is_not (
          sym (full_first keys.shape front.ic front.roots front.plb h held a q up here
          ∙ ap {A = Bool} {B = Option (Address × GroupState)}
          (λ b. if b then Some (record { 0 = q }, h.group) else None)
          test) ∙ spelled_full (h ∷ held) is
          ))
      is_full q up h held is here true test = record {
        first = family.0;
        number = family.1;
        parent = up ∙ ap (λ (x : Address). Some x.0) above;
        children = children_p;
        family = ap (λ (x : Shape). children_in x p) s.shape
            ∙ ap (option_map (λ (first, number). (let x : Address = record { 0 = first } in x, number))) children_p;
        first_is = record {
          counter = h.counter;
          rest = held;
          held = is ∙ ap (λ (x : Held). x ∷ held) (λ i. record h { address = at i; group = same i });
        };
        used = (
          child_in keys.shape a,
          family.4,
          omega (
            arith,
            leb-true (2 ^ front.ic - 1) (slice_index h.group.own (child_in keys.shape a)) test,
            some_room front.ic (omega (arith, s.front_is.ic_from)),
            ap (λ (x : GroupState). slice_index x.own (child_in keys.shape a)) same,
          ),
        );
      }
        where
          pair : ◌≡◌ {A = Address × GroupState} (record { 0 = q }, h.group) (p, group)
          pair = some_is (
              sym (full_first keys.shape front.ic front.roots front.plb h held a q up here
              ∙ ap {A = Bool} {B = Option (Address × GroupState)}
              (λ b. if b then Some (record { 0 = q }, h.group) else None) test) ∙ spelled_full (h ∷ held) is
              )

          above : ◌≡◌ {A = Address} (record { 0 = q }) p
          above = ap (λ (x : Address × GroupState). x.0) pair

          same : h.group ≡ group
          same = ap (λ (x : Address × GroupState). x.1) pair

          at : h.address ≡ p
          at = (λ i. record { 0 = here i }) ∙ above

          family : (first : ℕ) × (number : ℕ)
              × (children_of keys.shape.lines keys.shape.layers q ≡ Some (first, number))
              × (a.0 ≡ first + child_in keys.shape a) × (child_in keys.shape a < number)
              × (q < layer_first keys.shape.lines keys.shape.layers)
          family = child_of_parent keys.shape.lines keys.shape.layers a.0 q
              (omega (arith, inside, (shape_layered keys.shape lawful.shape).total)) up

          children_p : children_of keys.shape.lines keys.shape.layers p.0 ≡ Some (family.0, family.1)
          children_p = ap (λ (x : Address). children_of keys.shape.lines keys.shape.layers x.0) (sym above) ∙ family.2

      by_held : (q : ℕ) → parent_of keys.shape.lines keys.shape.layers a.0 ≡ Some q → (rest : List ℕ)
          → g.held ≡ q ∷ rest → (held : List Held) → front.held ≡ held → IsFull keys front a p group
      by_held q up rest first_is [] is =
          let bad : [] ≡ q ∷ rest =
          sym (s.groups.listed ∙ chip_addresses front.held ∙ ap (λ (l : List Held). addresses_of l) is) ∙ first_is in
          absurd (cc)
      by_held q up rest first_is (h ∷ held) is =
          let heads : h.address.0 ∷ addresses_of held ≡ q ∷ rest =
          sym (s.groups.listed ∙ chip_addresses front.held ∙ ap (λ (l : List Held). addresses_of l) is) ∙ first_is in
          let here : h.address.0 ≡ q = cc in
          is_full q up h held is here
          (nat_le (2 ^ front.ic - 1) (slice_index h.group.own (child_in keys.shape a))) refl

      by_parent : (o : Option ℕ) → parent_of keys.shape.lines keys.shape.layers a.0 ≡ o → IsFull keys front a p group
      by_parent None top =
          let none : full_parent (front_of keys.shape front.ic front.roots front.plb front.held) a ≡ None =
          ap (full_by (front_of keys.shape front.ic front.roots front.plb front.held) a)
          (ap (option_map (λ (n : ℕ). let x : Address = record { 0 = n } in x)) top) in
          absurd (none_is_not (sym none ∙ spelled_full front.held refl))
      by_parent (Some q) up = let first_is = parent_first q up in by_held q up first_is.0 first_is.1 front.held refl
