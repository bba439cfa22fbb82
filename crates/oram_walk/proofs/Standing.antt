-- What a front end and a memory show stays shown, through each part of a walk.
use Rattle.std.proofs.Common.{◌≡◌, ◌≢◌, ℕ, ◌-◌, ◌<◌, true, false, List, length}
use Rattle.std.proofs.Common.{Option, Some, None, option_map, is_some, inl, inr, refl, sym, ap, ◌∙◌, subst}
use Rattle.std.proofs.lemmas.Bool.Decides.{eqb_tells}
use Rattle.asc_base.specs.TreeShape.{layer_count, layer_first, parent_of, children_of}
use Rattle.asc_base.specs.declared.shape.Shape.{Shape}
use Rattle.asc_base.specs.declared.block.Address.{Address}
use Rattle.asc_base.specs.declared.block.Counter.{Counter}
use Rattle.asc_base.specs.declared.block.Line.{Line}
use Rattle.asc_base.proofs.Lookups.{some_is, none_is_not}
use Rattle.posmap_counters.specs.Counters.{Counters, counter_at, next_group, Access, block_of, child_move, after}
use Rattle.posmap_counters.specs.Counters.{is_among}
use Rattle.posmap_counters.specs.Families.{HasCounters, HasRoots}
use Rattle.posmap_counters.specs.Group.{GroupState, IsGroup}
use Rattle.posmap_counters.proofs.ChangeLaws.{after_other}
use Rattle.posmap_counters.proofs.FamilyLaws.{block_of-child, moves_at, moves_other, counters_stay}
use Rattle.posmap_counters.proofs.RootLaws.{roots_stay}
use Rattle.posmap_lookaside.specs.Addresses.{used}
use Rattle.posmap_lookaside.specs.Held.{held_at, promoted, changed, with_group, with_counter, addresses_of}
use Rattle.posmap_lookaside.specs.declared.held.Held.{Held}
use Rattle.posmap_lookaside.proofs.AddressLaws.{addresses_of-promoted, addresses_of-changed, is_some-held_at}
use Rattle.posmap_lookaside.proofs.HeldLaws.{promoted_keeps, changed_at, changed_other}
use Rattle.oram_walk.specs.Shows.{IsShown}

-- a family's group by other counters, and by a block with another counter
shown_count : (o : Option Held) (line : Line) (count now : ℕ → Counter) (first number : ℕ)
    → ((group : GroupState) → HasCounters count first number group → HasCounters now first number group)
    → IsShown o line count first number → IsShown o line now first number
shown_count None line count now first number each (group, is, has, at) = (group, is, each group has, at)
shown_count (Some block) line count now first number each (is, has) = (is, each block.group has)

shown_counter : (o : Option Held) (next : Counter) (line : Line) (count : ℕ → Counter) (first number : ℕ)
    → IsShown o line count first number → IsShown (option_map (with_counter next) o) line count first number
shown_counter None next line count first number h = h
shown_counter (Some block) next line count first number h = h

-- the block of an address whose number is another's
pub at_number : (a b : Address) → a.0 ≡ b.0 → a ≡ b
at_number a b e = ap (λ n. let x : Address = record { 0 = n } in x) e

-- the counter of a block that was renumbered, and of one that has another group
renumbered_counter : (o : Option Held) (next : Counter) (block : Held) → option_map (with_counter next) o ≡ Some block
    → block.counter ≡ next
renumbered_counter None next block e = absurd (none_is_not e)
renumbered_counter (Some old) next block e = cc

regrouped_counter : (o : Option Held) (group : GroupState) (block : Held) (c : Counter)
    → ((old : Held) → o ≡ Some old → old.counter ≡ c) → option_map (with_group group) o ≡ Some block → block.counter ≡ c
regrouped_counter None group block c each e = absurd (none_is_not e)
regrouped_counter (Some old) group block c each e = let same = each old refl in cc

module _ (shape : Shape) where
  -- What is shown, but for the family of one block that moves.
  pub record Stands (moving : Option ℕ) (roots : List ℕ) (held : List Held) (lines : ℕ → Line) (list : List ℕ)
      (counters : Counters) : Type 0 where
    pub many : length roots ≡ layer_count shape.lines (shape.layers - 1)
    pub held_is : addresses_of held ≡ list
    pub roots_are : HasRoots shape.lines shape.layers (counter_at counters) roots
    pub counters_are : (address : Address) (block : Held) → held_at held address ≡ Some block
        → block.counter ≡ counter_at counters address.0
    pub groups_are : (address : Address) (first number : ℕ) → address.0 < layer_first shape.lines shape.layers
        → moving ≢ Some address.0 → children_of shape.lines shape.layers address.0 ≡ Some (first, number)
        → IsShown (held_at held address) (lines address.0) (counter_at counters) first number

  -- a block that is held stands in the list
  pub held_among : (held : List Held) (list : List ℕ) (address : Address) (block : Held) → addresses_of held ≡ list
      → held_at held address ≡ Some block → is_among list address.0 ≡ true
  held_among held list address block held_is at =
      ap (λ l. is_among l address.0) (sym held_is) ∙ sym (is_some-held_at held address) ∙ ap is_some at

  -- and one that doesn't, isn't held
  pub not_held : (held : List Held) (list : List ℕ) (q : ℕ) → addresses_of held ≡ list → is_among list q ≡ false
      → held_at held (record { 0 = q }) ≡ None
  not_held held list q same absent =
      by (held_at held (record { 0 = q }))
      (is_some-held_at held (record { 0 = q }) ∙ ap (λ l. is_among l q) same ∙ absent)
    where
      by : (o : Option Held) → is_some o ≡ false → o ≡ None
      by None none = refl
      by (Some block) some = absurd (cc)

  -- a child's part of a group move
  pub child_stands : (p c : ℕ) (next : Counter) (roots : List ℕ) (held : List Held) (lines : ℕ → Line) (list : List ℕ)
      (counters : Counters) → parent_of shape.lines shape.layers c ≡ Some p → next ≡ next_group (counter_at counters c)
      → Stands (Some p) roots held lines list counters
      → Stands (Some p) roots (changed (with_counter next) held (record { 0 = c })) lines list
      (after shape.lines shape.layers counters (child_move list c))
  child_stands p c next roots held lines list counters above is_next s = record {
    many = s.many;
    held_is = addresses_of-changed (with_counter next) held (record { 0 = c }) (λ h. refl) ∙ s.held_is;
    roots_are = roots_stay shape.lines shape.layers counters (child_move list c) roots
        (λ e. none_is_not (sym e ∙ here)) s.roots_are;
    counters_are = λ a block at. elim (eqb_tells a.0 c) [
      | inl same ↦
          let found = sym (changed_at (with_counter next) held (record { 0 = c }) (λ h. refl))
          ∙ ap (held_at (changed (with_counter next) held (record { 0 = c })))
          (sym (at_number a (record { 0 = c }) same.1))
          ∙ at in
          renumbered_counter (held_at held (record { 0 = c })) next block found ∙ is_next
          ∙ sym (moves_at shape.lines shape.layers counters list c)
          ∙ ap (counter_at (after shape.lines shape.layers counters (child_move list c))) (sym same.1)
      | inr other ↦
          s.counters_are a block
          (sym (changed_other (with_counter next) held (record { 0 = c }) a (λ h. refl) other.1) ∙ at)
          ∙ sym (moves_other shape.lines shape.layers counters list c a.0 other.1)
    ];
    groups_are = λ a first number low apart children.
        let count : ℕ → Counter = counter_at counters in
        let now : ℕ → Counter = counter_at (after shape.lines shape.layers counters (child_move list c)) in
        let by_count = shown_count (held_at held a) (lines a.0) count now first number
        (λ group has. counters_stay shape.lines shape.layers counters (child_move list c) a.0 first number group low
        children (λ e. apart (sym here ∙ e)) has) (s.groups_are a first number low apart children) in
        elim (eqb_tells a.0 c) [
          | inl same ↦
              let at = changed_at (with_counter next) held (record { 0 = c }) (λ h. refl) in
              subst (λ (x : Address). IsShown (held_at (changed (with_counter next) held (record { 0 = c })) x)
              (lines a.0) now first number) (sym (at_number a (record { 0 = c }) same.1))
              (subst (λ (o : Option Held). IsShown o (lines a.0) now first number) (sym at)
              (subst (λ (x : Address). IsShown (option_map (with_counter next) (held_at held x)) (lines a.0) now first
              number) (at_number a (record { 0 = c }) same.1)
              (shown_counter (held_at held a) next (lines a.0) now first number by_count)))
          | inr other ↦
              subst (λ (o : Option Held). IsShown o (lines a.0) now first number)
              (sym (changed_other (with_counter next) held (record { 0 = c }) a (λ h. refl) other.1)) by_count
        ];
  }
    where
      here : parent_of shape.lines shape.layers (block_of (child_move list c)) ≡ Some p
      here = ap (parent_of shape.lines shape.layers) (block_of-child list c) ∙ above

  -- a held block has another group, which shows its family
  pub regroup_stands : (p : Address) (block : Held) (group : GroupState) (roots : List ℕ) (held : List Held)
      (lines : ℕ → Line) (list : List ℕ) (counters : Counters) → held_at held p ≡ Some block → IsGroup group
      → ((first number : ℕ) → children_of shape.lines shape.layers p.0 ≡ Some (first, number)
      → HasCounters (counter_at counters) first number group)
      → Stands (Some p.0) roots held lines list counters
      → Stands None roots (changed (with_group group) held p) lines list counters
  regroup_stands p block group roots held lines list counters at is_group has s = record {
    many = s.many;
    held_is = addresses_of-changed (with_group group) held p (λ h. refl) ∙ s.held_is;
    roots_are = s.roots_are;
    counters_are = λ a found is. elim (eqb_tells a.0 p.0) [
      | inl same ↦
          regrouped_counter (held_at held p) group found (counter_at counters a.0)
          (λ old e. s.counters_are p old e ∙ ap (counter_at counters) (sym same.1))
          (sym (changed_at (with_group group) held p (λ h. refl))
          ∙ ap (held_at (changed (with_group group) held p)) (sym (at_number a p same.1)) ∙ is)
      | inr other ↦
          s.counters_are a found (sym (changed_other (with_group group) held p a (λ h. refl) other.1) ∙ is)
    ];
    groups_are = λ a first number low apart children. elim (eqb_tells a.0 p.0) [
      | inl same ↦
          let found : held_at (changed (with_group group) held p) a ≡ Some (with_group group block) =
          ap (held_at (changed (with_group group) held p)) (at_number a p same.1)
          ∙ changed_at (with_group group) held p (λ h. refl) ∙ ap (option_map (with_group group)) at in
          subst (λ (o : Option Held). IsShown o (lines a.0) (counter_at counters) first number) (sym found)
          (is_group, has first number (ap (children_of shape.lines shape.layers) (sym same.1) ∙ children))
      | inr other ↦
          subst (λ (o : Option Held). IsShown o (lines a.0) (counter_at counters) first number)
          (sym (changed_other (with_group group) held p a (λ h. refl) other.1))
          (s.groups_are a first number low (λ e. other.1 (sym (some_is e))) children)
    ];
  }

  -- an access to a block that isn't held
  pub access_stands : (b : ℕ) (roots roots' : List ℕ) (held : List Held) (lines lines' : ℕ → Line) (list : List ℕ)
      (counters : Counters) → is_among list b ≡ false → length roots' ≡ length roots
      → HasRoots shape.lines shape.layers (counter_at (after shape.lines shape.layers counters (Access b))) roots'
      → ((a first number : ℕ) → children_of shape.lines shape.layers a ≡ Some (first, number) → lines' a ≡ lines a)
      → Stands None roots held lines list counters
      → Stands (parent_of shape.lines shape.layers b) roots' held lines' list
      (after shape.lines shape.layers counters (Access b))
  access_stands b roots roots' held lines lines' list counters absent long has_roots kept s = record {
    many = long ∙ s.many;
    held_is = s.held_is;
    roots_are = has_roots;
    counters_are = λ a block at.
        s.counters_are a block at
        ∙ sym (after_other shape.lines shape.layers counters (Access b) a.0
        (λ e. yes_no (sym (held_among held list a block s.held_is at) ∙ ap (is_among list) e ∙ absent)));
    groups_are = λ a first number low apart children.
        subst (λ (line : Line). IsShown (held_at held a) line
        (counter_at (after shape.lines shape.layers counters (Access b))) first number)
        (sym (kept a.0 first number children))
        (shown_count (held_at held a) (lines a.0) (counter_at counters)
        (counter_at (after shape.lines shape.layers counters (Access b))) first number
        (λ group has. counters_stay shape.lines shape.layers counters (Access b) a.0 first number group low children
        apart has) (s.groups_are a first number low (λ e. none_is_not e) children));
  }
    where
      yes_no : true ≡ false → ⊥
      yes_no e = cc

  -- a held block is used
  pub used_stands : (p : Address) (roots : List ℕ) (held : List Held) (lines : ℕ → Line) (list : List ℕ)
      (counters : Counters) → Stands None roots held lines list counters
      → Stands None roots (promoted held p) lines (used list p.0) counters
  used_stands p roots held lines list counters s = record {
    many = s.many;
    held_is = addresses_of-promoted held p ∙ ap (λ l. used l p.0) s.held_is;
    roots_are = s.roots_are;
    counters_are = λ a block at. s.counters_are a block (sym (promoted_keeps held p a) ∙ at);
    groups_are = λ a first number low apart children.
        subst (λ (o : Option Held). IsShown o (lines a.0) (counter_at counters) first number)
        (sym (promoted_keeps held p a)) (s.groups_are a first number low apart children);
  }

  -- a family may move
  pub opened : (p : ℕ) (roots : List ℕ) (held : List Held) (lines : ℕ → Line) (list : List ℕ) (counters : Counters)
      → Stands None roots held lines list counters → Stands (Some p) roots held lines list counters
  opened p roots held lines list counters s = record {
    many = s.many;
    held_is = s.held_is;
    roots_are = s.roots_are;
    counters_are = s.counters_are;
    groups_are = λ a first number low apart children. s.groups_are a first number low (λ e. none_is_not e) children;
  }
