-- An access that is asked for shows the accesses of its changes, and what is shown of the counters stays shown.
use Rattle.std.proofs.Common.{◌≡◌, ◌≢◌, ℕ, zero, suc, ◌+◌, ◌-◌, ◌%◌, ◌^◌, ◌<◌, ◌≤◌, Bool, true, false, is_some}
use Rattle.std.proofs.Common.{is_none, nat_le}
use Rattle.std.proofs.Common.{List, [], ◌∷◌, ◌++◌, map, get_or, Option, Some, None, option_map, inl, inr}
use Rattle.std.proofs.Common.{refl, sym, ap, ◌∙◌, subst, arith, append-nil, append_assoc, length-set}
use Rattle.std.specs.Prelude.{if◌then◌else◌, slice_set, slice_index}
use Rattle.std.specs.Option.{option_map_or}
use Rattle.std.proofs.lemmas.Bool.Decides.{leb_tells}
use Rattle.request_plan.specs.Plan.{Done}
use Rattle.asc_base.specs.TreeShape.{layer_first, parent_of, children_of, child_index_of}
use Rattle.asc_base.specs.declared.shape.Shape.{Shape}
use Rattle.asc_base.specs.declared.block.Address.{Address}
use Rattle.asc_base.specs.declared.block.Counter.{Counter}
use Rattle.asc_base.specs.declared.block.Line.{Line}
use Rattle.asc_base.specs.Shape.{children_in}
use Rattle.asc_base.proofs.Families.{child_of_parent, parent_of_child, parent_above, children_few}
use Rattle.asc_base.proofs.Lookups.{none_is_not}
use Rattle.posmap_counters.specs.Counters.{Counters, counter_at, next_group, Change, Access, MoveChild, RenumberChild}
use Rattle.posmap_counters.specs.Counters.{child_move, after, after_all, asked_changes, group_move, is_among, block_of}
use Rattle.posmap_counters.specs.Counters.{addresses_from}
use Rattle.posmap_counters.specs.Families.{HasCounters, HasRoots, IsMoving, family_line}
use Rattle.posmap_counters.specs.Group.{GroupState, IsGroup, child_counter, moved_group, stepped_group, line_in}
use Rattle.posmap_counters.proofs.AskedLaws.{family-full, family-room, some_room}
use Rattle.posmap_counters.proofs.FamilyLaws.{step_counters, zeros_at, counters_stay}
use Rattle.posmap_counters.proofs.FamilyLines.{step_is, moved_is, family_only}
use Rattle.posmap_counters.proofs.RootLaws.{step_roots, roots_stay, asked-root}
use Rattle.posmap_counters.proofs.ChangeLaws.{after_at}
use Rattle.posmap_counters.proofs.MoveLaws.{move_begins, move_ends, move_is, child_moves}
use Rattle.posmap_lookaside.specs.Held.{held_at, changed, with_group, with_counter, addresses_of}
use Rattle.posmap_lookaside.specs.Walk.{WalkSizes}
use Rattle.posmap_lookaside.specs.declared.held.Held.{Held}
use Rattle.posmap_lookaside.proofs.AddressLaws.{is_some-held_at}
use Rattle.posmap_lookaside.proofs.HeldLaws.{changed_at, changed_other}
use Rattle.oram_walk.specs.Front.{FrontState, with_held, counter_in, counter_by, counter_under, stepped, stepped_by}
use Rattle.oram_walk.specs.Front.{stepped_under, full_parent, full_by, full_under}
use Rattle.oram_walk.specs.Memory.{Shown, Accessed, put_back}
use Rattle.oram_walk.specs.Plans.{on, child_by, child_plan, children_plan, family_plan, move_plan}
use Rattle.oram_walk.specs.Plans.{full_plan, step_plan, visit_plan}
use Rattle.oram_walk.specs.Shows.{IsShown, found_line}
use Rattle.oram_walk.specs.declared.slots.Purpose.{Purpose}
use Rattle.oram_walk.specs.declared.slots.Purpose.TheVariants.{Keep}
use Rattle.oram_walk.proofs.Played.{Lines, Goes, goes_on}
use Rattle.oram_walk.specs.declared.slots.Seen.{Seen}
use Rattle.oram_walk.proofs.Standing.{Stands, not_held, opened, child_stands, regroup_stands, access_stands}

module _ (cycles : ℕ) (shape : Shape) (ic plb : ℕ) where
  abbrev pub front : List ℕ → List Held → FrontState
  front roots held = record { shape = shape; ic = ic; roots = roots; held = held; plb = plb }

  abbrev pub next_of : Counters → Change → Counters
  next_of counters change = after shape.lines shape.layers counters change

  abbrev pub all_of : Counters → List Change → Counters
  all_of counters changes = after_all shape.lines shape.layers counters changes

  abbrev sizes : WalkSizes
  sizes = record { lines = shape.lines; layers = shape.layers; plb = plb; ic = ic }

  -- the line that is found of a block, under these counters
  abbrev found : Lines → Counters → ℕ → Line
  found lines counters a = found_line sizes (counter_at counters) lines a

  -- what the access of a change shows
  abbrev pub shown_change : Lines → Purpose → Counters → Change → List Shown
  shown_change lines put counters (Access a) =
      Accessed a (counter_at counters a) (counter_at (next_of counters (Access a)) a) put
      (found lines (next_of counters (Access a)) a) ∷ []
  shown_change lines put counters (MoveChild a) =
      Accessed a (counter_at counters a) (counter_at (next_of counters (MoveChild a)) a) Keep
      (found lines (next_of counters (MoveChild a)) a) ∷ []
  shown_change lines put counters (RenumberChild a) = []

  abbrev pub shown_all : Lines → Purpose → Counters → List Change → List Shown
  shown_all lines put counters [] = []
  shown_all lines put counters (change ∷ changes) =
      shown_change lines put counters change ++ shown_all lines put (next_of counters change) changes

  -- a block that isn't held is found with its line, before the change of its counter and by the counters after it
  found_is : (moving : Option ℕ) (change : Change) (roots : List ℕ) (held : List Held) (lines : Lines) (list : List ℕ)
      (counters : Counters) → block_of change < layer_first shape.lines shape.layers
      → is_among list (block_of change) ≡ false → moving ≢ Some (block_of change)
      → Stands shape moving roots held lines list counters
      → lines (block_of change) ≡ found lines (next_of counters change) (block_of change)
  found_is moving change roots held lines list counters low absent apart s =
      by (children_of shape.lines shape.layers b) refl
    where
      b : ℕ
      b = block_of change

      above : parent_of shape.lines shape.layers b ≢ Some b
      above same = absurd (omega (arith, (parent_above shape.lines shape.layers b b low same).0))

      by : (o : Option (ℕ × ℕ)) → children_of shape.lines shape.layers b ≡ o
          → lines b ≡ option_map_or (λ (family : ℕ × ℕ).
          let line : Line = record { 0 = family_line (counter_at (next_of counters change)) family } in line) o
          (lines b)
      by None none = refl
      by (Some (first, number)) children =
          let few = children_few shape.lines shape.layers b first number low children in
          let shown = subst (λ (o : Option Held). IsShown o (lines b) (counter_at counters) first number)
          (not_held shape held list b s.held_is absent)
          (s.groups_are (record { 0 = b }) first number low apart children) in
          let has = counters_stay shape.lines shape.layers counters change b first number (shown.0) low children above
          shown.2 in
          let is = family_only (counter_at (next_of counters change)) first number (shown.0) few.0 (shown.1).children
          has in
          ap (λ bytes. let line : Line = record { 0 = bytes } in line) (shown.3 ∙ ap line_in is)

  -- a child's part of a group move
  child_by_goes : (is : Bool) (state : FrontState) (asked : ℕ) (lines : Lines) (c : Address) (counter next : Counter)
      → Goes cycles
      (child_by is state (record { asked = asked; address = c; counter = counter; next = next; purpose = Keep })) lines
      (if is then [] else Accessed c.0 counter next Keep (lines c.0) ∷ []) lines state
      (if is then asked else asked + cycles)
  child_by_goes true state asked lines c counter next = record { shows = refl; ends = refl }
  child_by_goes false state asked lines c counter next = record { shows = refl; ends = refl }

  shown_child : (put : Purpose) (lines : Lines) (counters : Counters) (list : List ℕ) (c : ℕ) (counter next : Counter)
      (is : Bool) → is_among list c ≡ is → counter ≡ counter_at counters c
      → next ≡ counter_at (next_of counters (MoveChild c)) c
      → (is_among list c ≡ false → lines c ≡ found lines (next_of counters (MoveChild c)) c)
      → (if is then [] else Accessed c counter next Keep (lines c) ∷ [])
      ≡ shown_change lines put counters (child_move list c)
  shown_child put lines counters list c counter next true there is_counter is_next is_found = rw there refl
  shown_child put lines counters list c counter next false absent is_counter is_next is_found =
      rw (absent, is_counter, is_next)
      (ap (λ line. Accessed c (counter_at counters c) (counter_at (next_of counters (MoveChild c)) c) Keep line ∷ [])
      (is_found absent))

  child_goes : (put : Purpose) (roots : List ℕ) (held : List Held) (lines : Lines) (list : List ℕ) (counters : Counters)
      (asked c : ℕ) (counter next : Counter) → addresses_of held ≡ list → counter ≡ counter_at counters c
      → next ≡ counter_at (next_of counters (MoveChild c)) c
      → (is_among list c ≡ false → lines c ≡ found lines (next_of counters (MoveChild c)) c)
      → Goes cycles (child_plan (front roots held) asked (record { 0 = c }) counter next) lines
      (shown_change lines put counters (child_move list c)) lines
      (front roots (changed (with_counter next) held (record { 0 = c })))
      (if is_among list c then asked else asked + cycles)
  child_goes put roots held lines list counters asked c counter next held_is is_counter is_next is_found =
      let test : is_some (held_at held (record { 0 = c })) ≡ is_among list c =
      is_some-held_at held (record { 0 = c }) ∙ ap (λ l. is_among l c) held_is in
      let state : FrontState = front roots (changed (with_counter next) held (record { 0 = c })) in
      subst (λ b. Goes cycles (child_by b state
      (record { asked = asked; address = record { 0 = c }; counter = counter; next = next; purpose = Keep })) lines
      (shown_change lines put counters (child_move list c)) lines state
      (if is_among list c then asked else asked + cycles))
      (sym test)
      (subst (λ shown. Goes cycles (child_by (is_among list c) state
      (record { asked = asked; address = record { 0 = c }; counter = counter; next = next; purpose = Keep })) lines
      shown lines state (if is_among list c then asked else asked + cycles))
      (shown_child put lines counters list c counter next (is_among list c) refl is_counter is_next is_found)
      (child_by_goes (is_among list c) state asked lines (record { 0 = c }) counter next))

  -- what so many children of a family, from one on, leave of a group move
  record Moved (put : Purpose) (p first number done left : ℕ) (from : ℕ) (group : GroupState) (block : Held)
      (roots : List ℕ) (held : List Held) (lines : Lines) (list : List ℕ) (counters : Counters)
      (asked : ℕ) : Type 0 where
    pub later : List Held
    pub end : ℕ
    pub goes : Goes cycles (children_plan group first done left (front roots held) asked) lines
        (shown_all lines put counters (map (child_move list) (addresses_from from left))) lines (front roots later) end
    pub stands : Stands shape (Some p) roots later lines list
        (all_of counters (map (child_move list) (addresses_from from left)))
    pub moving : IsMoving (counter_at (all_of counters (map (child_move list) (addresses_from from left)))) first number
        (done + left) group
    pub parent : held_at later (record { 0 = p }) ≡ Some block

  number_is : {a b : ℕ} → Some a ≡ Some b → a ≡ b
  number_is e = cc

  -- a child of a block
  record IsChild (p c : ℕ) : Type 0 where
    pub above : parent_of shape.lines shape.layers c ≡ Some p
    pub apart : p ≢ c
    pub low : c < layer_first shape.lines shape.layers

  children_goes : (put : Purpose) (p first number done left : ℕ) (group : GroupState) (block : Held) (roots : List ℕ)
      (held : List Held) (lines : Lines) (list : List ℕ) (counters : Counters) (asked : ℕ) → done + left ≤ number
      → ((k : ℕ) → k < number → IsChild p (first + k)) → Stands shape (Some p) roots held lines list counters
      → IsMoving (counter_at counters) first number done group → held_at held (record { 0 = p }) ≡ Some block
      → Moved put p first number done left (first + done) group block roots held lines list counters asked
  unfolding after_all addresses_from
  children_goes put p first number done zero group block roots held lines list counters asked few family stands moving
      at = record {
        later = held;
        end = asked;
        goes = record { shows = refl; ends = refl };
        stands = stands;
        moving = let same : done ≡ done + 0 = omega arith in
            subst (λ n. IsMoving (counter_at counters) first number n group) same moving;
        parent = at;
      }
  children_goes put p first number done (suc left) group block roots held lines list counters asked few family stands
      moving at =
      let c : ℕ = first + done in
      let next : Counter = next_group (child_counter group done) in
      let within : done < number = omega arith in
      let shown = moving.left done (omega arith) within in
      let raised : next ≡ next_group (counter_at counters c) = ap next_group (sym shown) in
      let now : Counters = next_of counters (child_move list c) in
      let held' : List Held = changed (with_counter next) held (record { 0 = c }) in
      let end : ℕ = (if is_among list c then asked else asked + cycles) in
      let is_child : IsChild p c = family done within in
      let one = child_goes put roots held lines list counters asked c (child_counter group done) next stands.held_is
      (sym shown) (raised ∙ sym (after_at shape.lines shape.layers counters (MoveChild c)))
      (λ absent. found_is (Some p) (MoveChild c) roots held lines list counters is_child.low absent
      (λ e. is_child.apart (number_is e)) stands) in
      let place : first + (done + 1) ≡ first + done + 1 = omega arith in
      let rest : Moved put p first number (done + 1) left (first + done + 1) group block roots held'
      lines list now end =
      subst (λ from. Moved put p first number (done + 1) left from group block roots held' lines list now end) place
      (children_goes put p first number (done + 1) left group block roots held' lines list now end (omega arith) family
      (child_stands shape p c next roots held lines list counters is_child.above raised stands)
      (child_moves shape.lines shape.layers counters first number done group list within moving)
      (changed_other (with_counter next) held (record { 0 = c }) (record { 0 = p }) (λ h. refl) is_child.apart
      ∙ at)) in
      record {
        later = rest.later;
        end = rest.end;
        goes = goes_on cycles (child_plan (front roots held) asked (record { 0 = c }) (child_counter group done) next)
            (λ s e. children_plan group first (done + 1) left s e) lines lines lines
            (shown_change lines put counters (child_move list c))
            (shown_all lines put now (map (child_move list) (addresses_from (first + done + 1) left)))
            (front roots held') (front roots rest.later) end rest.end one rest.goes;
        stands = rest.stands;
        moving = let same : done + 1 + left ≡ done + suc left = omega arith in
            subst
            (λ n. IsMoving
            (counter_at (all_of now (map (child_move list) (addresses_from (first + done + 1) left))))
            first number n group) same rest.moving;
        parent = rest.parent;
      }

  abbrev address_of : ℕ → Address
  address_of n = record { 0 = n }

  pair_is : {a b : ℕ × ℕ} → Some a ≡ Some b → a ≡ b
  pair_is e = cc

  -- a block under its held parent
  pub record IsUnder (b p first number : ℕ) (held : List Held) (block : Held) : Type 0 where
    pub above : parent_of shape.lines shape.layers b ≡ Some p
    pub children : children_of shape.lines shape.layers p ≡ Some (first, number)
    pub place : b ≡ first + child_index_of shape.lines shape.layers b
    pub within : child_index_of shape.lines shape.layers b < number
    pub few : number ≤ 32
    pub inside : p < layer_first shape.lines shape.layers
    pub low : b < layer_first shape.lines shape.layers
    pub at : held_at held (record { 0 = p }) ≡ Some block

  -- a block has a place under its parent
  pub under_of : (b p : ℕ) (held : List Held) (block : Held) → b < layer_first shape.lines shape.layers
      → parent_of shape.lines shape.layers b ≡ Some p → held_at held (record { 0 = p }) ≡ Some block
      → (first : ℕ) × (number : ℕ) × IsUnder b p first number held block
  under_of b p held block low above at =
      let up = child_of_parent shape.lines shape.layers b p low above in (
        up.0,
        up.1,
        record {
          above = above;
          children = up.2;
          place = up.3;
          within = up.4;
          few = (children_few shape.lines shape.layers p (up.0) (up.1) up.5 up.2).1;
          inside = up.5;
          low = low;
          at = at;
        },
      )

  -- it is one of the family
  member : (b p first number : ℕ) (held : List Held) (block : Held) → IsUnder b p first number held block → (k : ℕ)
      → k < number → IsChild p (first + k)
  member b p first number held block u k h =
      let few = children_few shape.lines shape.layers p first number u.inside u.children in
      record {
        above = (parent_of_child shape.lines shape.layers p first number k u.inside u.children h).0;
        apart = λ same. absurd (omega (arith, same, few.2));
        low = omega (arith, few.2, u.inside, h);
      }

  -- the group of the parent, by the family that it has
  pub has_group : (b p first number : ℕ) (held : List Held) (block : Held) (roots : List ℕ)
      (lines : Lines) (list : List ℕ)
      (counters : Counters) → IsUnder b p first number held block → Stands shape None roots held lines list counters
      → IsGroup block.group × HasCounters (counter_at counters) first number block.group
  has_group b p first number held block roots lines list counters u s =
      subst (λ (o : Option Held). IsShown o (lines p) (counter_at counters) first number) u.at
      (s.groups_are (record { 0 = p }) first number u.inside (λ e. none_is_not e) u.children)

  -- A group move of the block's family.
  record Grouped (put : Purpose) (b p first number : ℕ) (group : GroupState) (block : Held) (roots : List ℕ)
      (held : List Held) (lines : Lines) (list : List ℕ) (counters : Counters) (asked : ℕ) : Type 0 where
    pub later : List Held
    pub end : ℕ
    pub goes : Goes cycles (move_plan (front roots held) asked (record { 0 = p }) group) lines
        (shown_all lines put counters (group_move shape.lines shape.layers list b)) lines (front roots later) end
    pub stands : Stands shape None roots later lines list
        (all_of counters (group_move shape.lines shape.layers list b))
    pub under : IsUnder b p first number later (with_group (moved_group group) block)

  move_goes : (put : Purpose) (b p first number : ℕ) (block : Held) (roots : List ℕ) (held : List Held) (lines : Lines)
      (list : List ℕ) (counters : Counters) (asked : ℕ) → IsUnder b p first number held block
      → Stands shape None roots held lines list counters
      → Grouped put b p first number block.group block roots held lines list counters asked
  move_goes put b p first number block roots held lines list counters asked u s =
      let group : GroupState = block.group in
      let has = has_group b p first number held block roots lines list counters u s in
      let zero_place : first + 0 ≡ first = omega arith in
      let moves : group_move shape.lines shape.layers list b ≡ map (child_move list) (addresses_from first number) =
      move_is shape.lines shape.layers list b p first number u.above u.children in
      let begun : Moved put p first number 0 number (first + 0) group block roots held lines list counters asked =
      children_goes put p first number 0 number group block roots held lines list counters asked (omega arith)
      (member b p first number held block u) (opened shape p roots held lines list counters s)
      (move_begins (counter_at counters) first number group has.1) u.at in
      let done : Moved put p first number 0 number first group block roots held lines list counters asked =
      subst (λ from. Moved put p first number 0 number from group block roots held lines list counters asked) zero_place
      begun in
      let now : Counters = all_of counters (map (child_move list) (addresses_from first number)) in
      let all_done : IsMoving (counter_at now) first number number group =
      let same : 0 + number ≡ number = omega arith in
      subst (λ n. IsMoving (counter_at now) first number n group) same done.moving in
      let ended = move_ends (counter_at now) first number group all_done in
      let family : children_in shape (record { 0 = p }) ≡ Some (record { 0 = first }, number) =
      ap (option_map (λ (f, n). (let x : Address = record { 0 = f } in x, n))) u.children in
      let later : List Held = changed (with_group (moved_group group)) done.later (record { 0 = p }) in
      let whole : Goes cycles (family_plan group (children_in shape (record { 0 = p })) (front roots held) asked) lines
      (shown_all lines put counters (map (child_move list) (addresses_from first number))) lines
      (front roots done.later)
      done.end =
      subst (λ (o : Option (Address × ℕ)). Goes cycles (family_plan group o (front roots held) asked) lines
      (shown_all lines put counters (map (child_move list) (addresses_from first number))) lines
      (front roots done.later)
      done.end) (sym family) done.goes in
      let closed = regroup_stands shape (record { 0 = p }) block (moved_group group) roots done.later lines list now
      done.parent (moved_is group)
      (λ f n children. subst (λ (x : ℕ × ℕ). HasCounters (counter_at now) (x.0) (x.1) (moved_group group))
      (pair_is (sym u.children ∙ children)) ended) done.stands in
      record {
        later = later;
        end = done.end;
        goes = subst (λ changes. Goes cycles (move_plan (front roots held) asked (record { 0 = p }) group) lines
            (shown_all lines put counters changes) lines (front roots later) done.end) (sym moves)
            (subst (λ shown. Goes cycles (move_plan (front roots held) asked (record { 0 = p }) group) lines shown lines
            (front roots later) done.end) (append-nil _)
            (goes_on cycles (family_plan group (children_in shape (record { 0 = p })) (front roots held) asked)
            (λ s e. Done (with_held s (changed (with_group (moved_group group)) s.held (record { 0 = p })), e))
            lines lines lines (shown_all lines put counters (map (child_move list) (addresses_from first number))) []
            (front roots done.later) (front roots later) done.end done.end whole
            (record { shows = refl; ends = refl })));
        stands = subst (λ changes. Stands shape None roots later lines list (all_of counters changes))
            (sym moves) closed;
        under = record {
          above = u.above;
          children = u.children;
          place = u.place;
          within = u.within;
          few = u.few;
          inside = u.inside;
          low = u.low;
          at = changed_at (with_group (moved_group group)) done.later (record { 0 = p }) (λ h. refl)
              ∙ ap (option_map (with_group (moved_group group))) done.parent;
        };
      }

  -- the counter that the front end shows of a block under its held parent, and of one of the top layer
  pub counter_under_parent : (b p first number : ℕ) (block : Held) (roots : List ℕ) (held : List Held) (lines : Lines)
      (list : List ℕ) (counters : Counters) → IsUnder b p first number held block
      → HasCounters (counter_at counters) first number block.group
      → counter_in (front roots held) (record { 0 = b }) ≡ counter_at counters b
  counter_under_parent b p first number block roots held lines list counters u has =
      let child : ℕ = child_index_of shape.lines shape.layers b in
      ap (λ (o : Option ℕ). counter_by (front roots held) (record { 0 = b })
      (option_map (λ n. let x : Address = record { 0 = n } in x) o)) u.above
      ∙ ap (λ (o : Option Held). counter_under child (option_map (λ (h : Held). h.group) o)) u.at
      ∙ sym (has.children child u.within) ∙ ap (counter_at counters) (sym u.place)

  pub counter_of_root : (b : ℕ) (roots : List ℕ) (held : List Held) (counters : Counters)
      → parent_of shape.lines shape.layers b ≡ None → b < layer_first shape.lines shape.layers
      → HasRoots shape.lines shape.layers (counter_at counters) roots
      → counter_in (front roots held) (record { 0 = b }) ≡ counter_at counters b
  counter_of_root b roots held counters top low has =
      ap (λ (o : Option ℕ). counter_by (front roots held) (record { 0 = b })
      (option_map (λ n. let x : Address = record { 0 = n } in x) o)) top
      ∙ sym (has b low top)

  -- the step and its access, by the counters before and after
  step_goes : (put : Purpose) (b : Address) (state now : FrontState) (lines : Lines) (asked : ℕ) (c c' : Counter)
      (line : Line) → stepped state b ≡ now → counter_in state b ≡ c → counter_in now b ≡ c' → lines b.0 ≡ line
      → Goes cycles (step_plan state asked b put) lines (Accessed b.0 c c' put line ∷ []) (put_back lines b.0 put) now
      (record { line = lines b.0; end = asked + cycles })
  step_goes put b state now lines asked c c' line is_now before after_it is_line = record {
    shows = ap (λ x. Accessed b.0 x (counter_in (stepped state b) b) put (lines b.0) ∷ []) before
        ∙ ap (λ x. Accessed b.0 c x put (lines b.0) ∷ []) (ap (λ (s : FrontState). counter_in s b) is_now ∙ after_it)
        ∙ ap (λ l. Accessed b.0 c c' put l ∷ []) is_line;
    ends = ap (λ (s : FrontState).
        let seen : Seen = record { line = lines b.0; end = asked + cycles } in
        (put_back lines b.0 put, (s, seen))) is_now;
  }

  -- What an access that is asked for leaves.
  pub record Visited (put : Purpose) (b : ℕ) (roots : List ℕ) (held : List Held) (lines : Lines) (list : List ℕ)
      (counters : Counters) (asked : ℕ) : Type 0 where
    pub roots' : List ℕ
    pub later : List Held
    pub end : ℕ
    pub goes : Goes cycles (visit_plan (front roots held) asked (record { 0 = b }) put) lines
        (shown_all lines put counters (asked_changes shape.lines shape.layers ic list counters b))
        (put_back lines b put) (front roots' later) (record { line = lines b; end = end })
    pub stands : Stands shape None roots' later (put_back lines b put) list
        (all_of counters (asked_changes shape.lines shape.layers ic list counters b))

  -- what is kept of a map block's line
  abbrev pub Keeps : Lines → ℕ → Purpose → Type 0
  Keeps lines b put = (a first number : ℕ) → children_of shape.lines shape.layers a ≡ Some (first, number)
      → put_back lines b put a ≡ lines a

  -- an access in the top layer
  root_goes : (put : Purpose) (b : ℕ) (roots : List ℕ) (held : List Held) (lines : Lines) (list : List ℕ)
      (counters : Counters) (asked : ℕ) → 1 ≤ ic → b < layer_first shape.lines shape.layers
      → parent_of shape.lines shape.layers b ≡ None → is_among list b ≡ false → Keeps lines b put
      → Stands shape None roots held lines list counters
      → Visited put b roots held lines list counters asked
  unfolding after_all
  root_goes put b roots held lines list counters asked bits low top absent kept s =
      let place : ℕ = b - layer_first shape.lines (shape.layers - 1) in
      let roots' : List ℕ = slice_set roots place ((slice_index roots place + 1) % 2 ^ 64) in
      let has = step_roots shape.lines shape.layers counters b roots s.many low top s.roots_are in
      let alone = asked-root shape.lines shape.layers ic counters list roots b bits low top s.roots_are in
      let address : Address = record { 0 = b } in
      let now : Counters = next_of counters (Access b) in
      let seen : Seen = record { line = lines b; end = asked + cycles } in
      let here : Goes cycles (step_plan (front roots held) asked address put) lines
      (Accessed b (counter_at counters b) (counter_at now b) put (found lines now b) ∷ []) (put_back lines b put)
      (front roots' held) seen =
      step_goes put address (front roots held) (front roots' held) lines asked (counter_at counters b)
      (counter_at now b) (found lines now b)
      (ap (λ (o : Option ℕ). stepped_by (front roots held) address
      (option_map (λ n. let x : Address = record { 0 = n } in x) o)) top)
      (counter_of_root b roots held counters top low s.roots_are) (counter_of_root b roots' held now top low has)
      (found_is None (Access b) roots held lines list counters low absent (λ e. none_is_not e) s) in
      let none : full_parent (front roots held) address ≡ None =
      ap (λ (o : Option ℕ). full_by (front roots held) address
      (option_map (λ n. let x : Address = record { 0 = n } in x) o)) top in
      let stands : Stands shape None roots' held (put_back lines b put) list now =
      subst (λ (o : Option ℕ). Stands shape o roots' held (put_back lines b put) list now) top
      (access_stands shape b roots roots' held lines (put_back lines b put) list counters absent
      (length-set roots place ((slice_index roots place + 1) % 2 ^ 64)) has kept s) in
      record {
        roots' = roots';
        later = held;
        end = asked + cycles;
        goes = subst (λ changes. Goes cycles (visit_plan (front roots held) asked address put) lines
            (shown_all lines put counters changes) (put_back lines b put) (front roots' held) seen) (sym alone)
            (subst (λ (o : Option (Address × GroupState)). Goes cycles
            (on (full_plan (front roots held) asked o) (λ later end. step_plan later end address put)) lines
            (Accessed b (counter_at counters b) (counter_at now b) put (found lines now b) ∷ []) (put_back lines b put)
            (front roots' held) seen) (sym none) here);
        stands = subst (λ changes. Stands shape None roots' held (put_back lines b put) list (all_of counters changes))
            (sym alone) stands;
      }

  -- an access to a child of a held block that has room for it
  under_goes : (put : Purpose) (b p first number : ℕ) (block : Held) (roots : List ℕ) (held : List Held) (lines : Lines)
      (list : List ℕ) (counters : Counters) (asked : ℕ) → ic ≤ 14 → IsUnder b p first number held block
      → is_among list b ≡ false → Keeps lines b put
      → get_or block.group.own (child_index_of shape.lines shape.layers b) 0 < 2 ^ ic - 1
      → Stands shape None roots held lines list counters
      → (later : List Held)
      × Goes cycles (step_plan (front roots held) asked (record { 0 = b }) put) lines
      (Accessed b (counter_at counters b) (counter_at (next_of counters (Access b)) b) put
      (found lines (next_of counters (Access b)) b) ∷ []) (put_back lines b put) (front roots later)
      (record { line = lines b; end = asked + cycles })
      × Stands shape None roots later (put_back lines b put) list (next_of counters (Access b))
  under_goes put b p first number block roots held lines list counters asked bits u absent kept room s =
      let child : ℕ = child_index_of shape.lines shape.layers b in
      let has = has_group b p first number held block roots lines list counters u s in
      let group' : GroupState = stepped_group ic block.group child in
      let now : Counters = next_of counters (Access b) in
      let address : Address = record { 0 = b } in
      let later : List Held = changed (with_group group') held (record { 0 = p }) in
      let stepped_has : HasCounters (counter_at now) first number group' =
      subst (λ x. HasCounters (counter_at (next_of counters (Access x))) first number group') (sym u.place)
      (step_counters shape.lines shape.layers counters ic first number child block.group u.within
      (omega (arith, u.few, (has.0).children))
      (ap is_none (ap (parent_of shape.lines shape.layers) (sym u.place) ∙ u.above)) room has.1) in
      let has_roots = roots_stay shape.lines shape.layers counters (Access b) roots
      (λ e. none_is_not (sym e ∙ u.above)) s.roots_are in
      let moved : Stands shape (Some p) roots held (put_back lines b put) list now =
      subst (λ (o : Option ℕ). Stands shape o roots held (put_back lines b put) list now) u.above
      (access_stands shape b roots roots held lines (put_back lines b put) list counters absent refl has_roots kept s)
      in
      let stands = regroup_stands shape (record { 0 = p }) block group' roots held (put_back lines b put) list now u.at
      (step_is ic child block.group bits has.0)
      (λ f n children. subst (λ (x : ℕ × ℕ). HasCounters (counter_at now) (x.0) (x.1) group')
      (pair_is (sym u.children ∙ children)) stepped_has) moved in
      let after_u : IsUnder b p first number later (with_group group' block) = record {
        above = u.above;
        children = u.children;
        place = u.place;
        within = u.within;
        few = u.few;
        inside = u.inside;
        low = u.low;
        at = changed_at (with_group group') held (record { 0 = p }) (λ h. refl)
            ∙ ap (option_map (with_group group')) u.at;
      } in
      let is_stepped : stepped (front roots held) address ≡ front roots later =
      ap (λ (o : Option ℕ). stepped_by (front roots held) address
      (option_map (λ n. let x : Address = record { 0 = n } in x) o)) u.above
      ∙ ap (λ (o : Option Held). stepped_under (front roots held) address (record { 0 = p })
      (option_map (λ (h : Held). h.group) o)) u.at in (
        later,
        step_goes put address (front roots held) (front roots later) lines asked (counter_at counters b)
            (counter_at now b) (found lines now b) is_stepped
            (counter_under_parent b p first number block roots held lines list counters u has.1)
            (counter_under_parent b p first number (with_group group' block) roots later (put_back lines b put) list now
            after_u stepped_has)
            (found_is None (Access b) roots held lines list counters u.low absent (λ e. none_is_not e) s),
        stands,
      )

  -- what the accesses of changes one after another show
  shown-append : (put : Purpose) (lines : Lines) (counters : Counters) (xs ys : List Change)
      → shown_all lines put counters (xs ++ ys)
      ≡ shown_all lines put counters xs ++ shown_all lines put (all_of counters xs) ys
  unfolding after_all
  shown-append put lines counters [] ys = refl
  shown-append put lines counters (x ∷ xs) ys =
      ap (λ shown. shown_change lines put counters x ++ shown) (shown-append put lines (next_of counters x) xs ys)
      ∙ sym (append_assoc (shown_change lines put counters x) _ _)

  last-append : (counters : Counters) (xs : List Change) (b : ℕ)
      → all_of counters (xs ++ Access b ∷ []) ≡ next_of (all_of counters xs) (Access b)
  unfolding after_all
  last-append counters [] b = refl
  last-append counters (x ∷ xs) b = last-append (next_of counters x) xs b

  -- the group move that is asked for
  parent_is : (b p first number : ℕ) (block : Held) (roots : List ℕ) (held : List Held)
      → IsUnder b p first number held block → full_parent (front roots held) (record { 0 = b })
      ≡ full_under ic (child_index_of shape.lines shape.layers b) (record { 0 = p }) (Some block.group)
  parent_is b p first number block roots held u =
      ap (λ (o : Option ℕ). full_by (front roots held) (record { 0 = b })
      (option_map (λ n. let x : Address = record { 0 = n } in x) o)) u.above
      ∙ ap (λ (o : Option Held). full_under ic (child_index_of shape.lines shape.layers b) (record { 0 = p })
      (option_map (λ (h : Held). h.group) o)) u.at

  -- an access to a child of a held block, which has room
  room_visit : (put : Purpose) (b p first number : ℕ) (block : Held) (roots : List ℕ) (held : List Held)
      (lines : Lines) (list : List ℕ) (counters : Counters) (asked : ℕ) → ic ≤ 14
      → IsUnder b p first number held block → is_among list b ≡ false → Keeps lines b put
      → nat_le (2 ^ ic - 1) (get_or block.group.own (child_index_of shape.lines shape.layers b) 0) ≡ false
      → get_or block.group.own (child_index_of shape.lines shape.layers b) 0 < 2 ^ ic - 1
      → Stands shape None roots held lines list counters
      → Visited put b roots held lines list counters asked
  unfolding after_all
  room_visit put b p first number block roots held lines list counters asked bits_to u absent kept test room s =
      let child : ℕ = child_index_of shape.lines shape.layers b in
      let address : Address = record { 0 = b } in
      let has = has_group b p first number held block roots lines list counters u s in
      let alone : asked_changes shape.lines shape.layers ic list counters b ≡ Access b ∷ [] =
      subst (λ x. asked_changes shape.lines shape.layers ic list counters x ≡ Access x ∷ []) (sym u.place)
      (family-room shape.lines shape.layers ic first number child block.group counters list u.within has.1 room) in
      let none : full_parent (front roots held) address ≡ None =
      parent_is b p first number block roots held u
      ∙ ap (λ full. (if full then Some (address_of p, block.group) else None)) test in
      let step = under_goes put b p first number block roots held lines list counters asked bits_to u
      absent kept room s in
      record {
        roots' = roots;
        later = step.0;
        end = asked + cycles;
        goes = subst (λ changes. Goes cycles (visit_plan (front roots held) asked address put) lines
            (shown_all lines put counters changes) (put_back lines b put) (front roots (step.0))
            (record { line = lines b; end = asked + cycles })) (sym alone)
            (subst (λ (o : Option (Address × GroupState)). Goes cycles
            (on (full_plan (front roots held) asked o) (λ later end. step_plan later end address put)) lines
            (Accessed b (counter_at counters b) (counter_at (next_of counters (Access b)) b) put
            (found lines (next_of counters (Access b)) b) ∷ []) (put_back lines b put) (front roots (step.0))
            (record { line = lines b; end = asked + cycles }))
            (sym none)
            step.1);
        stands = subst (λ changes. Stands shape None roots (step.0) (put_back lines b put) list
            (all_of counters changes))
            (sym alone) step.2;
      }

  -- and one which has none, so that its family moves first
  full_visit : (put : Purpose) (b p first number : ℕ) (block : Held) (roots : List ℕ) (held : List Held)
      (lines : Lines) (list : List ℕ) (counters : Counters) (asked : ℕ) → 1 ≤ ic → ic ≤ 14
      → IsUnder b p first number held block → is_among list b ≡ false → Keeps lines b put
      → nat_le (2 ^ ic - 1) (get_or block.group.own (child_index_of shape.lines shape.layers b) 0) ≡ true
      → 2 ^ ic - 1 ≤ get_or block.group.own (child_index_of shape.lines shape.layers b) 0
      → Stands shape None roots held lines list counters
      → Visited put b roots held lines list counters asked
  full_visit put b p first number block roots held lines list counters asked bits bits_to u absent kept test full s =
      let child : ℕ = child_index_of shape.lines shape.layers b in
      let address : Address = record { 0 = b } in
      let has = has_group b p first number held block roots lines list counters u s in
      let moves : List Change = group_move shape.lines shape.layers list b in
      let both : asked_changes shape.lines shape.layers ic list counters b ≡ moves ++ Access b ∷ [] =
      subst (λ x. asked_changes shape.lines shape.layers ic list counters x
      ≡ group_move shape.lines shape.layers list x ++ Access x ∷ []) (sym u.place)
      (family-full shape.lines shape.layers ic first number child block.group counters list u.within has.1 full) in
      let some : full_parent (front roots held) address ≡ Some (address_of p, block.group) =
      parent_is b p first number block roots held u
      ∙ ap (λ full. (if full then Some (address_of p, block.group) else None)) test in
      let moved : Grouped put b p first number block.group block roots held lines list counters asked =
      move_goes put b p first number block roots held lines list counters asked u s in
      let middle : Counters = all_of counters moves in
      let fresh : get_or (moved_group block.group).own child 0 < 2 ^ ic - 1 =
      omega (arith, zeros_at 32 child, some_room ic bits) in
      let step = under_goes put b p first number (with_group (moved_group block.group) block) roots
      moved.later lines list
      middle moved.end bits_to moved.under absent kept fresh moved.stands in
      let here : List Shown =
      Accessed b (counter_at middle b) (counter_at (next_of middle (Access b)) b) put
      (found lines (next_of middle (Access b)) b) ∷ [] in
      let seen : Seen = record { line = lines b; end = moved.end + cycles } in
      record {
        roots' = roots;
        later = step.0;
        end = moved.end + cycles;
        goes = subst (λ changes. Goes cycles (visit_plan (front roots held) asked address put) lines
            (shown_all lines put counters changes) (put_back lines b put) (front roots (step.0)) seen) (sym both)
            (subst (λ shown. Goes cycles (visit_plan (front roots held) asked address put) lines shown
            (put_back lines b put) (front roots (step.0)) seen)
            (sym (shown-append put lines counters moves (Access b ∷ [])))
            (subst (λ (o : Option (Address × GroupState)). Goes cycles
            (on (full_plan (front roots held) asked o) (λ later end. step_plan later end address put)) lines
            (shown_all lines put counters moves ++ here) (put_back lines b put) (front roots (step.0)) seen) (sym some)
            (goes_on cycles (move_plan (front roots held) asked (address_of p) block.group)
            (λ later end. step_plan later end address put) lines lines (put_back lines b put)
            (shown_all lines put counters moves) here (front roots moved.later) (front roots (step.0)) moved.end seen
            moved.goes step.1)));
        stands = subst (λ changes. Stands shape None roots (step.0) (put_back lines b put) list
            (all_of counters changes))
            (sym both)
            (subst (λ now. Stands shape None roots (step.0) (put_back lines b put) list now)
            (sym (last-append counters moves b)) step.2);
      }

  -- the parent of a block is held
  abbrev pub HasParent : List Held → ℕ → Type 0
  HasParent held b = (p : ℕ) → parent_of shape.lines shape.layers b ≡ Some p
      → (block : Held) × (held_at held (record { 0 = p }) ≡ Some block)

  -- An access that is asked for.
  pub visit_goes : (put : Purpose) (b : ℕ) (roots : List ℕ) (held : List Held) (lines : Lines) (list : List ℕ)
      (counters : Counters) (asked : ℕ) → 1 ≤ ic → ic ≤ 14 → b < layer_first shape.lines shape.layers
      → HasParent held b → is_among list b ≡ false → Keeps lines b put
      → Stands shape None roots held lines list counters
      → Visited put b roots held lines list counters asked
  visit_goes put b roots held lines list counters asked bits bits_to low parent absent kept s =
      by (parent_of shape.lines shape.layers b) refl
    where
      by : (o : Option ℕ) → parent_of shape.lines shape.layers b ≡ o
          → Visited put b roots held lines list counters asked
      by None top = root_goes put b roots held lines list counters asked bits low top absent kept s
      by (Some p) above =
          let found = parent p above in
          let up = under_of b p held (found.0) low above found.1 in
          let u : IsUnder b p (up.0) (up.1) held (found.0) = up.2 in
          elim (leb_tells (2 ^ ic - 1)
          (get_or ((found.0).group).own (child_index_of shape.lines shape.layers b) 0)) [
            | inl full ↦ full_visit put b p (up.0) (up.1) (found.0) roots held lines list counters asked bits bits_to u
                absent kept full.0 full.1 s
            | inr room ↦ room_visit put b p (up.0) (up.1) (found.0) roots held lines list counters asked
                bits_to u absent
                kept room.0 room.1 s
          ]
