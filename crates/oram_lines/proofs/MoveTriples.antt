-- Group moves, from a state that stands for counters and lines to one that does, or a forgery.
use Rattle.std.proofs.Common.{◌≡◌, ◌<◌, ◌+◌, ◌⊎◌, inl, inr, ℕ, zero, suc, List, [], ◌∷◌, map, Option, None, Some, Ok}
use Rattle.std.proofs.lemmas.Bool.{cases_eq}
use Rattle.std.proofs.lemmas.Bool.Decides.{nat_tests}
use Rattle.std.proofs.Common.{nat_eq, true, false, is_some, refl, sym, ap, ◌∙◌, subst, arith}
use Rattle.request_plan.specs.Plan.{Done, Ends}
use Rattle.asc_base.proofs.Families.{parent_of_child}
use Rattle.asc_base.proofs.Lookups.{find-none_has, find-holds, find-has, changed_first-none}
use Rattle.asc_base.proofs.ShapeFacts.{shape_layered}
use Rattle.asc_base.specs.Has.{Has}
use Rattle.asc_base.specs.Shape.{children_in}
use Rattle.asc_base.specs.TreeShape.{parent_of, children_of, layer_first}
use Rattle.asc_base.specs.declared.block.Address.{Address}
use Rattle.asc_base.specs.declared.block.Counter.{Counter}
use Rattle.asc_base.specs.declared.block.Line.{Line}
use Rattle.bus_watch.specs.Log.{LogLists}
use Rattle.oram_contents.specs.Chip.{addresses}
use Rattle.oram_contents.specs.Contents.{Contents}
use Rattle.oram_contents.specs.Counts.{Ghost, line_at, line_by, put_at, IsAway}
use Rattle.oram_contents.specs.Entries.{Keys, AreKeys, real}
use Rattle.oram_contents.specs.Forgery.{Forgery}
use Rattle.oram_contents.specs.Provenance.{Sound}
use Rattle.oram_contents.specs.Slots.{MayRise, done}
use Rattle.oram_contents.proofs.Lines.{put_same, put_other, children_inside}
use Rattle.oram_contents.proofs.HomeSteps.{home_raised}
use Rattle.oram_contents.proofs.RenumberSteps.{renumber_sound}
use Rattle.oram_walk.specs.Front.{FrontState, full_parent, with_held}
use Rattle.oram_walk.specs.Plans.{child_plan, child_by, children_plan, family_plan, move_plan}
use Rattle.oram_walk.specs.Request.{Slot, Steps}
use Rattle.oram_walk.specs.declared.slots.Access.{Access}
use Rattle.oram_walk.specs.declared.slots.Purpose.TheVariants.{Keep}
use Rattle.oram_walk.specs.declared.slots.Seen.{Seen}
use Rattle.posmap_counters.specs.Counters.{next_group, IsBefore}
use Rattle.posmap_counters.specs.Group.{GroupState, child_counter, moved_group}
use Rattle.posmap_lookaside.specs.Held.{held_at, is_of, changed, with_counter, with_group}
use Rattle.posmap_lookaside.specs.declared.held.Held.{Held}
use Rattle.rate_enforcer.specs.PortStep.{PortState, contents}
use Rattle.oram_frontend.proofs.SlotLaws.{served_slot}
use Rattle.oram_lines.specs.Noted.{NotedState, NotedStep, lines_behind}
use Rattle.oram_lines.specs.Standing.{IsKnown, Undrawn, IsShown, IsCalm, SameData, later, held_block}
use Rattle.oram_lines.specs.Shown.{IsFirst, IsMoving, HasUsed, IsFull}
use Rattle.oram_lines.proofs.KnownLaws.{served_right, undrawn}
use Rattle.oram_lines.proofs.NotedLaws.{StandsNoted, ParentHeld, counter_outside, slot_noted}
use Rattle.oram_lines.proofs.ShownMoves.{move_begins, child_shown, held_child_shown, move_ends}
use Rattle.oram_lines.proofs.StepTriples.{Comes, comes_on, waiting, few_draws, draws_more}

-- a held address is that of a held block
pub has_block : (list : List Held) (a : ℕ) → Has a (addresses (map held_block list))
    → (h : Held) × Has h list × (h.address.0 ≡ a)
has_block [] a has = absurd has
has_block (h ∷ list) a (inl is) = (h, inl refl, sym is)
has_block (h ∷ list) a (inr later) = let (k, has, is) = has_block list a later in (k, inr has, is)

pub block_has : (list : List Held) (h : Held) → Has h list → Has h.address.0 (addresses (map held_block list))
block_has [] h has = has
block_has (k ∷ list) h (inl is) = inl (ap (λ (x : Held). x.address.0) is)
block_has (k ∷ list) h (inr later) = inr (block_has list h later)

-- an address that isn't looked up isn't held, and one that is is
pub not_held : (list : List Held) (a : Address) → held_at list a ≡ None → Has a.0 (addresses (map held_block list)) → ⊥
not_held list a none has =
    let (h, among, is) = has_block list a.0 has in
    let differ : nat_eq h.address.0 a.0 ≡ false = find-none_has (is_of a) list h none among in
    let same : nat_eq h.address.0 a.0 ≡ true = grind (arith, nat_tests) in
    absurd (cc)

pub is_held : (list : List Held) (a : Address) → is_some (held_at list a) ≡ true
    → Has a.0 (addresses (map held_block list))
is_held list a some = by_found (held_at list a) refl some
  where
    by_found : (found : Option Held) → held_at list a ≡ found → is_some found ≡ true
        → Has a.0 (addresses (map held_block list))
    by_found None is some = absurd (cc)
    by_found (Some h) is some =
        let same : nat_eq h.address.0 a.0 ≡ true = find-holds (is_of a) list h is in
        let equal : h.address.0 ≡ a.0 = grind (arith, nat_tests) in
        subst (λ (n : ℕ). Has n (addresses (map held_block list))) equal
        (block_has list h (find-has (is_of a) list h is))

-- the same front end but for what is held
pub record SameFront (old new : FrontState) : Type 0 where
  pub shape : new.shape ≡ old.shape
  pub ic : new.ic ≡ old.ic
  pub plb : new.plb ≡ old.plb

module _ (keys : Keys) (lawful : AreKeys keys) (levels : ℕ) where
  -- the invariant doesn't speak of group moves
  move_sound : (log : LogLists) (g : Ghost) (now : Contents) (move : Option (ℕ × ℕ)) → Sound keys log g now
      → Sound keys log (record g { move = move }) now
  move_sound log g now move s = record {
    fresh = s.fresh;
    last = s.last;
    once = s.once;
    blank = s.blank;
    drawn = s.drawn;
    dummies = s.dummies;
    away = s.away;
    at_hand = s.at_hand;
    in_tree = s.in_tree;
  }

  pub move_known : (g : Ghost) (s : PortState) (move : Option (ℕ × ℕ)) → IsKnown keys g s
      → IsKnown keys (record g { move = move }) s
  move_known g s move known = record {
    fits = known.fits;
    sound = move_sound s.tap.log g (contents s) move known.sound;
    always = known.always;
    closed = known.closed;
    dummies = known.dummies;
    drawn = known.drawn;
    points = known.points;
    forms = known.forms;
    home = known.home;
    bytes = known.bytes;
  }

  -- a held block is renumbered
  renumber_known : (g : Ghost) (s : PortState) (a : ℕ) (c : Counter) → Has a g.held → IsBefore (g.count a) c
      → ((p : ℕ) → parent_of keys.shape.lines keys.shape.layers a ≡ Some p → IsAway g p) → IsKnown keys g s
      → IsKnown keys (record g { count = put_at g.count a c }) s
  renumber_known g s a c held rises parent known = record {
    fits = known.fits;
    sound = renumber_sound keys lawful s.tap.log g (contents s) a c (inl held) rises parent known.sound;
    always = known.always;
    closed = known.closed;
    dummies = known.dummies;
    drawn = known.drawn;
    points = known.points;
    forms = known.forms;
    home = λ none. home_raised keys g (contents s) a c g.pend (known.sound.away a (inl held)).1 rises (known.home none);
    bytes = known.bytes;
  }

  -- a block that is put back with its own line leaves all data lines as they were
  pub keep_data : (g : Ghost) (a b : ℕ) → children_of keys.shape.lines keys.shape.layers b ≡ None
      → put_at g.data_lines a (line_at keys.shape g a) b ≡ g.data_lines b
  keep_data g a b leaf = elim (cases_eq b a) [
    | inl is ↦ ap (put_at g.data_lines a (line_at keys.shape g a)) is
        ∙ (put_same g.data_lines a (line_at keys.shape g a)
        ∙ (ap (line_by g.count (g.data_lines a)) (ap (children_of keys.shape.lines keys.shape.layers) (sym is) ∙ leaf)
        ∙ ap g.data_lines (sym is)))
    | inr other ↦ put_other g.data_lines a (line_at keys.shape g a) b other
  ]

  -- what a front end holds is what the ghost record does
  pub held_in : (front : FrontState) (g : Ghost) (a : ℕ) → IsShown keys front g
      → Has a (addresses (map held_block front.held)) → Has a g.held
  held_in front g a shown has = subst (Has a) (sym shown.groups.listed) has

  pub held_by : (front : FrontState) (g : Ghost) (a : ℕ) → IsShown keys front g
      → Has a g.held → Has a (addresses (map held_block front.held))
  held_by front g a shown has = subst (Has a) shown.groups.listed has

  -- the first held block is the first of the ghost record's
  pub first_is : (front : FrontState) (g : Ghost) (p : Address) (group : GroupState) → IsShown keys front g
      → IsFirst front p group → Has p.0 g.held
  first_is front g p group shown first =
      held_in front g p.0 shown (subst (λ (l : List Held). Has p.0 (addresses (map held_block l))) (sym first.held)
      (inl refl))

-- What a group move comes to where a request began with the lines of a memory, and each of its answers is noted.
module _ (keys : Keys) (lawful : AreKeys keys) (levels : ℕ) (began : ℕ → Line) where
  -- What a part of a group move of p leaves, when so many children are done.
  pub record MovesOn (front : FrontState) (g : Ghost) (p : Address) (group : GroupState) (done_by : ℕ)
      (later_front : FrontState) (t : NotedState) : Type 0 where
    pub h : Ghost
    pub stands : StandsNoted keys levels began 0 later_front h t
    pub moving : IsMoving h p.0 done_by
    pub first : IsFirst later_front p group
    pub held : h.held ≡ g.held
    pub lines : SameData keys g h
    pub front_is : SameFront front later_front

  module _ (p : Address) (group : GroupState) (first number : ℕ)
      (family : children_of keys.shape.lines keys.shape.layers p.0 ≡ Some (first, number))
      (inside : p.0 < keys.shape.total)
      (uses : HasUsed number group) where
    parent_is : (child q : ℕ) → child < number
        → parent_of keys.shape.lines keys.shape.layers (first + child) ≡ Some q → p.0 ≡ q
    parent_is child q less up =
        let within : p.0 < layer_first keys.shape.lines keys.shape.layers =
        omega (arith, (shape_layered keys.shape lawful.shape).total) in
        let is = (parent_of_child keys.shape.lines keys.shape.layers p.0 first number child within family less).0 in
        let same : Some p.0 ≡ Some q = sym is ∙ up in
        cc

    pub parent_held : (front : FrontState) (g : Ghost) (child : ℕ) → IsShown keys front g → IsFirst front p group
        → child < number → ParentHeld keys lawful g (first + child)
    parent_held front g child shown at less q up =
        subst (λ (n : ℕ). Has n g.held) (parent_is child q less up)
        (first_is keys lawful levels front g p group shown at)

    -- A child that is held is renumbered.
    held_comes : (front : FrontState) (g : Ghost) (s : NotedState) (asked child : ℕ)
        → StandsNoted keys levels began 0 front g s → IsMoving g p.0 child → IsFirst front p group → child < number
        → is_some (held_at front.held (record { 0 = first + child })) ≡ true
        → MovesOn front g p group (child + 1) (with_held front (changed
        (with_counter (next_group (child_counter group child))) front.held (record { 0 = first + child }))) s
    held_comes front g s asked child st moving at less some =
        let (notes, least, rests) = st.port.rests in
        let has = held_in keys lawful levels front g (first + child) st.port.shown
        (is_held front.held (record { 0 = first + child }) some) in
        let x = held_child_shown keys lawful front g p group first number st.port.shown at family s.port.tap.log child
        st.port.small (few_draws keys lawful levels notes g s.port st.port.known rests) moving.stepped moving.pend
        moving.move less uses in
        let c = next_group (child_counter group child) in
        let parent = parent_held front g child st.port.shown at less in
        let known1 = renumber_known keys lawful levels g s.port (first + child) c has x.rises
        (λ q up. inl (parent q up)) st.port.known in
        record {
          h = record g { count = put_at g.count (first + child) c; move = Some (p.0, child + 1) };
          stands = record {
            port = record {
              known = move_known keys lawful levels (record g { count = put_at g.count (first + child) c }) s.port
                  (Some (p.0, child + 1)) known1;
              shown = x.shown;
              small = x.small;
              rests = st.port.rests;
            };
            noted = record {
              right = st.noted.right;
              outside = record {
                each = (counter_outside keys lawful g (lines_behind began s.answers) (first + child) c parent
                    st.noted.outside).each;
              };
            };
          };
          moving = record { flight = moving.flight; pend = moving.pend; stepped = moving.stepped; move = refl };
          first = x.first_is;
          held = refl;
          lines = λ b none. refl;
          front_is = record { shape = refl; ic = refl; plb = refl };
        }

    -- Any other is accessed, and put back under the next group counter.
    access_comes : (front : FrontState) (g : Ghost) (s t : NotedState) (asked child : ℕ) (seen : Seen)
        → StandsNoted keys levels began 0 front g s → IsMoving g p.0 child → IsFirst front p group → child < number
        → held_at front.held (record { 0 = first + child }) ≡ None
        → NotedStep keys levels s (Slot (record {
          asked = asked;
          address = record { 0 = first + child };
          counter = child_counter group child;
          next = next_group (child_counter group child);
          purpose = Keep;
        }))
        (Ok seen) t
        → Forgery keys t.port.tap.log ⊎ MovesOn front g p group (child + 1) front t
    access_comes front g s t asked child seen st moving at less none one =
        let (notes, least, rests) = st.port.rests in
        let a = first + child in
        let unheld : Has a g.held → ⊥ = λ has. not_held front.held (record { 0 = a }) none
        (held_by keys lawful levels front g a st.port.shown has) in
        let x = child_shown keys lawful front g p group first number st.port.shown at family s.port.tap.log child
        st.port.small (few_draws keys lawful levels notes g s.port st.port.known rests) moving.stepped moving.pend
        moving.move less unheld in
        let access : Access = record {
          asked = asked;
          address = record { 0 = a };
          counter = child_counter group child;
          next = next_group (child_counter group child);
          purpose = Keep;
        } in
        let g1 : Ghost = record g { pend = Some a; stepped = None } in
        let (served, keeps) =
        served_slot keys levels notes access seen s.port t.port st.port.known.fits rests one.0 in
        let known1 = waiting keys lawful levels g s.port a None moving.pend st.port.known in
        let within = children_inside keys.shape p.0 first number child lawful.shape inside family less in
        let parent = parent_held front g child st.port.shown at less in
        let rises : MayRise keys g1 a access.next = record {
          inside = within;
          up = x.rises;
          parent = λ q up. inl (parent q up);
        } in
        elim (served_right keys lawful g1 access seen s.port t.port levels (notes + 1) known1 served keeps moving.flight
        refl
        x.counter rises unheld
        (subst (λ c. Undrawn s.port.tap.log.events (real a c)) (sym x.counter)
        (undrawn keys g s.port a moving.pend st.port.known)) tt) [
          | inl forged ↦ inl forged
          | inr both ↦ inr (record {
            h = record (done (later g served.passed) a access.next (line_at keys.shape g a))
                { move = Some (p.0, child + 1) };
            stands = record {
              port = record {
                known = move_known keys lawful levels
                    (done (later g served.passed) a access.next (line_at keys.shape g a)) t.port
                    (Some (p.0, child + 1)) both.0;
                shown = x.taken _ refl refl refl refl refl;
                small = x.small t.port.tap.log
                    (draws_more keys lawful levels _ _ access seen s.port t.port known1 served both.0);
                rests = (keeps.rests.0, omega arith, keeps.rests.2);
              };
              noted =
                  let noted = slot_noted keys lawful began g s t access seen served.passed st.noted one.1 moving.flight
                  parent within unheld tt both.1 in
                  record { right = noted.right; outside = record { each = noted.outside.each } };
            };
            moving = record { flight = refl; pend = refl; stepped = refl; move = refl };
            first = at;
            held = refl;
            lines = λ b leaf. keep_data keys lawful levels g a b leaf;
            front_is = record { shape = refl; ic = refl; plb = refl };
          })
        ]

    -- A child's part of the move.
    pub child_comes : (front : FrontState) (g : Ghost) (s : NotedState) (asked child : ℕ)
        → StandsNoted keys levels began 0 front g s → IsMoving g p.0 child → IsFirst front p group → child < number
        → Comes keys lawful levels began (child_plan front asked (record { 0 = first + child })
        (child_counter group child) (next_group (child_counter group child))) s
        (λ now end m. MovesOn front g p group (child + 1) now m)
    child_comes front g s asked child st moving at less = by_held (held_at front.held a) refl
      where
        a : Address
        a = record { 0 = first + child }

        now : FrontState
        now = with_held front (changed (with_counter (next_group (child_counter group child))) front.held a)

        by_held : (found : Option Held) → held_at front.held a ≡ found
            → Comes keys lawful levels began (child_by (is_some (held_at front.held a)) now (record {
              asked = asked;
              address = a;
              counter = child_counter group child;
              next = next_group (child_counter group child);
              purpose = Keep;
            })) s (λ later_front end m. MovesOn front g p group (child + 1) later_front m)
        by_held (Some h) is t later_front end ends =
            let some : is_some (held_at front.held a) ≡ true = ap is_some is in
            let done_here = subst (λ b. Ends (Steps (NotedStep keys levels)) (child_by b now (record {
              asked = asked;
              address = a;
              counter = child_counter group child;
              next = next_group (child_counter group child);
              purpose = Keep;
            })) s t (later_front, end)) some ends in
            inr (subst (λ (f : FrontState). MovesOn front g p group (child + 1) f t)
            (sym (ap (λ (x : FrontState × ℕ). x.0) done_here.0))
            (subst (λ (y : NotedState). MovesOn front g p group (child + 1) now y) (sym done_here.1)
            (held_comes front g s asked child st moving at less some)))
        by_held None is t later_front end ends =
            let none : is_some (held_at front.held a) ≡ false = ap is_some is in
            let asked_here = subst (λ b. Ends (Steps (NotedStep keys levels)) (child_by b now (record {
              asked = asked;
              address = a;
              counter = child_counter group child;
              next = next_group (child_counter group child);
              purpose = Keep;
            })) s t (later_front, end)) none ends in
            let (seen, m, one, (outcome, same)) = asked_here in
            let front_same : later_front ≡ front = ap (λ (x : FrontState × ℕ). x.0) outcome
            ∙ ap (with_held front) (changed_first-none
            (with_counter (next_group (child_counter group child))) (is_of a) front.held is) in
            elim (access_comes front g s m asked child seen st moving at less is one) [
              | inl forged ↦ inl (subst (λ (y : NotedState). Forgery keys y.port.tap.log) (sym same) forged)
              | inr on_it ↦ inr (subst (λ (f : FrontState). MovesOn front g p group (child + 1) f t) (sym front_same)
                  (subst (λ (y : NotedState). MovesOn front g p group (child + 1) front y) (sym same) on_it))
            ]

    -- one part after another
    moves_then : (front mid_front later_front : FrontState) (g : Ghost) (a b : ℕ) (m t : NotedState)
        → (x : MovesOn front g p group a mid_front m) → MovesOn mid_front x.h p group b later_front t
        → MovesOn front g p group b later_front t
    moves_then front mid_front later_front g a b m t x y = record {
      h = y.h;
      stands = y.stands;
      moving = y.moving;
      first = y.first;
      held = y.held ∙ x.held;
      lines = λ n leaf. y.lines n leaf ∙ x.lines n leaf;
      front_is = record {
        shape = y.front_is.shape ∙ x.front_is.shape;
        ic = y.front_is.ic ∙ x.front_is.ic;
        plb = y.front_is.plb ∙ x.front_is.plb;
      };
    }

    -- The children from one on.
    pub children_come : (left child : ℕ) → child + left ≡ number → (front : FrontState) (g : Ghost) (s : NotedState)
        (asked : ℕ) → StandsNoted keys levels began 0 front g s → IsMoving g p.0 child → IsFirst front p group
        → Comes keys lawful levels began (children_plan group first child left front asked) s
        (λ later_front end t. MovesOn front g p group number later_front t)
    children_come zero child sum front g s asked st moving at =
        let all : child ≡ number = omega arith in
        λ t later_front end ends. inr (subst (λ (f : FrontState). MovesOn front g p group number f t)
        (sym (ap (λ (x : FrontState × ℕ). x.0) ends.0))
        (subst (λ (y : NotedState). MovesOn front g p group number front y) (sym ends.1) (record {
          h = g;
          stands = st;
          moving = subst (λ (n : ℕ). IsMoving g p.0 n) all moving;
          first = at;
          held = refl;
          lines = λ b leaf. refl;
          front_is = record { shape = refl; ic = refl; plb = refl };
        })))
    children_come (suc left) child sum front g s asked st moving at =
        comes_on keys lawful levels began (child_plan front asked (record { 0 = first + child })
        (child_counter group child) (next_group (child_counter group child)))
        (λ now end. children_plan group first (child + 1) left now end) s
        (λ now end m. MovesOn front g p group (child + 1) now m)
        (λ later_front end t. MovesOn front g p group number later_front t)
        (child_comes front g s asked child st moving at (omega arith))
        (λ now end m x t later_front y ends.
        elim (children_come left (child + 1) (omega arith) now x.h m end x.stands x.moving x.first t
        later_front y ends) [
          | inl forged ↦ inl forged
          | inr rest ↦ inr (moves_then front now later_front g (child + 1) number m t x rest)
        ])

  -- A group move of the first held block: afterwards none of its children is full.
  pub record HasRoom (front : FrontState) (g : Ghost) (a : Address) (later_front : FrontState) (t : NotedState)
      : Type 0 where
    pub h : Ghost
    pub stands : StandsNoted keys levels began 0 later_front h t
    pub calm : IsCalm h
    pub room : full_parent later_front a ≡ None
    pub held : h.held ≡ g.held
    pub lines : SameData keys g h
    pub front_is : SameFront front later_front

  -- where a group move begins
  pub move_begun : (front : FrontState) (g : Ghost) (s : NotedState) (a p : Address) (group : GroupState)
      → StandsNoted keys levels began 0 front g s → IsCalm g → IsFull keys front a p group
      → StandsNoted keys levels began 0 front (record g { move = Some (p.0, 0) }) s
  move_begun front g s a p group st calm full = record {
    port = record {
      known = move_known keys lawful levels g s.port (Some (p.0, 0)) st.port.known;
      shown = move_begins keys lawful front g p group full.first full.number st.port.shown full.first_is full.children
          calm.move;
      small = st.port.small;
      rests = st.port.rests;
    };
    noted = record { right = st.noted.right; outside = record { each = st.noted.outside.each } };
  }

  pub move_comes : (front : FrontState) (g : Ghost) (s : NotedState) (asked : ℕ) (a p : Address) (group : GroupState)
      → StandsNoted keys levels began 0 front g s → IsCalm g → (full : IsFull keys front a p group)
      → p.0 < keys.shape.total
      → Comes keys lawful levels began (move_plan front asked p group) s
      (λ later_front end t. HasRoom front g a later_front t)
  move_comes front g s asked a p group st calm full inside =
      comes_on keys lawful levels began (family_plan group (children_in front.shape p) front asked)
      (λ now end. Done (with_held now (changed (with_group (moved_group group)) now.held p), end)) s
      (λ now end m. MovesOn front begun p group full.number now m)
      (λ later_front end t. HasRoom front g a later_front t)
      (subst (λ o. Comes keys lawful levels began (family_plan group o front asked) s
      (λ now end m. MovesOn front begun p group full.number now m)) (sym full.family)
      (children_come p group full.first full.number full.children inside full.used full.number 0 (omega arith) front
      begun s asked start (record { flight = calm.flight; pend = calm.pend; stepped = calm.stepped; move = refl })
      full.first_is))
      ended
    where
      begun : Ghost
      begun = record g { move = Some (p.0, 0) }

      start : StandsNoted keys levels began 0 front begun s
      start = move_begun front g s a p group st calm full

      ended : (now : FrontState) (end : ℕ) (m : NotedState) → MovesOn front begun p group full.number now m
          → Comes keys lawful levels began
          (Done (with_held now (changed (with_group (moved_group group)) now.held p), end)) m
          (λ later_front end t. HasRoom front g a later_front t)
      ended now end m x t later_front y ends =
          let over = move_ends keys lawful now x.h p group full.first full.number x.stands.port.shown x.first
          full.children x.moving.stepped x.moving.move in
          inr (subst (λ (f : FrontState). HasRoom front g a f t) (sym (ap (λ (z : FrontState × ℕ). z.0) ends.0))
          (subst (λ (v : NotedState). HasRoom front g a
          (with_held now (changed (with_group (moved_group group)) now.held p)) v) (sym ends.1) (record {
            h = record x.h { move = None };
            stands = record {
              port = record {
                known = move_known keys lawful levels x.h m.port None x.stands.port.known;
                shown = over.shown;
                small = x.stands.port.small;
                rests = x.stands.port.rests;
              };
              noted = record { right = x.stands.noted.right; outside = record { each = x.stands.noted.outside.each } };
            };
            calm = record { flight = x.moving.flight; pend = x.moving.pend; stepped = x.moving.stepped; move = refl };
            room = over.room a full.parent;
            held = x.held;
            lines = x.lines;
            front_is = record { shape = x.front_is.shape; ic = x.front_is.ic; plb = x.front_is.plb };
          })))
