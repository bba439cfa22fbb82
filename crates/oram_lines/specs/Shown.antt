-- What each step of a front end's plans makes of what its chip shows.
use Rattle.std.specs.Prelude.{◌≡◌, ◌<◌, ◌≤◌, ◌+◌, ℕ, List, ◌∷◌, None, Some, count_by, slice_get, slice_index, take}
use Rattle.asc_base.specs.Has.{Has}
use Rattle.asc_base.specs.Shape.{children_in}
use Rattle.asc_base.specs.TreeShape.{parent_of, children_of}
use Rattle.asc_base.specs.declared.block.Address.{Address}
use Rattle.asc_base.specs.declared.block.Counter.{Counter}
use Rattle.asc_base.specs.declared.block.Line.{Line}
use Rattle.bus_watch.specs.Log.{LogLists}
use Rattle.oram_contents.specs.Counts.{Ghost, line_at, put_at}
use Rattle.oram_contents.specs.Decided.{draws}
use Rattle.oram_contents.specs.Entries.{Keys}
use Rattle.oram_contents.specs.Groups.{AreSmall}
use Rattle.oram_contents.specs.Steps.{inserted}
use Rattle.oram_walk.specs.Front.{FrontState, with_held, counter_in, stepped, full_parent}
use Rattle.oram_walk.specs.Plans.{refilled}
use Rattle.posmap_counters.specs.Counters.{IsBefore, next_group}
use Rattle.posmap_counters.specs.Group.{GroupState, child_counter, moved_group, line_in}
use Rattle.posmap_lookaside.specs.Held.{changed, with_counter, with_group, displaced, inserted as put_first}
use Rattle.posmap_lookaside.specs.declared.held.Held.{Held}
use Rattle.oram_lines.specs.Standing.{IsShown}

-- The first held block is this one, with this group.
pub record IsFirst (front : FrontState) (p : Address) (group : GroupState) : Type 0 where
  pub counter : Counter
  pub rest : List Held
  pub held : front.held ≡ record { address = p; counter = counter; group = group } ∷ rest

-- A group move of a block's children, so many of which are done, and nothing else is on its way.
pub record IsMoving (g : Ghost) (p done : ℕ) : Type 0 where
  pub flight : g.flight ≡ None
  pub pend : g.pend ≡ None
  pub stepped : g.stepped ≡ None
  pub move : g.move ≡ Some (p, done)

-- a child of the family has a positive own count
abbrev pub HasUsed : ℕ → GroupState → Type 0
HasUsed number group = (j : ℕ) × (j < number) × (1 ≤ slice_index group.own j)

module _ (keys : Keys) where
  -- the parent of a block is the first held block, if it has one
  abbrev pub ParentFirst : Ghost → ℕ → Type 0
  ParentFirst g a = (p : ℕ) → parent_of keys.shape.lines keys.shape.layers a ≡ Some p
      → (rest : List ℕ) × (g.held ≡ p ∷ rest)

  -- An access that is asked for, and the front end after its step: what the chip shows before its slot and after it.
  pub record IsStep (front now : FrontState) (g : Ghost) (log : LogLists) (a : Address) : Type 0 where
    pub counter : counter_in front a ≡ g.count a.0
    pub rises : IsBefore (g.count a.0) (counter_in now a)
    pub waits : IsShown keys now (record g { pend = Some a.0; stepped = Some a.0 })
    pub taken : (h : Ghost) → h.count ≡ put_at g.count a.0 (counter_in now a) → h.held ≡ g.held
        → h.stepped ≡ None → h.pend ≡ None → h.move ≡ None → IsShown keys now h
    pub small : (log' : LogLists) → count_by draws log.events + 1 ≤ count_by draws log'.events
        → AreSmall keys.shape front.ic log' (put_at g.count a.0 (counter_in now a))

  -- the same of the front end's own step
  abbrev pub IsStepped : FrontState → Ghost → LogLists → Address → Type 0
  IsStepped front g log a = IsStep front (stepped front a) g log a

  -- What is displaced where a block comes to be held.
  pub record IsDisplaced (g : Ghost) (plb a : ℕ) (d : Held) : Type 0 where
    pub place : slice_get (a ∷ g.held) plb ≡ Some d.address.0
    pub inside : d.address.0 < keys.shape.total
    pub gone : Has d.address.0 (take plb (a ∷ g.held)) → ⊥
    pub counter : d.counter ≡ g.count d.address.0
    pub line : line_in d.group ≡ line_at keys.shape g d.address.0

  -- A block comes to be held, and the last of a full list is displaced.
  pub record IsInserted (front : FrontState) (g : Ghost) (a : Address) (line : Line) : Type 0 where
    pub shown : IsShown keys (with_held front (put_first front.plb (refilled front a line) front.held))
        (inserted g front.plb a.0)
    pub some : (d : Held) → displaced front.plb (refilled front a line) front.held ≡ Some d
        → IsDisplaced g front.plb a.0 d
    pub none : displaced front.plb (refilled front a line) front.held ≡ None
        → slice_get (a.0 ∷ g.held) front.plb ≡ None

  -- A child's slot in a group move: what the chip shows before it and after it.
  pub record IsMoved (front : FrontState) (g : Ghost) (log : LogLists) (p : Address) (group : GroupState)
      (first i : ℕ) : Type 0 where
    pub counter : child_counter group i ≡ g.count (first + i)
    pub rises : IsBefore (g.count (first + i)) (next_group (child_counter group i))
    pub waits : IsShown keys front (record g { pend = Some (first + i) })
    pub taken : (h : Ghost) → h.count ≡ put_at g.count (first + i) (next_group (child_counter group i))
        → h.held ≡ g.held → h.stepped ≡ None → h.pend ≡ None → h.move ≡ Some (p.0, i + 1) → IsShown keys front h
    pub small : (log' : LogLists) → count_by draws log.events + 1 ≤ count_by draws log'.events
        → AreSmall keys.shape front.ic log' (put_at g.count (first + i) (next_group (child_counter group i)))

  -- A held child is renumbered in a group move.
  pub record IsRenumbered (front : FrontState) (g : Ghost) (log : LogLists) (p : Address) (group : GroupState)
      (first i : ℕ) : Type 0 where
    pub counter : child_counter group i ≡ g.count (first + i)
    pub rises : IsBefore (g.count (first + i)) (next_group (child_counter group i))
    pub shown : IsShown keys
        (with_held front (changed (with_counter (next_group (child_counter group i))) front.held
        (record { 0 = first + i })))
        (record g {
          count = put_at g.count (first + i) (next_group (child_counter group i));
          move = Some (p.0, i + 1);
        })
    pub small : AreSmall keys.shape front.ic log (put_at g.count (first + i) (next_group (child_counter group i)))
    pub first_is : IsFirst (with_held front (changed (with_counter (next_group (child_counter group i))) front.held
        (record { 0 = first + i }))) p group

  -- The end of a group move: its block has the next group, under which no child is full.
  pub record IsEnded (front : FrontState) (g : Ghost) (p : Address) (group : GroupState) : Type 0 where
    pub shown : IsShown keys (with_held front (changed (with_group (moved_group group)) front.held p))
        (record g { move = None })
    pub first_is : IsFirst (with_held front (changed (with_group (moved_group group)) front.held p)) p
        (moved_group group)
    pub room : (a : Address) → parent_of keys.shape.lines keys.shape.layers a.0 ≡ Some p.0
        → full_parent (with_held front (changed (with_group (moved_group group)) front.held p)) a ≡ None

  -- What a full parent is: the first held block, with a family in which an own count is used.
  pub record IsFull (front : FrontState) (a p : Address) (group : GroupState) : Type 0 where
    pub first : ℕ
    pub number : ℕ
    pub parent : parent_of keys.shape.lines keys.shape.layers a.0 ≡ Some p.0
    pub children : children_of keys.shape.lines keys.shape.layers p.0 ≡ Some (first, number)
    pub family : children_in front.shape p ≡ Some (record { 0 = first }, number)
    pub first_is : IsFirst front p group
    pub used : HasUsed number group
