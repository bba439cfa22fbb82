-- What an encrypted memory stands for: the counters and lines of all blocks, wherever they are kept.
use Rattle.std.specs.Prelude.{◌≡◌, ◌≤◌, ◌+◌, ℕ, List, [], ◌∷◌, length, map, count_by, None}
use Rattle.asc_base.specs.Has.{Has}
use Rattle.asc_base.specs.TreeShape.{children_of}
use Rattle.asc_base.specs.declared.block.Leaf.{Leaf}
use Rattle.asc_base.specs.declared.block.Point.{Point}
use Rattle.bus_watch.specs.declared.log.Event.{Event}
use Rattle.bus_watch.specs.declared.log.Event.TheVariants.{Drawn}
use Rattle.oram_contents.specs.Chip.{Chip, HeldBlock, AreGroups}
use Rattle.asc_base.specs.declared.shape.Shape.{Shape}
use Rattle.oram_contents.specs.Counts.{Ghost, line_at}
use Rattle.oram_contents.specs.Slots.{done, refilled}
use Rattle.oram_walk.specs.declared.slots.Access.{Access}
use Rattle.oram_walk.specs.declared.slots.Purpose.{Purpose}
use Rattle.oram_walk.specs.declared.slots.Purpose.TheVariants.{Refill, Keep, Replace}
use Rattle.oram_contents.specs.Decided.{draws}
use Rattle.oram_contents.specs.Entries.{Keys}
use Rattle.oram_contents.specs.Groups.{AreCounters, AreSmall}
use Rattle.oram_contents.specs.Home.{Home, AreInForm}
use Rattle.oram_contents.specs.Provenance.{Sound, Always}
use Rattle.oram_walk.specs.Front.{FrontState, IsFront}
use Rattle.posmap_lookaside.specs.declared.held.Held.{Held}
use Rattle.rate_enforcer.specs.PortStep.{PortState, Resting, contents}
use Rattle.oram_frontend.specs.Slots.{FitKeys}

-- no leaf was drawn for this point
abbrev pub Undrawn : List Event → Point → Type 0
Undrawn events p = (x : Leaf) → Has (Drawn p x) events → ⊥

-- for each point a leaf is drawn at most once
abbrev pub DrawnOnce : List Event → Type 0
DrawnOnce [] = Unit {0}
DrawnOnce (e ∷ later) = ((p : Point) (x : Leaf) → e ≡ Drawn p x → Undrawn later p) × DrawnOnce later

-- What log and contents are known to be between slots, where a ghost record says what the blocks' counters and lines
-- are: the invariant behind refinement or forgery, how many points were drawn and none twice, that each bucket that
-- was written is in the form, and, where no reply was altered, that each block has one place.
pub record IsKnown (keys : Keys) (g : Ghost) (s : PortState) : Type 0 where
  pub fits : FitKeys keys s
  pub sound : Sound keys s.tap.log g (contents s)
  pub always : Always keys s.tap.log (contents s)
  pub closed : g.path ≡ None
  pub dummies : s.clock.dummies ≡ g.dummies
  pub drawn : count_by draws s.tap.log.events ≡ s.clock.dummies + s.clock.real
  pub points : DrawnOnce s.tap.log.events
  pub forms : AreInForm keys s.tap.mirror
  pub home : s.tap.log.altered ≡ [] → Home keys g (contents s)
  pub bytes : (a : ℕ) → length (g.data_lines a) ≡ 64

-- a held block, and what a front end has on chip
abbrev pub held_block : Held → HeldBlock
held_block h = record { address = h.address.0; counter = h.counter; group = h.group }

abbrev pub chip_of : FrontState → Chip
chip_of front = record { roots = front.roots; held = map held_block front.held }

-- The chip of a front end shows the counters of all blocks, which have room; and held groups have 32 own counts.
pub record IsShown (keys : Keys) (front : FrontState) (g : Ghost) : Type 0 where
  pub front_is : IsFront front
  pub shape : front.shape ≡ keys.shape
  pub groups : AreGroups keys.shape front.plb g (chip_of front)
  pub counters : AreCounters keys.shape g
  pub wide : (h : Held) → Has h front.held → length h.group.own ≡ 32

-- The two together, with counters that the number of drawn points bounds; the port stands between slots, with room for
-- so many notes at least.
pub record StandsFor (keys : Keys) (levels least : ℕ) (front : FrontState) (g : Ghost) (s : PortState) : Type 0 where
  pub known : IsKnown keys g s
  pub shown : IsShown keys front g
  pub small : AreSmall keys.shape front.ic s.tap.log g.count
  pub rests : (notes : ℕ) × (least ≤ notes) × Resting notes levels s

-- Between two requests no block is on its way, and none waits.
pub record IsCalm (g : Ghost) : Type 0 where
  pub flight : g.flight ≡ None
  pub pend : g.pend ≡ None
  pub stepped : g.stepped ≡ None
  pub move : g.move ≡ None

-- so many dummies change the number of the next one alone
abbrev pub later : Ghost → ℕ → Ghost
later g k = record g { dummies = g.dummies + k }

-- what a served access makes of the ghost record: its block is held back in flight, or put back with the line that it
-- has or with a given one
abbrev pub after_access : Shape → Ghost → Access → Purpose → Ghost
after_access shape g access Refill = refilled g access.address.0 access.next
after_access shape g access Keep = done g access.address.0 access.next (line_at shape g access.address.0)
after_access shape g access (Replace value) = done g access.address.0 access.next value.0

-- only a data line is given another line, of 64 bytes
abbrev pub FitsPurpose : Shape → ℕ → Purpose → Type 0
FitsPurpose shape a Refill = Unit {0}
FitsPurpose shape a Keep = Unit {0}
FitsPurpose shape a (Replace value) = (children_of shape.lines shape.layers a ≡ None) × (length value.0 ≡ 64)

-- data lines have the same bytes
abbrev pub SameData : Keys → Ghost → Ghost → Type 0
SameData keys g h = (b : ℕ) → children_of keys.shape.lines keys.shape.layers b ≡ None
    → h.data_lines b ≡ g.data_lines b
