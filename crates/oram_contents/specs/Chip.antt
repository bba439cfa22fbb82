-- What stands on chip of counters: the group counts of the top layer's blocks, and the held blocks with their groups;
-- and when it shows the counters of all blocks.
use Rattle.std.specs.Prelude.{◌≡◌, ◌<◌, ◌≤◌, ◌+◌, ◌-◌, ◌%◌, ◌^◌, ◌==◌, ℕ, Bool, List, [], ◌∷◌, length, map, take}
use Rattle.std.specs.Prelude.{None, Some, slice_index, slice_set, replicate}
use Rattle.asc_base.specs.Has.{Has}
use Rattle.asc_base.specs.Lookup.{changed_first, promoted_first}
use Rattle.asc_base.specs.TreeShape.{children_of, parent_of, layer_first}
use Rattle.asc_base.specs.declared.block.Counter.{Counter}
use Rattle.asc_base.specs.declared.shape.Shape.{Shape}
use Rattle.posmap_counters.specs.Counters.{next_group}
use Rattle.posmap_counters.specs.Group.{GroupState}
use Rattle.oram_contents.specs.Counts.{Ghost}
use Rattle.oram_contents.specs.Groups.{IsGroupOf}

-- a position-map block that is held: its counter, and the group of its line
pub record HeldBlock : Type 0 where
  pub address : ℕ
  pub counter : Counter
  pub group : GroupState

-- the group counts of the top layer's blocks, in order, and the held blocks, the most recent first
pub record Chip : Type 0 where
  pub roots : List ℕ
  pub held : List HeldBlock

-- the place of a top layer's block among the roots
abbrev pub root_place : Shape → ℕ → ℕ
root_place shape a = a - layer_first shape.lines (shape.layers - 1)

-- the counter on chip of a top layer's block
abbrev pub root_counter : Shape → List ℕ → ℕ → Counter
root_counter shape roots a = record { group = slice_index roots (root_place shape a); own = 0 }

-- a counter on chip is its block's, but for the block that the chip is a step ahead of
pub record IsRootOf (g : Ghost) (a : ℕ) (c : Counter) : Type 0 where
  pub ahead : g.stepped ≡ Some a → c ≡ next_group (g.count a)
  pub level : (g.stepped ≡ Some a → ⊥) → c ≡ g.count a

-- the addresses of held blocks
abbrev pub addresses : List HeldBlock → List ℕ
addresses held = map (λ (h : HeldBlock). h.address) held

-- each number stands once
abbrev pub AreDistinct : List ℕ → Type 0
AreDistinct [] = Unit {0}
AreDistinct (a ∷ later) = (Has a later → ⊥) × AreDistinct later

-- The chip shows the counters of all blocks. At each clause stands which step fails without it. That the block whose
-- group moves is held is said where it moves (`IsFirst` of oram_lines): no other step speaks of it.
pub record AreGroups (shape : Shape) (plb : ℕ) (g : Ghost) (chip : Chip) : Type 0 where
  -- A top layer's block has its counter on chip. The step of such a block needs it: the counter that is looked for is
  -- that which the chip shows.
  pub roots : (a : ℕ) → a < shape.total → parent_of shape.lines shape.layers a ≡ None
      → IsRootOf g a (root_counter shape chip.roots a)
  -- A held block is held under its counter. The append needs it when the block leaves: its message has that counter.
  pub counters : (h : HeldBlock) → Has h chip.held → h.counter ≡ g.count h.address
  -- Its group shows its children's counters. The step of a child needs it, each child of a group move, and the append,
  -- whose line is made of the group.
  pub groups : (h : HeldBlock) → Has h chip.held → IsGroupOf shape g h.address h.group.group h.group.own
  -- The block whose slot comes next is of the top layer, or its parent is the first that is held. No step needs it,
  -- since the step of a child asks for its parent as the first: it says of each access that it is under the counter
  -- that the group before it gives, and nothing that isn't on chip.
  pub parent : (a p : ℕ) → g.pend ≡ Some a → parent_of shape.lines shape.layers a ≡ Some p
      → (rest : List ℕ) × (g.held ≡ p ∷ rest)
  -- The blocks that are held are those on chip, in this order. Each step that speaks of a held block needs it, so that
  -- what the chip holds and what is known of it are of the same blocks: a use, an insert, a child that is renumbered.
  pub listed : g.held ≡ addresses chip.held
  -- They differ. A step needs it, since only the first one's group changes; and an insert, since what is displaced
  -- isn't held any more.
  pub apart : AreDistinct g.held
  -- They are at most `plb`. An insert needs it: one block at most is displaced, and none is lost.
  pub few : length g.held ≤ plb
  -- They are of the shape. A step needs it, and a group move: a parent stands above its children, and its message is of
  -- a block of the shape where it is displaced.
  pub inside : (p : ℕ) → Has p g.held → p < shape.total
  -- They are blocks of the position map: each has children. No step here needs it; the append does, whose line is made
  -- of the group and not of a data line's bytes, and a call for a line, which is never one that is held.
  pub families : (p : ℕ) → Has p g.held
      → (family : ℕ × ℕ) × (children_of shape.lines shape.layers p ≡ Some family)

-- the chip at the start: no block was accessed, and none is held
abbrev pub first_chip : ℕ → Chip
first_chip roots = record { roots = replicate roots 0; held = [] }

-- a top layer's block is stepped
abbrev pub root_stepped : Shape → ℕ → Chip → Chip
root_stepped shape a chip = record chip {
  roots = slice_set chip.roots (root_place shape a) ((slice_index chip.roots (root_place shape a) + 1) % 2 ^ 64);
}

-- the first held block has another group
abbrev pub with_group : HeldBlock → GroupState → HeldBlock
with_group h group = record h { group = group }

abbrev pub is_at : ℕ → HeldBlock → Bool
is_at a h = h.address == a

-- a held block has another counter
abbrev pub with_counter : HeldBlock → Counter → HeldBlock
with_counter h c = record h { counter = c }

abbrev pub recount_held : ℕ → Counter → List HeldBlock → List HeldBlock
recount_held a c held = changed_first (λ (h : HeldBlock). with_counter h c) (is_at a) held

-- a block is held as the first, and the last of a full list isn't held any more
abbrev pub with_held : ℕ → HeldBlock → Chip → Chip
with_held plb h chip = record chip { held = take plb (h ∷ chip.held) }

-- a held block is used, and comes first
abbrev pub with_used : ℕ → Chip → Chip
with_used p chip = record chip { held = promoted_first (is_at p) chip.held }
