-- When a front end and a memory of lines show the counters of all blocks; and what a walk's accesses show to the
-- memory.
use Rattle.std.specs.Prelude.{◌≡◌, ◌<◌, ℕ, List, [], ◌∷◌, Option, Some, None}
use Rattle.std.specs.Option.{option_map_or}
use Rattle.asc_base.specs.TreeShape.{children_of}
use Rattle.asc_base.specs.declared.block.Address.{Address}
use Rattle.asc_base.specs.declared.block.Counter.{Counter}
use Rattle.asc_base.specs.declared.block.Line.{Line}
use Rattle.posmap_counters.specs.Counters.{counter_at}
use Rattle.posmap_counters.specs.Families.{HasCounters, HasRoots, family_line}
use Rattle.posmap_counters.specs.Group.{GroupState, IsGroup, line_in}
use Rattle.posmap_lookaside.specs.Held.{held_at, addresses_of}
use Rattle.posmap_lookaside.specs.Walk.{WalkAccess, WalkSizes, OnChip, IsHeldList, Purpose as WalkPurpose}
use Rattle.posmap_lookaside.specs.Walk.{Refill as Refills, Final, Moves}
use Rattle.posmap_lookaside.specs.declared.held.Held.{Held}
use Rattle.oram_walk.specs.Front.{FrontState, IsFront, sizes_of}
use Rattle.oram_walk.specs.Memory.{Shown, Accessed, Displaced}
use Rattle.oram_walk.specs.declared.slots.Purpose.{Purpose}
use Rattle.oram_walk.specs.declared.slots.Purpose.TheVariants.{Refill, Keep}

-- A family's counters are those of a group: that of its parent where this is held, else the one in the parent's line.
abbrev pub IsShown : Option Held → Line → (ℕ → Counter) → ℕ → ℕ → Type 0
IsShown (Some block) line count first number = IsGroup block.group × HasCounters count first number block.group
IsShown None line count first number =
    (group : GroupState) × IsGroup group × HasCounters count first number group × (line.0 ≡ line_in group)

-- A front end and a memory of lines show the held blocks and the counters of a walk.
pub record Shows (state : FrontState) (lines : ℕ → Line) (chip : OnChip) : Type 0 where
  pub front : IsFront state
  pub held : addresses_of state.held ≡ chip.held
  pub list : IsHeldList (sizes_of state) chip.held
  -- the roots are the counters of the top layer's blocks
  pub roots : HasRoots state.shape.lines state.shape.layers (counter_at chip.counters) state.roots
  -- a held block is held under its counter
  pub counters : (address : Address) (block : Held) → held_at state.held address ≡ Some block
      → block.counter ≡ counter_at chip.counters address.0
  -- and each other block has its counter in its parent's group
  pub groups : (address : Address) (first number : ℕ) → address.0 < state.shape.total
      → children_of state.shape.lines state.shape.layers address.0 ≡ Some (first, number)
      → IsShown (held_at state.held address) (lines address.0) (counter_at chip.counters) first number

-- what becomes of a block that is accessed for this reason, where the final access puts it back so
abbrev pub put_of : Purpose → WalkPurpose → Purpose
put_of put Refills = Refill
put_of put Final = put
put_of put Moves = Keep

-- a displaced block under its counter, with the line of its family's counters
abbrev pub displaced_by : WalkSizes → (ℕ → Counter) → ℕ → Shown
displaced_by sizes count last =
    Displaced last (count last)
    (record { 0 = option_map_or (family_line count) (children_of sizes.lines sizes.layers last) [] })

-- the line that is found of a block: a position-map block's is that of its family's counters, a data line's is the one
-- of these
abbrev pub found_line : WalkSizes → (ℕ → Counter) → (ℕ → Line) → ℕ → Line
found_line sizes count lines address =
    option_map_or (λ family. let line : Line = record { 0 = family_line count family } in line)
    (children_of sizes.lines sizes.layers address) (lines address)

-- What an access of a walk shows of a memory that has these lines when the walk starts: the block under its counters
-- before and after, with the line that is found, and then the displaced block.
abbrev pub shown_by : WalkSizes → (ℕ → Line) → Purpose → WalkAccess → List Shown
shown_by sizes lines put access =
    Accessed access.address access.counter (counter_at access.counters access.address) (put_of put access.purpose)
    (found_line sizes (counter_at access.counters) lines access.address)
    ∷ option_map_or (λ last. displaced_by sizes (counter_at access.counters) last ∷ []) access.displaced []
