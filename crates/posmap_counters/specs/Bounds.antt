-- What bounds the counters of all blocks, which are given here by a function of their addresses.
use Rattle.std.specs.Prelude.{◌≡◌, ◌≢◌, ℕ, ◌+◌, ◌-◌, ◌^◌, ◌<◌, ◌≤◌, Option, None, Some}
use Rattle.asc_base.specs.TreeShape.{layer_first, parent_of, children_of}
use Rattle.asc_base.specs.declared.block.Counter.{Counter}
use Rattle.posmap_counters.specs.Families.{HasOneGroup}

-- The counters after so many accesses, where own counts have `ic` bits, and while one block's children may be moving.
pub record AreCounters (lines layers ic : ℕ) (count : ℕ → Counter) (moving : Option ℕ) (accesses : ℕ) : Type 0 where
  -- the two numbers of a counter are together at most the number of accesses
  pub few : (address : ℕ) → (count address).group + (count address).own ≤ accesses
  -- an own count has its bits
  pub own : (address : ℕ) → (count address).own ≤ 2 ^ ic - 1
  -- a block of the top layer has its group counter alone
  pub top : (address : ℕ) → address < layer_first lines layers → parent_of lines layers address ≡ None
      → (count address).own ≡ 0
  -- the children of one block share their group counter, unless they are moving
  pub families : (parent first number : ℕ) → parent < layer_first lines layers
      → children_of lines layers parent ≡ Some (first, number) → moving ≢ Some parent → HasOneGroup count first number
