-- The shape of the tree and of the addresses of its blocks, for any number of data lines and of roots.
--
-- Layer 0 has the data lines. Each next layer has one position-map block per 32 blocks of the layer below, rounded up.
-- The top layer is the first that has at most `roots` blocks. The layers follow each other in the addresses.
use Rattle.std.specs.Prelude.{ℕ, ◌+◌, ◌-◌, ◌*◌, ◌/◌, ◌%◌, ◌^◌, ◌<◌, ◌≤◌, ◌==◌, nat_le, min, max}
use Rattle.std.specs.Prelude.{Option, Some, None, if◌then◌else◌}
use Rattle.std.proofs.Common.{zero, suc}
use Rattle.asc_base.specs.Greatest.{least, greatest}

-- the number of blocks of a layer
unfoldable pub layer_count : ℕ → ℕ → ℕ
layer_count lines zero = lines
layer_count lines (suc layer) = (layer_count lines layer + 31) / 32

-- the address of the first block of a layer
unfoldable pub layer_first : ℕ → ℕ → ℕ
layer_first lines zero = 0
layer_first lines (suc layer) = layer_first lines layer + layer_count lines layer

-- the top layer: the first that has at most `roots` blocks
unfoldable pub top_layer : ℕ → ℕ → ℕ
top_layer lines roots = least (λ layer. nat_le (layer_count lines layer) roots) lines

-- the level of the leaves: the greatest number with 2 ^ (levels + 1) at most the number of all blocks, and at least 1
unfoldable pub levels_of : ℕ → ℕ
levels_of total = max 1 (greatest (λ level. nat_le (2 ^ (level + 1)) total) total)

-- the number of buckets of a tree
unfoldable pub buckets_of : ℕ → ℕ
buckets_of levels = 2 ^ (levels + 1) - 1

-- the cycles of a bucket's read or write
abbrev pub move_cycles : ℕ
move_cycles = 40

-- the cycles between a path's reads and its writes
abbrev pub turn_cycles : ℕ
turn_cycles = 16

-- the cycles of a slot: a read and a write of every bucket of a path, and the turn between them
abbrev pub olat_of : ℕ → ℕ
olat_of levels = 2 * (levels + 1) * move_cycles + turn_cycles

-- The following speak of the blocks of the first `layers` layers over `lines` data lines.

-- the layer of a block: the greatest whose first block isn't behind it
unfoldable pub layer_of : ℕ → ℕ → ℕ → ℕ
layer_of lines layers address = greatest (λ layer. nat_le (layer_first lines layer) address) (layers - 1)

-- the addresses of a layer
pub record IsInLayer (lines layer address : ℕ) : Type 0 where
  pub from : layer_first lines layer ≤ address
  pub below : address < layer_first lines (layer + 1)

-- the place of a block in its layer
unfoldable pub index_of : ℕ → ℕ → ℕ → ℕ
index_of lines layers address = address - layer_first lines (layer_of lines layers address)

-- the position-map block that has a block's counter, and none for a block of the top layer
unfoldable pub parent_of : ℕ → ℕ → ℕ → Option ℕ
parent_of lines layers address =
    (if layer_of lines layers address + 1 == layers then None
    else Some (layer_first lines (layer_of lines layers address + 1) + index_of lines layers address / 32))

-- the place of a block among its parent's children
unfoldable pub child_index_of : ℕ → ℕ → ℕ → ℕ
child_index_of lines layers address = index_of lines layers address % 32

-- the first of the blocks whose counters a block has, and how many they are; none for a data line
unfoldable pub children_of : ℕ → ℕ → ℕ → Option (ℕ × ℕ)
children_of lines layers address =
    (if layer_of lines layers address == 0 then None
    else Some (
      layer_first lines (layer_of lines layers address - 1) + 32 * index_of lines layers address,
      min 32 (layer_count lines (layer_of lines layers address - 1) - 32 * index_of lines layers address),
    ))

-- the bucket at a level of the path to a leaf, where the leaves are at level `levels`
unfoldable pub bucket_of : ℕ → ℕ → ℕ → ℕ
bucket_of levels leaf level = (2 ^ level - 1) + leaf / 2 ^ (levels - level)

-- the greatest level at which the paths to two leaves have the same bucket
unfoldable pub shared_of : ℕ → ℕ → ℕ → ℕ
shared_of levels x y = greatest (λ level. bucket_of levels x level == bucket_of levels y level) levels
