-- Held blocks, the most recent first. Of several with one address the first counts; a caller keeps the addresses distinct
-- by inserting only a block whose address isn't held.
use Rattle.std.specs.Prelude.{ℕ, nat_eq, Bool, List, ◌∷◌, map, find, Option, take, slice_get}
use Rattle.asc_base.specs.Lookup.{changed_first, promoted_first}
use Rattle.asc_base.specs.declared.block.Address.{Address}
use Rattle.asc_base.specs.declared.block.Counter.{Counter}
use Rattle.posmap_counters.specs.Group.{GroupState}
use Rattle.posmap_lookaside.specs.declared.held.Held.{Held}

-- whether a block is that of this address
abbrev pub is_of : Address → Held → Bool
is_of address held = nat_eq held.address.0 address.0

-- the block of this address
abbrev pub held_at : List Held → Address → Option Held
held_at list address = find (is_of address) list

-- the list with the block of this address in front, where it is there at all
abbrev pub promoted : List Held → Address → List Held
promoted list address = promoted_first (is_of address) list

-- the list with the block of this address changed in its place
abbrev pub changed : (Held → Held) → List Held → Address → List Held
changed change list address = changed_first change (is_of address) list

-- a block with this group, and one with this counter
abbrev pub with_group : GroupState → Held → Held
with_group group held = record held { group = group }

abbrev pub with_counter : Counter → Held → Held
with_counter counter held = record held { counter = counter }

-- the list with one block more in front, as far as there is room
abbrev pub inserted : ℕ → Held → List Held → List Held
inserted capacity held list = take capacity (held ∷ list)

-- the block that finds no room any more
abbrev pub displaced : ℕ → Held → List Held → Option Held
displaced capacity held list = slice_get (held ∷ list) capacity

-- the addresses in order
abbrev pub addresses_of : List Held → List ℕ
addresses_of list = map (λ held. held.address.0) list
