-- Slots, and the 92 bytes that each has. All numbers are written high byte first.
use Rattle.std.specs.Prelude.{◌≡◌, ℕ, ◌^◌, ◌<◌, ◌&&◌, Bool, List, [], ◌∷◌, ◌++◌, take, drop, length, replicate}
use Rattle.std.specs.Prelude.{nat_lt, bytes_eq, Option, Some, None, if◌then◌else◌}
use Rattle.std.specs.Int.{w32, to_be_bytes, from_be_bytes}
use Rattle.asc_base.specs.declared.block.Entry.{Entry}
use Rattle.asc_base.specs.declared.shape.Shape.{Shape}

-- the four bytes before an entry
abbrev pub flag : List ℕ
flag = 0x01 ∷ 0x00 ∷ 0x00 ∷ 0x00 ∷ []

-- the bytes of an entry: flag (4), address (4), leaf (4), line (64) and tag (16)
unfoldable pub entry_text : Entry → List ℕ
entry_text entry =
    flag ++ (to_be_bytes w32 entry.address.0 ++ (to_be_bytes w32 entry.leaf.0 ++ (entry.line.0 ++ entry.tag)))

-- the bytes of an empty slot
unfoldable pub empty_text : List ℕ
empty_text = replicate 92 0x00

-- the bytes of a slot
abbrev pub slot_text : Option Entry → List ℕ
slot_text None = empty_text
slot_text (Some entry) = entry_text entry

-- the entry whose numbers and bytes these 92 bytes are, whatever the flag
unfoldable pub entry_in : List ℕ → Entry
entry_in text = record {
  address = record { 0 = from_be_bytes w32 (take 4 (drop 4 text)) };
  leaf = record { 0 = from_be_bytes w32 (take 4 (drop 8 text)) };
  line = record { 0 = take 64 (drop 12 text) };
  tag = take 16 (drop 76 text);
}

-- the address is one of the shape's blocks, and the leaf one of the tree's leaves
abbrev pub is_placed : Shape → Entry → Bool
is_placed shape entry = nat_lt entry.address.0 shape.total && nat_lt entry.leaf.0 (2 ^ shape.levels)

-- the slot that has these 92 bytes, and none where they aren't in the form
unfoldable pub slot_in : Shape → List ℕ → Option (Option Entry)
slot_in shape text =
    (if bytes_eq text empty_text then Some None
    else (if bytes_eq (take 4 text) flag && is_placed shape (entry_in text) then Some (Some (entry_in text)) else None))

-- the entry's numbers and bytes are those of its types
pub record IsEntry (entry : Entry) : Type 0 where
  pub address : entry.address.0 < 2 ^ 32
  pub leaf : entry.leaf.0 < 2 ^ 32
  pub line : length entry.line.0 ≡ 64
  pub tag : length entry.tag ≡ 16

-- the slot is empty, or has such an entry
abbrev pub IsSlot : Option Entry → Type 0
IsSlot None = Unit {0}
IsSlot (Some entry) = IsEntry entry

-- the slot is empty, or has an entry with an address of the shape's blocks and a leaf of the tree's
abbrev pub IsInRange : Shape → Option Entry → Type 0
IsInRange shape None = Unit {0}
IsInRange shape (Some entry) = (entry.address.0 < shape.total) × (entry.leaf.0 < 2 ^ shape.levels)

-- a slot in the form has these bytes
pub record Spells (shape : Shape) (slot : Option Entry) (text : List ℕ) : Type 0 where
  pub spelled : slot_text slot ≡ text
  pub is : IsSlot slot
  pub range : IsInRange shape slot
