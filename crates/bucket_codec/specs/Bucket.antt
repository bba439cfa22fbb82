-- Buckets: which 376 bytes stand for which seed and four slots under a key of pads.
use Rattle.std.specs.Prelude.{◌≡◌, ◌≢◌, ℕ, ◌<◌, ◌+◌, ◌*◌, ◌==◌, List, [], ◌∷◌, ◌++◌, take, drop, length, map, flat_map}
use Rattle.std.specs.Prelude.{Option, Some, None, Result, Ok, Err, All, if◌then◌else◌}
use Rattle.std.specs.Option.{option_to_list}
use Rattle.std.specs.Int.{w64, to_be_bytes, from_be_bytes}
use Rattle.asc_base.specs.declared.block.Entry.{Entry}
use Rattle.asc_base.specs.declared.shape.Shape.{Shape}
use Rattle.bucket_codec.specs.Pad.{pad_of, masked}
use Rattle.bucket_codec.specs.Slot.{slot_text, slot_in, IsSlot, IsInRange}
use Rattle.bucket_codec.specs.declared.codec.BadSlot.{BadSlot}

-- the bytes of slots one after the other
unfoldable pub body_text : List (Option Entry) → List ℕ
body_text slots = flat_map slot_text slots

-- the bytes of a bucket: its seed (8 bytes, high byte first), then its slots' bytes, each xor the pad's
unfoldable pub bucket_text : List ℕ → ℕ → List (Option Entry) → List ℕ
bucket_text key seed slots = to_be_bytes w64 seed ++ masked (pad_of key seed) (body_text slots)

-- the seed of a bucket's bytes
unfoldable pub seed_in : List ℕ → ℕ
seed_in bytes = from_be_bytes w64 (take 8 bytes)

-- the bytes of the slots behind a bucket's seed
unfoldable pub body_in : List ℕ → List ℕ → List ℕ
body_in key bytes = masked (pad_of key (seed_in bytes)) (drop 8 bytes)

-- the 92 bytes of a slot of these
abbrev pub part : List ℕ → ℕ → List ℕ
part body slot = take 92 (drop (92 * slot) body)

-- a slot before those that follow it
abbrev pub before : Option Entry → Result (List (Option Entry)) BadSlot → Result (List (Option Entry)) BadSlot
before slot (Ok later) = Ok (slot ∷ later)
before slot (Err bad) = Err bad

-- slots in order, numbered from `slot` on, or the first that isn't there
abbrev pub in_order : ℕ → List (Option (Option Entry)) → Result (List (Option Entry)) BadSlot
in_order slot [] = Ok []
in_order slot (None ∷ rest) = Err (record { slot = slot })
in_order slot (Some found ∷ rest) = before found (in_order (slot + 1) rest)

-- the slot of a number, read from the bytes of four, and none where it isn't in the form
unfoldable pub slot_at : Shape → List ℕ → ℕ → Option (Option Entry)
slot_at shape body slot = slot_in shape (part body slot)

-- the four slots that these bytes have, or the first that isn't in the form
abbrev pub slots_in : Shape → List ℕ → Result (List (Option Entry)) BadSlot
slots_in shape body = in_order 0 (map (slot_at shape body) (0 ∷ 1 ∷ 2 ∷ 3 ∷ []))

-- the slots of a bucket that was never written
abbrev pub empty_slots : List (Option Entry)
empty_slots = None ∷ None ∷ None ∷ None ∷ []

-- the slots of a bucket: four empty ones where its seed is 0, whatever follows
unfoldable pub opened : List ℕ → Shape → List ℕ → Result (List (Option Entry)) BadSlot
opened key shape bytes =
    if seed_in bytes == 0 then Ok empty_slots else slots_in shape (body_in key bytes)

-- the entries in slots, in order
abbrev pub slot_entries : List (Option Entry) → List Entry
slot_entries slots = flat_map option_to_list slots

-- The bucket of these bytes has a slot in the form with this entry, whatever its other slots are. One whose seed is 0
-- has none.
pub record Holds (key : List ℕ) (shape : Shape) (bytes : List ℕ) (entry : Entry) : Type 0 where
  pub written : seed_in bytes ≢ 0
  pub slot : ℕ
  pub below : slot < 4
  pub found : slot_at shape (body_in key bytes) slot ≡ Some (Some entry)

-- four slots, whose entries' numbers and bytes are those of their types
pub record AreSlots (slots : List (Option Entry)) : Type 0 where
  pub four : length slots ≡ 4
  pub each : All IsSlot slots

-- every entry has an address of the shape's blocks and a leaf of the tree's
abbrev pub AreInRange : Shape → List (Option Entry) → Type 0
AreInRange shape slots = All (IsInRange shape) slots

-- the first of four slots that isn't in the form
pub record IsFirstBad (shape : Shape) (body : List ℕ) (slot : ℕ) : Type 0 where
  pub below : slot < 4
  pub bad : slot_at shape body slot ≡ None
  pub before : (earlier : ℕ) → earlier < slot → slot_at shape body earlier ≢ None
