-- What is at hand where a path's entries joined it up to the first evidence: that of the buckets above and the slots
-- before it.
use Rattle.std.specs.Prelude.{ℕ, ◌+◌, List, [], ◌∷◌, map, Option, Result, Ok, Err}
use Rattle.asc_base.specs.declared.block.Entry.{Entry}
use Rattle.asc_base.specs.declared.shape.Shape.{Shape}
use Rattle.asc_base.specs.declared.stop.Evidence.{Evidence}
use Rattle.bucket_codec.specs.Bucket.{opened}
use Rattle.bucket_codec.specs.declared.codec.BadSlot.{BadSlot as Bad}
use Rattle.oram_contents.specs.PathRead.{join_slot, join_bucket}

-- what follows from the next hand, or what is left where there is evidence
abbrev pub hand_then : Result (List Entry) Evidence → List Entry → (List Entry → List Entry) → List Entry
hand_then (Ok hand) left next = next hand
hand_then (Err evidence) left next = left

-- after slots in order, numbered from `slot` on
abbrev pub slots_joined : ℕ → ℕ → ℕ → ℕ → List (Option Entry) → List Entry → List Entry
slots_joined levels leaf level slot [] hand = hand
slots_joined levels leaf level slot (first ∷ rest) hand =
    hand_then (join_slot levels leaf level slot first hand) hand (slots_joined levels leaf level (slot + 1) rest)

-- after a bucket: none of its entries joins where a slot isn't in the form
abbrev pub bucket_joined : ℕ → ℕ → ℕ → Result (List (Option Entry)) Bad → List Entry → List Entry
bucket_joined levels leaf level (Ok slots) hand = slots_joined levels leaf level 0 slots hand
bucket_joined levels leaf level (Err bad) hand = hand

-- after buckets in order, from a level on
abbrev pub buckets_joined : ℕ → ℕ → ℕ → List (Result (List (Option Entry)) Bad) → List Entry → List Entry
buckets_joined levels leaf level [] hand = hand
buckets_joined levels leaf level (first ∷ rest) hand =
    hand_then (join_bucket levels leaf level first hand) (bucket_joined levels leaf level first hand)
    (buckets_joined levels leaf (level + 1) rest)

-- after these replies along the path of a leaf
abbrev pub path_joined : List ℕ → Shape → ℕ → List (List ℕ) → List Entry → List Entry
path_joined key shape leaf texts hand = buckets_joined shape.levels leaf 0 (map (opened key shape) texts) hand
