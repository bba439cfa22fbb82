-- Where each block stands while no reply was altered.
use Rattle.std.specs.Prelude.{◌≡◌, ◌<◌, ◌+◌, ◌==◌, ℕ, zero, suc, Bool, true, false, List, count_by, Option, None, Some}
use Rattle.std.specs.Prelude.{Ok, [], slice_index_or, if◌then◌else◌}
use Rattle.asc_base.specs.TreeShape.{bucket_of}
use Rattle.asc_base.specs.declared.block.Entry.{Entry}
use Rattle.bucket_codec.specs.Bucket.{opened}
use Rattle.oram_contents.specs.Contents.{Contents}
use Rattle.oram_contents.specs.Entries.{Keys, entries_at}
use Rattle.oram_contents.specs.Counts.{Ghost}
use Rattle.oram_contents.specs.Verdict.{is_first}

-- the sum of what a function has for the numbers below one
abbrev pub total : (ℕ → ℕ) → ℕ → ℕ
total f zero = 0
total f (suc n) = total f n + f n

-- whether a bucket is one of the first n on the path of a leaf
abbrev pub meets : ℕ → ℕ → ℕ → ℕ → Bool
meets levels leaf zero bucket = false
meets levels leaf (suc n) bucket = (if bucket == bucket_of levels leaf n then true else meets levels leaf n bucket)

abbrev pub is_open : ℕ → Option ℕ → ℕ → Bool
is_open levels None bucket = false
is_open levels (Some leaf) bucket = meets levels leaf (levels + 1) bucket

-- whether an entry is of a block
abbrev pub is_copy : ℕ → Entry → Bool
is_copy a e = e.address.0 == a

abbrev pub copies : ℕ → List Entry → ℕ
copies a entries = count_by (is_copy a) entries

-- the copies of a block in the tree, but for the path that is open
abbrev pub tree_copies : Keys → Option ℕ → List (List ℕ) → ℕ → ℕ
tree_copies keys path mirror a =
    total (λ b. (if is_open keys.shape.levels path b then 0 else copies a (entries_at keys mirror b)))
    keys.shape.buckets

-- 1 for a block that is in flight, else 0
abbrev pub flying : ℕ → Option ℕ → ℕ
flying a None = 0
flying a (Some b) = (if b == a then 1 else 0)

-- the places of a block
abbrev pub places : Keys → Ghost → Contents → ℕ → ℕ
places keys g now a =
    copies a now.hand + (tree_copies keys g.path now.mirror a + (count_by (λ b. b == a) g.held + flying a g.flight))

-- each block that was accessed has one place: at hand, in the tree, held or in flight; every other block has none
abbrev pub Home : Keys → Ghost → Contents → Type 0
Home keys g now = (a : ℕ) → a < keys.shape.total → places keys g now a ≡ (if is_first (g.count a) then 0 else 1)

-- each bucket's bytes are in the form of a bucket
abbrev pub AreInForm : Keys → List (List ℕ) → Type 0
AreInForm keys mirror = (b : ℕ) → b < keys.shape.buckets
    → (slots : List (Option Entry)) × (opened keys.pads keys.shape (slice_index_or mirror b []) ≡ Ok slots)
