-- Blocks, their points, messages and entries under the keys of one memory; and where entries stand.
use Rattle.std.specs.Prelude.{◌≡◌, ◌≤◌, ◌<◌, ◌^◌, ℕ, List, [], slice_index_or}
use Rattle.asc_base.specs.Shape.{IsShape}
use Rattle.asc_base.specs.TreeShape.{bucket_of}
use Rattle.asc_base.specs.declared.block.Counter.{Counter}
use Rattle.asc_base.specs.declared.block.Entry.{Entry}
use Rattle.asc_base.specs.declared.block.Message.{Message}
use Rattle.asc_base.specs.declared.block.Point.{Point}
use Rattle.asc_base.specs.declared.block.Point.TheVariants.{Real}
use Rattle.asc_base.specs.declared.shape.Shape.{Shape}
use Rattle.bucket_codec.specs.Bucket.{opened}
use Rattle.leaf_function.specs.Leaf.{leaf}
use Rattle.pmmac_tags.specs.Tag.{tag}
use Rattle.oram_contents.specs.Contents.{entries_of}

-- the shape of a memory, the keys of its pads and tags, and its leaf function
pub record Keys : Type 0 where
  pub shape : Shape
  pub pads : List ℕ
  pub tags : List ℕ
  pub leaf_of : Point → ℕ

-- there is such a shape, and every leaf is one of its tree's
pub record AreKeys (keys : Keys) : Type 0 where
  pub shape : IsShape keys.shape
  pub leaves : (point : Point) → keys.leaf_of point < 2 ^ keys.shape.levels

-- the keys of a memory of this shape by three keys: of its pads, of its tags and of its leaves
abbrev pub keys_by : Shape → (pads tags leaves : List ℕ) → Keys
keys_by shape pads tags leaves = record {
  shape = shape;
  pads = pads;
  tags = tags;
  leaf_of = leaf leaves shape.levels;
}

-- a block under a counter
abbrev pub real : ℕ → Counter → Point
real a c = Real (record { 0 = a }) c

abbrev pub message_of : ℕ → Counter → List ℕ → Message
message_of a c l = record { address = record { 0 = a }; counter = c; line = record { 0 = l } }

-- the entry that a block's line becomes under a counter
abbrev pub entry_of : Keys → ℕ → Counter → List ℕ → Entry
entry_of keys a c l = record {
  address = record { 0 = a };
  leaf = record { 0 = keys.leaf_of (real a c) };
  line = record { 0 = l };
  tag = tag keys.tags (message_of a c l);
}

-- the entries that a bucket's bytes stand for; bytes that aren't in the form have none
abbrev pub entries_in : Keys → List ℕ → List Entry
entries_in keys bytes = entries_of (opened keys.pads keys.shape bytes)

-- the entries of a bucket, by the bytes of all
abbrev pub entries_at : Keys → List (List ℕ) → ℕ → List Entry
entries_at keys mirror bucket = entries_in keys (slice_index_or mirror bucket [])

-- a bucket is on the path of a leaf
abbrev pub OnPath : ℕ → ℕ → ℕ → Type 0
OnPath levels leaf bucket = (level : ℕ) × (level ≤ levels) × (bucket ≡ bucket_of levels leaf level)
