-- Logs that are computed with, of one slot or two: in which no reply was altered, or one.
use Rattle.std.specs.Prelude.{◌≡◌, ◌<◌, ◌+◌, ◌-◌, ◌^◌, if◌then◌else◌, ℕ, false, List, [], ◌∷◌, ◌++◌, length}
use Rattle.std.specs.Prelude.{Option, None, Some}
use Rattle.asc_base.specs.TreeShape.{parent_of, children_of, shared_of}
use Rattle.asc_base.specs.declared.block.Counter.{Counter}
use Rattle.asc_base.specs.declared.block.Entry.{Entry}
use Rattle.asc_base.specs.declared.block.Message.{Message}
use Rattle.asc_base.specs.declared.block.Point.{Point}
use Rattle.asc_base.specs.declared.block.Point.TheVariants.{Real, Dummy}
use Rattle.asc_base.specs.declared.shape.Shape.{Shape}
use Rattle.bucket_codec.specs.Bucket.{bucket_text}
use Rattle.bus_watch.specs.Log.{LogLists}
use Rattle.bus_watch.specs.Path.{along}
use Rattle.bus_watch.specs.declared.log.Altered.{Altered}
use Rattle.bus_watch.specs.declared.log.Event.{Event}
use Rattle.bus_watch.specs.declared.log.Event.TheVariants.{Accepted, Tagged, Chosen, Answered}
use Rattle.bus_watch.specs.declared.log.Move.{Move}
use Rattle.oram_contents.specs.Entries.{Keys, AreKeys, real, message_of}
use Rattle.oram_contents.specs.Slots.{drawn_events}
use Rattle.oram_contents.specs.Verdict.{is_first}
use Rattle.pmmac_tags.specs.Tag.{tag}
use Rattle.posmap_counters.specs.Counters.{first_counter}

-- a log of these events
abbrev pub log_of : List Event → LogLists
log_of events = record { moves = []; events = events; altered = [] }

-- a log of these moves and events
abbrev pub moved_log : List Move → List Event → LogLists
moved_log moves events = record { moves = moves; events = events; altered = [] }

-- a slot of the dummy of a number, at whose end a rate is chosen
abbrev pub dummy_events : Keys → ℕ → List Event
dummy_events keys n = drawn_events keys 256 None (Dummy n) ++ Chosen 0 ∷ []

-- a slot of a block under a counter, in which this is noted
abbrev pub block_events : Keys → ℕ → Counter → List Event → List Event
block_events keys a c more = drawn_events keys 256 (Some 0) (real a c) ++ more

-- a message is put back, and a line is answered
abbrev pub fetched : Message → ℕ → List ℕ → List Event
fetched m line value = Tagged m ∷ Answered line (record { 0 = value }) ∷ []

-- a rate is chosen, and a message is appended
abbrev pub displaced : Message → List Event
displaced m = Chosen 0 ∷ Tagged m ∷ []

-- a log whose first slot broke off in its reads, behind the one at a level
abbrev pub broken_log : Keys → ℕ → LogLists
broken_log keys level =
    moved_log (along keys.shape.levels false 256 (keys.leaf_of (Dummy 0)) (level + 1))
    (drawn_events keys 256 None (Dummy 0))

-- A log of two slots of a block that was never accessed: a line of it is put back under a counter, and this is noted of
-- its slot under that counter.
abbrev pub again_log : Keys → ℕ → Counter → List ℕ → List Event → LogLists
again_log keys a d l more = log_of (block_events keys a first_counter (Tagged (message_of a d l) ∷ [])
    ++ (drawn_events keys 1008 (Some 752) (real a d) ++ more))

-- what was put back is accepted
abbrev pub found_again : Keys → ℕ → Counter → List ℕ → List Event → List Event
found_again keys a d l more = Accepted (message_of a d l) (tag keys.tags (message_of a d l)) ∷ more

-- a data line of 64 bytes, whose counter is a root
pub record IsTopLine (keys : Keys) (a : ℕ) (l : List ℕ) : Type 0 where
  pub lawful : AreKeys keys
  pub inside : a < keys.shape.total
  pub parent : parent_of keys.shape.lines keys.shape.layers a ≡ None
  pub children : children_of keys.shape.lines keys.shape.layers a ≡ None
  pub line : length l ≡ 64

-- an entry of a block's line with a tag, at the leaf of the block's point
abbrev pub found_entry : Keys → ℕ → Counter → List ℕ → List ℕ → Entry
found_entry keys a c l tag = record {
  address = record { 0 = a };
  leaf = record { 0 = keys.leaf_of (real a c) };
  line = record { 0 = l };
  tag = tag;
}

-- the root's reply is altered to a bucket of such an entry
abbrev pub found_reply : Keys → ℕ → Counter → List ℕ → List ℕ → Altered
found_reply keys a c l tag = record {
  time = 256;
  bucket = 0;
  bytes = bucket_text keys.pads 1 (Some (found_entry keys a c l tag) ∷ None ∷ None ∷ None ∷ []);
  before = 2;
}

-- a log of one slot with that reply, in which a message is accepted
abbrev pub found_log : Keys → ℕ → Counter → List ℕ → List ℕ → Message → List ℕ → LogLists
found_log keys a c l tag message found = record {
  moves = [];
  events = block_events keys a c (Accepted message found ∷ []);
  altered = found_reply keys a c l tag ∷ [];
}

-- such an entry can stand in a bucket: its block is one of the shape, its line has 64 bytes and its tag 16
pub record CanStand (keys : Keys) (a : ℕ) (l tag : List ℕ) : Type 0 where
  pub lawful : AreKeys keys
  pub inside : a < keys.shape.total
  pub line : length l ≡ 64
  pub tagged : length tag ≡ 16

-- an entry of a block with this leaf, line and tag
abbrev pub leaf_entry : ℕ → ℕ → List ℕ → List ℕ → Entry
leaf_entry a leaf l tag = record {
  address = record { 0 = a };
  leaf = record { 0 = leaf };
  line = record { 0 = l };
  tag = tag;
}

-- the slots of a bucket with entries of blocks 1 to 4
abbrev pub four_entries : ℕ → List ℕ → List ℕ → List (Option Entry)
four_entries leaf l tag = Some (leaf_entry 1 leaf l tag) ∷ Some (leaf_entry 2 leaf l tag)
    ∷ Some (leaf_entry 3 leaf l tag) ∷ Some (leaf_entry 4 leaf l tag) ∷ []

-- the root's reply is altered to such a bucket
abbrev pub full_reply : Keys → ℕ → List ℕ → List ℕ → Altered
full_reply keys leaf l tag = record {
  time = 256;
  bucket = 0;
  bytes = bucket_text keys.pads 1 (four_entries leaf l tag);
  before = 2;
}

-- a log of the first slot of block 0 with that reply, in which a line of block 0 is put back under a counter
abbrev pub full_log : Keys → Counter → ℕ → List ℕ → List ℕ → LogLists
full_log keys c leaf l tag = record {
  moves = [];
  events = block_events keys 0 first_counter (Tagged (message_of 0 c l) ∷ []);
  altered = full_reply keys leaf l tag ∷ [];
}

-- Such entries can stand in a bucket; and neither they nor block 0 under the counter can stand below the root on the
-- path of its first slot.
pub record AreApartBelow (keys : Keys) (c : Counter) (leaf : ℕ) (l tag : List ℕ) : Type 0 where
  pub lawful : AreKeys keys
  pub blocks : 4 < keys.shape.total
  pub within : leaf < 2 ^ keys.shape.levels
  pub line : length l ≡ 64
  pub tagged : length tag ≡ 16
  pub others : shared_of keys.shape.levels leaf (keys.leaf_of (real 0 first_counter)) ≡ 0
  pub again : shared_of keys.shape.levels (keys.leaf_of (real 0 c)) (keys.leaf_of (real 0 first_counter)) ≡ 0

-- a leaf function that parts blocks from where they first are: the first leaf for a block that was never accessed and
-- for dummies, and else the first leaf of the tree's other half
abbrev pub parted_leaf : ℕ → Point → ℕ
parted_leaf levels (Real a c) = (if is_first c then 0 else 2 ^ (levels - 1))
parted_leaf levels (Dummy n) = 0

abbrev pub parted_keys : Shape → Keys
parted_keys shape = record { shape = shape; pads = []; tags = []; leaf_of = parted_leaf shape.levels }
