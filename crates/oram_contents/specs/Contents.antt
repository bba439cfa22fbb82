-- The contents beside a log: the entries at hand, the buckets as last written, and the seed of the next one; and the
-- two halves of a slot as steps on them.
use Rattle.std.specs.Prelude.{◌≡◌, ◌+◌, ℕ, List, [], map, flat_map, Option, Result, Ok, Err}
use Rattle.std.specs.Option.{option_to_list}
use Rattle.asc_base.specs.declared.block.Entry.{Entry}
use Rattle.asc_base.specs.declared.shape.Shape.{Shape}
use Rattle.bucket_codec.specs.Bucket.{opened}
use Rattle.bucket_codec.specs.declared.codec.BadSlot.{BadSlot as Bad}
use Rattle.bus_watch.specs.declared.log.Altered.{Altered}
use Rattle.oram_contents.specs.PathRead.{replies, path_read}
use Rattle.oram_contents.specs.PathWritten.{stays, sealed}

pub record Contents : Type 0 where
  pub hand : List Entry
  pub mirror : List (List ℕ)
  pub seed : ℕ

-- the four slots of each bucket, or the first that isn't in the form
abbrev pub buckets_of : List ℕ → Shape → Contents → List (Result (List (Option Entry)) Bad)
buckets_of key shape contents = map (opened key shape) contents.mirror

-- the entries of a bucket, by slot
abbrev pub entries_of : Result (List (Option Entry)) Bad → List Entry
entries_of (Ok slots) = flat_map option_to_list slots
entries_of (Err bad) = []

-- A path is read: these are the replies of a slot by its altered ones, and the entries in them join the hand.
abbrev pub IsReadTo : List ℕ → Shape → ℕ → ℕ → List Altered → Contents → List Entry → Type 0
IsReadTo key shape start leaf altered contents joined =
    path_read key shape leaf (replies shape.levels start leaf contents.mirror altered) contents.hand ≡ Ok joined

-- a path is written
abbrev pub after_write : List ℕ → ℕ → ℕ → Contents → Contents
after_write key levels leaf contents = record {
  hand = stays levels leaf contents.hand;
  mirror = sealed key levels leaf contents.seed contents.hand contents.mirror (levels + 1);
  seed = contents.seed + (levels + 1);
}
