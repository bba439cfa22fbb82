-- Where each block of a play stands while no reply was altered.
use Rattle.std.specs.Prelude.{◌≡◌, ◌<◌, ◌+◌, ◌==◌, ℕ, List, count_by, if◌then◌else◌}
use Rattle.asc_base.specs.Has.{Has}
use Rattle.asc_base.specs.declared.block.Entry.{Entry}
use Rattle.asc_base.specs.declared.settings.Config.{Config}
use Rattle.oram_contents.specs.Contents.{Contents}
use Rattle.oram_contents.specs.Entries.{Keys, entry_of, entries_at, OnPath}
use Rattle.oram_contents.specs.Home.{copies, total}
use Rattle.oram_contents.specs.Verdict.{is_first}
use Rattle.posmap_counters.specs.Counters.{counter_at}
use Rattle.posmap_counters.specs.Group.{line_in}
use Rattle.posmap_lookaside.specs.Held.{addresses_of}
use Rattle.posmap_lookaside.specs.declared.held.Held.{Held}
use Rattle.run_play.specs.Requests.{Standing, line_at}

-- The entry that a block is outside of the chip: under its counter, with the leaf of its point and the tag of its
-- message; a data block's line is as last stored, and a position-map block's has its children's counters.
abbrev pub entry_in : Keys → Config → Standing → ℕ → Entry
entry_in keys config now a =
    entry_of keys a (counter_at now.chip.counters a) (line_at config now.chip.counters now.data_lines a)

-- how often a block stands in the buckets of the tree
abbrev pub times_in_tree : Keys → Contents → ℕ → ℕ
times_in_tree keys contents a = total (λ b. copies a (entries_at keys contents.mirror b)) keys.shape.buckets

-- how often it is held, at hand, and in the tree
abbrev pub times_placed : Keys → List ℕ → Contents → ℕ → ℕ
times_placed keys held contents a =
    count_by (λ b. b == a) held + (copies a contents.hand + times_in_tree keys contents a)

-- Each block that was accessed has one place: it is held, at hand, or in a bucket of the tree; every other block has
-- none. What is held are the blocks of the walk, each under its counter, with the group of its line. What is at hand or
-- in the tree is a block's entry, and a bucket is on the path of the leaf of each entry in it.
pub record IsAtHome (keys : Keys) (config : Config) (now : Standing) (held : List Held) (contents : Contents)
    : Type 0 where
  pub one_place : (a : ℕ) → a < keys.shape.total
      → times_placed keys now.chip.held contents a ≡ (if is_first (counter_at now.chip.counters a) then 0 else 1)
  pub walked : addresses_of held ≡ now.chip.held
  pub on_chip : (h : Held) → Has h held → (h.address.0 < keys.shape.total)
      × (h.counter ≡ counter_at now.chip.counters h.address.0)
      × (line_in h.group ≡ line_at config now.chip.counters now.data_lines h.address.0)
  pub at_hand : (e : Entry) → Has e contents.hand
      → (e.address.0 < keys.shape.total) × (e ≡ entry_in keys config now e.address.0)
  pub in_tree : (bucket : ℕ) (e : Entry) → Has e (entries_at keys contents.mirror bucket)
      → (e.address.0 < keys.shape.total) × (e ≡ entry_in keys config now e.address.0)
      × OnPath keys.shape.levels e.leaf.0 bucket

-- a place of a block: among the held ones, at hand, or in a bucket
pub data Place : Type 0 where
  AmongHeld : Place
  AtHand : Place
  InBucket : ℕ → Place

-- A block stands there: as a held one, or by its entry; a bucket is one of the tree's, on the path of the entry's leaf.
abbrev pub StandsAt : Keys → Config → Standing → Contents → ℕ → Place → Type 0
StandsAt keys config now contents a AmongHeld = Has a now.chip.held
StandsAt keys config now contents a AtHand = Has (entry_in keys config now a) contents.hand
StandsAt keys config now contents a (InBucket bucket) =
    (bucket < keys.shape.buckets) × Has (entry_in keys config now a) (entries_at keys contents.mirror bucket)
    × OnPath keys.shape.levels (entry_in keys config now a).leaf.0 bucket
