-- The invariant behind refinement or forgery: where each entry at hand and in the tree comes from.
use Rattle.std.specs.Prelude.{◌≡◌, ◌<◌, ◌≤◌, ◌⊎◌, ℕ, List, [], ◌∷◌, length, Option, None, Some}
use Rattle.asc_base.specs.declared.block.Counter.{Counter}
use Rattle.asc_base.specs.declared.block.Entry.{Entry}
use Rattle.asc_base.specs.declared.block.Leaf.{Leaf}
use Rattle.asc_base.specs.declared.block.Message.{Message}
use Rattle.asc_base.specs.declared.block.Point.TheVariants.{Dummy}
use Rattle.bus_watch.specs.Log.{LogLists}
use Rattle.bus_watch.specs.declared.log.Altered.{Altered}
use Rattle.bus_watch.specs.declared.log.Event.{Event}
use Rattle.bus_watch.specs.declared.log.Event.TheVariants.{Drawn, Tagged}
use Rattle.oram_stash.specs.Entries.{AreApart}
use Rattle.pmmac_tags.specs.Tag.{tag}
use Rattle.posmap_counters.specs.Counters.{IsBefore, IsNotAfter, first_counter}
use Rattle.oram_contents.specs.Contents.{Contents}
use Rattle.oram_contents.specs.Shapes.{AreOfShape}
use Rattle.oram_contents.specs.Entries.{Keys, real, message_of, entries_at, OnPath}
use Rattle.asc_base.specs.Has.{Has}
use Rattle.oram_contents.specs.Counts.{Ghost, line_at, zero_line, IsAway}
use Rattle.oram_contents.specs.Forgery.{Stood}

-- it came by an altered reply
abbrev pub FromOutside : Keys → LogLists → Entry → Type 0
FromOutside keys log e = (reply : Altered) × Has reply log.altered × Stood keys reply e.address.0 e.line.0 e.tag

-- It stood in an altered reply, or a message with its address, line and tag was noted as tagged.
abbrev pub Came : Keys → LogLists → Entry → Type 0
Came keys log e = FromOutside keys log e
    ⊎ ((m : Message) × Has (Tagged m) log.events × (m.address.0 ≡ e.address.0) × (m.line.0 ≡ e.line.0)
    × (tag keys.tags m ≡ e.tag))

-- the message that an entry is of, under a counter
abbrev pub message_in : Entry → Counter → Message
message_in e c = message_of e.address.0 c e.line.0

-- it was tagged under the counter that its block now has, and its leaf is that counter's
pub record Genuine (keys : Keys) (log : LogLists) (count : ℕ → Counter) (e : Entry) : Type 0 where
  pub tagged : Has (Tagged (message_in e (count e.address.0))) log.events
  pub tag_is : e.tag ≡ tag keys.tags (message_in e (count e.address.0))
  pub leaf : e.leaf.0 ≡ keys.leaf_of (real e.address.0 (count e.address.0))

abbrev pub Known : Keys → LogLists → (ℕ → Counter) → Entry → Type 0
Known keys log count e = FromOutside keys log e ⊎ Genuine keys log count e

-- no message of this block was tagged under this counter
abbrev pub Untagged : List Event → ℕ → Counter → Type 0
Untagged events a c = (m : Message) → Has (Tagged m) events → m.address.0 ≡ a → m.counter ≡ c → ⊥

-- each block is tagged at most once under each counter
abbrev pub AtMostOnce : List Event → Type 0
AtMostOnce [] = Unit {0}
AtMostOnce (e ∷ later) = ((m : Message) → e ≡ Tagged m → Untagged later m.address.0 m.counter) × AtMostOnce later

-- the bucket isn't on the open path, which is about to be written anew
abbrev pub OffOpen : ℕ → Option ℕ → ℕ → Type 0
OffOpen levels None bucket = Unit {0}
OffOpen levels (Some leaf) bucket = OnPath levels leaf bucket → ⊥

-- Unless the log shows a forgery: what stands off the open path is known, and messages fit the blocks' counters and
-- lines. At each clause stands which step needs it.
pub record Sound (keys : Keys) (log : LogLists) (g : Ghost) (now : Contents) : Type 0 where
  -- What is tagged is of a block of the shape, under a counter that the block has or had. A take needs it: under the
  -- next counter nothing is tagged yet.
  pub fresh : (m : Message) → Has (Tagged m) log.events
      → (m.address.0 < keys.shape.total) × IsBefore first_counter m.counter
      × IsNotAfter m.counter (g.count m.address.0)
  -- Under its block's counter, a message has the block's line. A take needs it: so what it finds is that line.
  pub last : (m : Message) → Has (Tagged m) log.events → m.counter ≡ g.count m.address.0
      → m.line.0 ≡ line_at keys.shape g m.address.0
  -- Each block is tagged at most once under each counter. No step needs it: it is what the others come to.
  pub once : AtMostOnce log.events
  -- A block that was never accessed is zeros. A take needs it where nothing is found.
  pub blank : (a : ℕ) → a < keys.shape.total → g.count a ≡ first_counter → line_at keys.shape g a ≡ zero_line
  -- A drawn point is past, or its slot is open, and dummies are numbered in turn. No step needs these: they say that no
  -- point is drawn twice.
  pub drawn : (a : ℕ) (c : Counter) (x : Leaf) → Has (Drawn (real a c) x) log.events
      → IsBefore c (g.count a) ⊎ ((g.pend ≡ Some a) × (c ≡ g.count a))
  pub dummies : (n : ℕ) (x : Leaf) → Has (Drawn (Dummy n) x) log.events → n < g.dummies
  -- A block on chip was accessed, and isn't tagged under its counter. A put needs it, a renumbered block, a line that
  -- is stored, and the line of a parent whose child's counter rises. That the block in flight isn't held too is asked
  -- where it is put back, and known where it leaves the held ones.
  pub away : (a : ℕ) → IsAway g a
      → (a < keys.shape.total) × IsBefore first_counter (g.count a) × Untagged log.events a (g.count a)
  -- What is at hand is known. A take needs it.
  pub at_hand : (e : Entry) → Has e now.hand → Known keys log g.count e
  -- What stands in the tree is known, but on the open path, which is written anew. A read needs it.
  pub in_tree : (bucket : ℕ) (e : Entry) → OffOpen keys.shape.levels g.path bucket
      → Has e (entries_at keys now.mirror bucket) → Known keys log g.count e

-- What holds whatever was altered, and whatever was forged.
pub record Always (keys : Keys) (log : LogLists) (now : Contents) : Type 0 where
  -- Each entry stands on the path of its leaf. A take needs it: no genuine copy of its block stands off the path.
  pub placed : (bucket : ℕ) (e : Entry) → Has e (entries_at keys now.mirror bucket)
      → OnPath keys.shape.levels e.leaf.0 bucket
  -- Addresses at hand differ. A take needs it: no second copy is left.
  pub apart : AreApart now.hand
  -- A write needs it, so that a bucket opens to the slots that it was sealed with. Entries in the tree need no such
  -- clause: a bucket opens to entries of the shape, and that each opens is a law of its own (`AreInForm`).
  pub of_shape : AreOfShape keys.shape now.hand
  -- What stands at hand or in the tree was tagged, or stood in an altered reply. No step needs it: what the chip writes
  -- came from nowhere else.
  pub hand_came : (e : Entry) → Has e now.hand → Came keys log e
  pub tree_came : (bucket : ℕ) (e : Entry) → Has e (entries_at keys now.mirror bucket) → Came keys log e
  -- An altered reply was noted when it was: a forgery needs one that came before.
  pub past : (reply : Altered) → Has reply log.altered → reply.before ≤ length log.events
  -- There are the shape's buckets, and seeds from 1 on. A write needs these.
  pub mirrored : length now.mirror ≡ keys.shape.buckets
  pub seeds : 0 < now.seed
