-- What a log says of hand and buckets: a fold over its events. Between slots a path stays open until the next event
-- shows that nothing more joins the hand.
use Rattle.std.specs.Prelude.{◌+◌, ◌-◌, ◌==◌, ℕ, List, [], ◌∷◌, ◌++◌, filter, if◌then◌else◌}
use Rattle.std.specs.Prelude.{Bool, false, Option, None, Some, Result, Ok, Err}
use Rattle.asc_base.specs.declared.block.Entry.{Entry}
use Rattle.asc_base.specs.declared.block.Message.{Message}
use Rattle.asc_base.specs.declared.block.Point.{Point}
use Rattle.asc_base.specs.declared.block.Point.TheVariants.{Real, Dummy}
use Rattle.asc_base.specs.declared.stop.Evidence.{Evidence}
use Rattle.bus_watch.specs.Log.{LogLists}
use Rattle.bus_watch.specs.declared.log.Altered.{Altered}
use Rattle.bus_watch.specs.declared.log.Event.{Event}
use Rattle.bus_watch.specs.declared.log.Event.TheVariants.{Access, Drawn, Tagged, Accepted, Chosen, Answered}
use Rattle.bus_watch.specs.declared.log.Move.{Move}
use Rattle.oram_stash.specs.Entries.{without}
use Rattle.oram_contents.specs.Contents.{Contents, after_write}
use Rattle.oram_contents.specs.PathRead.{replies, path_read}
use Rattle.oram_contents.specs.PathWritten.{sealed}
use Rattle.oram_contents.specs.Entries.{Keys, entry_of}

-- how a log ended: between or inside its slots with every move Ok, or with a last move that failed, or out of memory
pub data LogEnd : Type 0 where
  Whole : LogEnd
  LastFailed : LogEnd
  RanOut : LogEnd

-- the last move failed, or memory ran out in it
abbrev pub IsCut : LogEnd → Type 0
IsCut Whole = ⊥
IsCut LastFailed = Unit {0}
IsCut RanOut = Unit {0}

-- the contents, the start of the last slot, and the point and the leaf of the path that is open
pub record Fold : Type 0 where
  pub now : Contents
  pub start : ℕ
  pub path : Option (Point × ℕ)

-- an entry more at hand
abbrev pub with_entry : Contents → Entry → Contents
with_entry now e = record now { hand = now.hand ++ e ∷ [] }

abbrev pub tagged_entry : Keys → Message → Entry
tagged_entry keys m = entry_of keys m.address.0 m.counter m.line.0

-- the path of a leaf is written, if one is open
abbrev pub settled : Keys → Option (Point × ℕ) → Contents → Contents
settled keys None now = now
settled keys (Some (p, x)) now = after_write keys.pads keys.shape.levels x now

abbrev pub settle : Keys → Fold → Fold
settle keys f = record { now = settled keys f.path f.now; start = f.start; path = None }

-- the altered replies that were noted with so many events before them
abbrev pub noted_at : ℕ → List Altered → List Altered
noted_at before altered = filter (λ reply. reply.before == before) altered

-- the block that is asked for leaves the hand
abbrev pub leave : Point → List Entry → List Entry
leave (Real a c) hand = without hand a
leave (Dummy n) hand = hand

-- the hand after a path read; after evidence it is left free
abbrev pub hand_after : Point → List Entry → Result (List Entry) Evidence → List Entry
hand_after p hand (Ok joined) = leave p joined
hand_after p hand (Err evidence) = hand

abbrev pub read_by : Keys → List Altered → Point → ℕ → Fold → Fold
read_by keys altered p x f = record {
  now = record f.now {
    hand = hand_after p f.now.hand
        (path_read keys.pads keys.shape x (replies keys.shape.levels f.start x f.now.mirror altered) f.now.hand);
  };
  start = f.start;
  path = Some (p, x);
}

-- whether the open path was read for the block of a message
abbrev pub is_open_for : Message → Option (Point × ℕ) → Bool
is_open_for m None = false
is_open_for m (Some (Dummy n, x)) = false
is_open_for m (Some (Real a c, x)) = a.0 == m.address.0

abbrev pub joined_by : Keys → Message → Fold → Fold
joined_by keys m f = record f { now = with_entry f.now (tagged_entry keys m) }

-- event number n
abbrev pub after_event : Keys → List Altered → ℕ → Event → Fold → Fold
after_event keys altered n (Access start asked) f = record (settle keys f) { start = start }
after_event keys altered n (Drawn p x) f = read_by keys (noted_at (n + 1) altered) p x.0 (settle keys f)
after_event keys altered n (Accepted m found) f = f
after_event keys altered n (Tagged m) f = joined_by keys m (if is_open_for m f.path then f else settle keys f)
after_event keys altered n (Chosen index) f = settle keys f
after_event keys altered n (Answered line value) f = settle keys f

-- the events from number n on
abbrev pub fold_events : Keys → List Altered → ℕ → List Event → Fold → Fold
fold_events keys altered n [] f = f
fold_events keys altered n (e ∷ events) f = fold_events keys altered (n + 1) events (after_event keys altered n e f)

-- how many of the moves at the end are writes
abbrev pub writes_run : ℕ → List Move → ℕ
writes_run n [] = n
writes_run n (m ∷ moves) = writes_run (if m.write then n + 1 else 0) moves

-- how many writes of the last path were answered Ok
abbrev pub written_ok : LogEnd → List Move → ℕ
written_ok Whole moves = writes_run 0 moves
written_ok LastFailed moves = writes_run 0 moves - 1
written_ok RanOut moves = writes_run 0 moves - 1

-- So many buckets of an open path are written. The hand is left free, and the seed as it was: which seeds a write that
-- stopped used up is the tree's.
abbrev pub partly : Keys → ℕ → Fold → Contents
partly keys w f = elim f.path [
  | None ↦ f.now
  | Some open_at ↦ record f.now {
    mirror = sealed keys.pads keys.shape.levels open_at.1 f.now.seed f.now.hand
        f.now.mirror w;
  }
]

-- What a log says, from a start on. `whole` is that of a log that ended between slots.
abbrev pub whole : Keys → Fold → LogLists → Contents
whole keys first log = (settle keys (fold_events keys log.altered 0 log.events first)).now

abbrev pub contents_of_log : Keys → Fold → LogLists → LogEnd → Contents
contents_of_log keys first log end =
    let f = fold_events keys log.altered 0 log.events first in
    (if written_ok end log.moves == keys.shape.levels + 1 then (settle keys f).now else partly keys
    (written_ok end log.moves) f)
