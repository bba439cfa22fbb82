-- How a slot stops: in its reads or in its writes, by what it leaves in the log and in the contents.
use Rattle.std.specs.Prelude.{◌≡◌, ◌<◌, ◌≤◌, ◌+◌, ◌⊎◌, ℕ, false, true, List, [], ◌++◌, length}
use Rattle.std.specs.Prelude.{All, Option, None, Some, Err}
use Rattle.asc_base.specs.declared.block.Point.{Point}
use Rattle.asc_base.specs.declared.block.Point.TheVariants.{Dummy}
use Rattle.asc_base.specs.declared.stop.Evidence.{Evidence}
use Rattle.asc_base.specs.declared.stop.Stop.{Stop}
use Rattle.asc_base.specs.declared.stop.Stop.TheVariants.{Integrity, StashFull, TimeUp, Device, NoMemory}
use Rattle.bus_schedule.specs.Schedule.{moves_of}
use Rattle.bus_schedule.specs.Shown.{starts_of, leaves_of}
use Rattle.bus_watch.specs.Log.{LogLists}
use Rattle.bus_watch.specs.Path.{along, reads, writes_start}
use Rattle.bus_watch.specs.declared.log.Altered.{Altered}
use Rattle.oram_contents.specs.Contents.{Contents}
use Rattle.oram_contents.specs.Entries.{Keys}
use Rattle.oram_contents.specs.PathRead.{path_read, replies}
use Rattle.oram_contents.specs.PathWritten.{sealed, rest_of}
use Rattle.oram_contents.specs.Slots.{IsRead, ArePasses, drawn_events}
use Rattle.oram_contents.specs.Steps.{Adds}
use Rattle.rate_enforcer.specs.Served.{AreFew}

-- The slot of a point began, which was asked for at this time or by nobody: its start and its leaf were noted, and
-- altered replies after them.
pub record Begins (keys : Keys) (old new : LogLists) (start : ℕ) (asked : Option ℕ) (point : Point) : Type 0 where
  pub altered : List Altered
  pub adds : Adds old new (drawn_events keys start asked point) altered
  pub noted : All (λ (reply : Altered). reply.before ≡ length old.events + 2) altered

-- All its reads were made, and what they gave shows this evidence.
pub record IsRefused (keys : Keys) (evidence : Evidence) (old new : LogLists) (now after : Contents) (start : ℕ)
    (asked : Option ℕ) (point : Point) : Type 0 where
  pub begins : Begins keys old new start asked point
  pub moves : new.moves ≡ old.moves ++ reads keys.shape.levels start (keys.leaf_of point)
  pub says : path_read keys.pads keys.shape (keys.leaf_of point)
      (replies keys.shape.levels start (keys.leaf_of point) now.mirror begins.altered) now.hand ≡ Err evidence
  pub mirror : after.mirror ≡ now.mirror
  pub seed : after.seed ≡ now.seed

-- Its reads broke off at a level: the one there had no Ok, and nothing joins the hand.
pub record ReadsBreak (keys : Keys) (old new : LogLists) (now after : Contents) (start : ℕ) (asked : Option ℕ)
    (point : Point) : Type 0 where
  pub begins : Begins keys old new start asked point
  pub level : ℕ
  pub within : level ≤ keys.shape.levels
  pub moves : new.moves ≡ old.moves ++ along keys.shape.levels false start (keys.leaf_of point) (level + 1)
  pub after_is : after ≡ now

-- The moves of a log are those of whole slots, with the starts and the leaves that it notes.
pub record HasWholeSlots (levels : ℕ) (log : LogLists) : Type 0 where
  pub counted : length (starts_of log.events) ≡ length (leaves_of log.events)
  pub moves : log.moves ≡ moves_of levels (starts_of log.events) (leaves_of log.events)

-- A slot stops before or in its reads. Where memory runs out before it begins, nothing is noted, and the slots before
-- it are whole.
abbrev pub ReadStops : Keys → Stop → LogLists → LogLists → Contents → Contents → ℕ → Option ℕ → Point → Type 0
ReadStops keys (Integrity evidence) old new now after start asked point =
    IsRefused keys evidence old new now after start asked point
ReadStops keys (StashFull held) old new now after start asked point = ⊥
ReadStops keys (TimeUp at) old new now after start asked point = ⊥
ReadStops keys Device old new now after start asked point = ReadsBreak keys old new now after start asked point
ReadStops keys NoMemory old new now after start asked point =
    ((new ≡ old) × (after ≡ now) × HasWholeSlots keys.shape.levels old)
    ⊎ ReadsBreak keys old new now after start asked point

-- More entries would stay at hand than may, so many, and no write is made.
pub record IsOverfull (keys : Keys) (stash held leaf : ℕ) (old new : LogLists) (now after : Contents) : Type 0 where
  pub held_is : held ≡ rest_of keys.shape.levels leaf now.hand
  pub over : stash < held
  pub log : new ≡ old
  pub after_is : after ≡ now

-- The writes of a path broke off at a level: the one there had no Ok, and the buckets above are written.
pub record WritesBreak (keys : Keys) (stash start leaf : ℕ) (old new : LogLists) (now after : Contents) : Type 0 where
  pub fits : rest_of keys.shape.levels leaf now.hand ≤ stash
  pub level : ℕ
  pub within : level ≤ keys.shape.levels
  pub moves : new.moves ≡ old.moves
      ++ along keys.shape.levels true (writes_start keys.shape.levels start) leaf (level + 1)
  pub adds : Adds old new [] []
  pub hand : after.hand ≡ now.hand
  pub mirror : after.mirror ≡ sealed keys.pads keys.shape.levels leaf now.seed now.hand now.mirror level
  pub seed : after.seed ≡ now.seed + (level + 1)

-- A slot stops before or in its writes.
abbrev pub WriteStops : Keys → ℕ → Stop → LogLists → LogLists → Contents → Contents → ℕ → ℕ → Type 0
WriteStops keys stash (Integrity evidence) old new now after start leaf = ⊥
WriteStops keys stash (StashFull held) old new now after start leaf =
    IsOverfull keys stash held leaf old new now after
WriteStops keys stash (TimeUp at) old new now after start leaf = ⊥
WriteStops keys stash Device old new now after start leaf = WritesBreak keys stash start leaf old new now after
WriteStops keys stash NoMemory old new now after start leaf = WritesBreak keys stash start leaf old new now after

-- A dummy stops after its reads: they gave no evidence, and its writes stop.
pub record WritesOfDummyStop (keys : Keys) (stash : ℕ) (stop : Stop) (old new : LogLists) (now after : Contents)
    (start n : ℕ) : Type 0 where
  pub mid : LogLists
  pub between : Contents
  pub read : IsRead keys old mid now start (Dummy n) between.hand
  pub unasked : read.asked ≡ None
  pub moves : mid.moves ≡ old.moves ++ reads keys.shape.levels start (keys.leaf_of (Dummy n))
  pub between_is : between ≡ record now { hand = between.hand }
  pub writes : WriteStops keys stash stop mid new between after start (keys.leaf_of (Dummy n))

-- The dummy of a number stops.
abbrev pub DummyStops : Keys → ℕ → Stop → LogLists → LogLists → Contents → Contents → ℕ → ℕ → Type 0
DummyStops keys stash stop old new now after start n =
    ReadStops keys stop old new now after start None (Dummy n)
    ⊎ WritesOfDummyStop keys stash stop old new now after start n

-- After so many dummies the next one stops.
pub record PassesStop (keys : Keys) (stash : ℕ) (stop : Stop) (old new : LogLists) (now after : Contents)
    (start n : ℕ) : Type 0 where
  pub done : ℕ
  pub mid : LogLists
  pub between : Contents
  pub passed : ArePasses keys done old mid now between n
  pub few : AreFew keys stash done old mid now between n passed
  pub stops : DummyStops keys stash stop mid new between after start (n + done)

-- After so many dummies the slot that was asked for stops.
pub record AskedStops (keys : Keys) (stash : ℕ) (stop : Stop) (old new : LogLists) (now after : Contents)
    (start n asked : ℕ) (point : Point) : Type 0 where
  pub done : ℕ
  pub mid : LogLists
  pub between : Contents
  pub passed : ArePasses keys done old mid now between n
  pub few : AreFew keys stash done old mid now between n passed
  pub stops : ReadStops keys stop mid new between after start (Some asked) point
