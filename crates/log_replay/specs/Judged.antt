-- What a log says of the stop that ended it, and of the buckets then.
use Rattle.std.specs.Prelude.{◌≡◌, ◌≤◌, ◌+◌, ◌⊎◌, ℕ, false, List, [], ◌∷◌, ◌++◌, length, All, Option, None, Some}
use Rattle.std.specs.List.{count_by}
use Rattle.asc_base.specs.Has.{Has}
use Rattle.asc_base.specs.declared.block.Entry.{Entry}
use Rattle.asc_base.specs.declared.block.Leaf.{Leaf}
use Rattle.asc_base.specs.declared.block.Message.{Message}
use Rattle.asc_base.specs.declared.block.Point.{Point}
use Rattle.asc_base.specs.declared.stop.Stop.{Stop}
use Rattle.asc_base.specs.declared.stop.Stop.TheVariants.{Integrity, StashFull, TimeUp, Device, NoMemory}
use Rattle.bus_watch.specs.Log.{LogLists}
use Rattle.bus_watch.specs.Path.{along}
use Rattle.bus_watch.specs.declared.log.Altered.{Altered}
use Rattle.bus_watch.specs.declared.log.Event.{Event}
use Rattle.bus_watch.specs.declared.log.Event.TheVariants.{Access, Drawn, Tagged}
use Rattle.oram_contents.specs.Decided.{draws}
use Rattle.oram_contents.specs.Entries.{Keys, entries_at, OnPath}
use Rattle.oram_contents.specs.Fold.{LogEnd, Whole, LastFailed, RanOut, contents_of_log}
use Rattle.oram_contents.specs.Provenance.{Came}
use Rattle.oram_contents.specs.Starts.{first_fold}
use Rattle.oram_contents.specs.Steps.{Adds}
use Rattle.oram_contents.specs.Verdict.{log_verdict}

-- the events of one slot, and of what stands behind it
pub record IsOneSlot (events : List Event) : Type 0 where
  pub start : ℕ
  pub asked : Option ℕ
  pub point : Point
  pub leaf : Leaf
  pub more : List Event
  pub are : events ≡ Access start asked ∷ Drawn point leaf ∷ more
  pub one : count_by draws more ≡ 0

-- A log before its last slot, with the replies that were noted until then; or before the message that is noted last,
-- which was appended behind a slot.
pub record IsBeforeLast (old new : LogLists) : Type 0 where
  pub events : List Event
  pub altered : List Altered
  pub adds : Adds old new events altered
  pub noted : All (λ (reply : Altered). reply.before ≡ length old.events + 2) altered
  pub last : IsOneSlot events ⊎ ((m : Message) × (events ≡ Tagged m ∷ []) × (altered ≡ []))

module _ (keys : Keys) (stash : ℕ) where
  -- the first thing that is wrong in a log
  abbrev pub verdict_on : LogLists → Option Stop
  verdict_on log = log_verdict keys stash (first_fold keys) log

  -- Nothing is wrong before the last slot of a log, or before the message that is appended last; and this is then.
  pub record IsFirstVerdict (log : LogLists) (stop : Stop) : Type 0 where
    pub before : LogLists
    pub last : IsBeforeLast before log
    pub right : verdict_on before ≡ None
    pub wrong : verdict_on log ≡ Some stop

  -- Nothing is wrong before the last slot of a log, whose reads broke off: nothing is noted of it but its point, and
  -- the log's moves end with reads from its start on, along the path of its leaf.
  pub record BreaksOffReading (log : LogLists) : Type 0 where
    pub before : LogLists
    pub last : IsBeforeLast before log
    pub right : verdict_on before ≡ None
    pub start : ℕ
    pub asked : Option ℕ
    pub point : Point
    pub leaf : Leaf
    pub events : last.events ≡ Access start asked ∷ Drawn point leaf ∷ []
    pub level : ℕ
    pub within : level ≤ keys.shape.levels
    pub moves : log.moves ≡ before.moves ++ along keys.shape.levels false start leaf.0 (level + 1)

  -- What a log shows where a stop ended it. Evidence and a full stash come exactly at the first slot, or the first
  -- appended message, that the log shows to be wrong, and as it shows it. Else nothing in it is wrong, as far as its
  -- slots were read.
  abbrev pub ShowsStop : Stop → LogLists → Type 0
  ShowsStop (Integrity evidence) log = IsFirstVerdict log (Integrity evidence)
  ShowsStop (StashFull held) log = IsFirstVerdict log (StashFull held)
  ShowsStop (TimeUp at) log = verdict_on log ≡ None
  ShowsStop Device log = (verdict_on log ≡ None) ⊎ BreaksOffReading log
  ShowsStop NoMemory log = (verdict_on log ≡ None) ⊎ BreaksOffReading log

-- How a log ended where a stop ended it: with a last move that failed, or out of memory, before a slot or in a move.
abbrev pub EndsLog : Stop → LogEnd → Type 0
EndsLog (Integrity evidence) end = end ≡ Whole
EndsLog (StashFull held) end = end ≡ Whole
EndsLog (TimeUp at) end = end ≡ Whole
EndsLog Device end = end ≡ LastFailed
EndsLog NoMemory end = (end ≡ Whole) ⊎ (end ≡ RanOut)

-- The buckets are those that a log says, which ended so: each as it was sealed last, of the slots that the contents
-- gave it then, under a seed that counts the buckets written until then, from 1; and zero bytes where it never was.
abbrev pub SaysMirror : Keys → LogLists → LogEnd → List (List ℕ) → Type 0
SaysMirror keys log end mirror = (contents_of_log keys (first_fold keys) log end).mirror ≡ mirror

-- Each entry in these buckets stands on the path of its leaf, and came to stand there as the log notes: a message with
-- its address, line and tag was tagged, or it stood in an altered reply.
pub record HaveOrigins (keys : Keys) (log : LogLists) (mirror : List (List ℕ)) : Type 0 where
  pub placed : (bucket : ℕ) (e : Entry) → Has e (entries_at keys mirror bucket)
      → OnPath keys.shape.levels e.leaf.0 bucket
  pub came : (bucket : ℕ) (e : Entry) → Has e (entries_at keys mirror bucket) → Came keys log e
