-- When an encrypted memory is what its log says, whatever was altered or forged: between two requests, and after a
-- stop.
use Rattle.std.specs.Prelude.{◌≡◌, ◌≤◌, ℕ, false, List, [], ◌∷◌, ◌++◌, Option, None}
use Rattle.std.specs.List.{count_by}
use Rattle.asc_base.specs.declared.block.Counter.{Counter}
use Rattle.asc_base.specs.declared.block.Message.{Message}
use Rattle.asc_base.specs.declared.stop.Stop.{Stop}
use Rattle.asc_base.specs.declared.stop.Stop.TheVariants.{Integrity, StashFull, TimeUp, Device, NoMemory}
use Rattle.oram_contents.specs.Contents.{Contents}
use Rattle.oram_contents.specs.Entries.{Keys, real}
use Rattle.oram_contents.specs.Fold.{LogEnd, is_open_for, fold_events, whole}
use Rattle.oram_contents.specs.Provenance.{Always}
use Rattle.oram_contents.specs.Starts.{first_fold}
use Rattle.oram_contents.specs.Verdict.{line_found}
use Rattle.oram_frontend.specs.Oram.{OramState}
use Rattle.oram_frontend.specs.Slots.{FitKeys}
use Rattle.oram_walk.specs.Front.{IsFront}
use Rattle.rate_enforcer.specs.Counts.{is_dummy}
use Rattle.rate_enforcer.specs.PortStep.{PortState, contents}
use Rattle.log_replay.specs.Judged.{verdict_on, ShowsStop, EndsLog, SaysMirror}
use Rattle.log_replay.specs.LastSlot.{StopsInOrder}
use Rattle.log_replay.specs.Order.{SlotNotes, Nothing, AreDone, LogOrder}

-- A port between two slots: its log notes slots in order, each of which was done, it has the contents that the log
-- says, in which nothing is wrong, and it counts the dummies.
pub record IsReplayedPort (keys : Keys) (s : PortState) : Type 0 where
  pub fits : FitKeys keys s
  pub order : LogOrder keys s.tap.log
  pub done : AreDone keys s.tap.log [] order.slots
  pub dummies : count_by is_dummy s.tap.log.events ≡ s.clock.dummies
  pub contents_are : whole keys (first_fold keys) s.tap.log ≡ contents s
  pub right : verdict_on keys s.tree.stash s.tap.log ≡ None
  pub always : Always keys s.tap.log (contents s)

-- A port behind the slot of a block in which this line was found and this message put back, if one was: nothing stands
-- behind it yet, and of the open path the log says that it is no other block's.
pub record IsBehindSlot (keys : Keys) (a : ℕ) (line : List ℕ) (put : Option Message) (s : PortState) : Type 0 where
  pub port : IsReplayedPort keys s
  pub before : List SlotNotes
  pub last : SlotNotes
  pub slots : port.order.slots ≡ before ++ last ∷ []
  pub counter : Counter
  pub point : last.point ≡ real a counter
  pub line_is : line ≡ line_found last.found
  pub put_is : last.put ≡ put
  pub bare : last.behind ≡ Nothing
  pub path : (m : Message) → (m.address.0 ≡ a → ⊥)
      → is_open_for m (fold_events keys s.tap.log.altered 0 s.tap.log.events (first_fold keys)).path ≡ false

-- So of an encrypted memory between two requests.
pub record IsReplayed (keys : Keys) (o : OramState) : Type 0 where
  pub front : IsFront o.front
  pub shape : o.front.shape ≡ keys.shape
  pub room : 1 ≤ o.front.plb
  pub port : IsReplayedPort keys o.port

-- Hand and buckets as a stop leaves them. After evidence and a full stash the hand is left free: no entry of it is used
-- any more.
abbrev pub left_by : Stop → Contents → Contents
left_by (Integrity evidence) now = record now { hand = [] }
left_by (StashFull held) now = record now { hand = [] }
left_by (TimeUp at) now = now
left_by Device now = now
left_by NoMemory now = now

-- What a stop leaves: the log notes slots in order, which were done as far as the stop says, shows the stop, and says
-- the buckets, of which holds what holds always.
pub record StopsReplayed (keys : Keys) (stash : ℕ) (stop : Stop) (s : PortState) : Type 0 where
  pub slots : StopsInOrder keys stop s.tap.log
  pub shows : ShowsStop keys stash stop s.tap.log
  pub end : LogEnd
  pub ends : EndsLog stop end
  pub mirror : SaysMirror keys s.tap.log end s.tap.mirror
  pub always : Always keys s.tap.log (left_by stop (contents s))
