-- What a run's log shows of how the run ended, and what it says of the buckets then.
use Rattle.std.specs.Prelude.{◌≡◌, ◌⊎◌, ℕ, List, [], None}
use Rattle.asc_base.specs.declared.stop.Stop.TheVariants as why
use Rattle.bus_watch.specs.Log.{TapState, LogLists}
use Rattle.log_replay.specs.Judged.{verdict_on, IsFirstVerdict, BreaksOffReading, ShowsStop, EndsLog, SaysMirror}
use Rattle.log_replay.specs.Judged.{HaveOrigins}
use Rattle.log_replay.specs.LastSlot.{AreDoneBy, StopsInOrder}
use Rattle.log_replay.specs.Order.{SlotNotes, AreDone, LogOrder}
use Rattle.log_replay.specs.Replayed.{IsReplayed, StopsReplayed}
use Rattle.oram_contents.specs.Entries.{Keys}
use Rattle.oram_contents.specs.Fold.{LogEnd, Whole, LastFailed}
use Rattle.oram_frontend.specs.Oram.{OramState}
use Rattle.secure_machine.specs.declared.machine.Cause.{Cause}
use Rattle.secure_machine.specs.declared.machine.Cause.TheVariants.{Ends, Stops}
use Rattle.secure_machine.specs.declared.report.Ending.{Ending}
use Rattle.secure_machine.specs.declared.report.Ending.TheVariants.{Exit, Trap, Budget, TimeUp, StashFull, Integrity}
use Rattle.secure_machine.specs.declared.report.Ending.TheVariants.{Device}

-- The verdict on the reads that a log notes, with a stash of so many entries, and the ending of its run are one. A run
-- that ended by itself, or by the time, leaves a log in which nothing is wrong. A full stash and evidence are the first
-- thing that is wrong in it: nothing is before its last slot, or before the message that it appended last, and then it
-- is this very stop. Where the memory failed nothing is wrong, or nothing before the last slot, whose reads broke off.
abbrev pub ShowsEnding : Keys → ℕ → Ending → LogLists → Type 0
ShowsEnding keys stash (Exit status) log = verdict_on keys stash log ≡ None
ShowsEnding keys stash (Trap kind pc) log = verdict_on keys stash log ≡ None
ShowsEnding keys stash Budget log = verdict_on keys stash log ≡ None
ShowsEnding keys stash (TimeUp at) log = verdict_on keys stash log ≡ None
ShowsEnding keys stash (StashFull held) log = IsFirstVerdict keys stash log (why.StashFull held)
ShowsEnding keys stash (Integrity evidence) log = IsFirstVerdict keys stash log (why.Integrity evidence)
ShowsEnding keys stash Device log = (verdict_on keys stash log ≡ None) ⊎ BreaksOffReading keys stash log

-- How far the slots of a log were done, by how its run ended. A run that ended by itself, or by the time, leaves slots
-- that were done. Where the stash was full, evidence came or the memory failed, they were done as far as this stop
-- says.
abbrev pub AreDoneAt : Keys → Ending → LogLists → List SlotNotes → Type 0
AreDoneAt keys (Exit status) log slots = AreDone keys log [] slots
AreDoneAt keys (Trap kind pc) log slots = AreDone keys log [] slots
AreDoneAt keys Budget log slots = AreDone keys log [] slots
AreDoneAt keys (TimeUp at) log slots = AreDone keys log [] slots
AreDoneAt keys (StashFull held) log slots = AreDoneBy keys (why.StashFull held) log slots
AreDoneAt keys (Integrity evidence) log slots = AreDoneBy keys (why.Integrity evidence) log slots
AreDoneAt keys Device log slots = AreDoneBy keys why.Device log slots

-- The log of a run that ended so notes slots in order, which were done as far as the ending says.
pub record EndsInOrder (keys : Keys) (ending : Ending) (log : LogLists) : Type 0 where
  pub order : LogOrder keys log
  pub done : AreDoneAt keys ending log order.slots

-- the last move of a log failed where its run ended by a failure of the memory, and else none did
abbrev pub log_end : Ending → LogEnd
log_end (Exit status) = Whole
log_end (Trap kind pc) = Whole
log_end Budget = Whole
log_end (TimeUp at) = Whole
log_end (StashFull held) = Whole
log_end (Integrity evidence) = Whole
log_end Device = LastFailed

-- A log that ran out of memory, before a slot or in a move, says these buckets.
abbrev pub SaysWanting : Keys → LogLists → List (List ℕ) → Type 0
SaysWanting keys log mirror = (end : LogEnd) × EndsLog why.NoMemory end × SaysMirror keys log end mirror

module _ (keys : Keys) (stash : ℕ) where
  -- A run that ended so leaves a log of slots in order, which shows the ending, says the buckets, and notes where what
  -- stands in them comes from.
  pub record EndsReplayed (ending : Ending) (tap : TapState) : Type 0 where
    pub slots : EndsInOrder keys ending tap.log
    pub shows : ShowsEnding keys stash ending tap.log
    pub mirror : SaysMirror keys tap.log (log_end ending) tap.mirror
    pub origins : HaveOrigins keys tap.log tap.mirror

  -- so does one that wanted memory
  pub record WantsReplayed (tap : TapState) : Type 0 where
    pub slots : StopsInOrder keys why.NoMemory tap.log
    pub shows : ShowsStop keys stash why.NoMemory tap.log
    pub mirror : SaysWanting keys tap.log tap.mirror
    pub origins : HaveOrigins keys tap.log tap.mirror

  -- No more instructions come: by itself, where an encrypted memory is what its log says; or by a stop, which the log
  -- shows.
  abbrev pub CauseReplayed : Cause → OramState → Type 0
  CauseReplayed (Ends ending until) o = IsReplayed keys o
  CauseReplayed (Stops stop) o = StopsReplayed keys stash stop o.port
