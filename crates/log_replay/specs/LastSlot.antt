-- How far the last slot of a log was done, by the stop that ended the log.
use Rattle.std.specs.Prelude.{◌≡◌, ◌⊎◌, Bool, true, false, List, [], ◌∷◌, ◌++◌, None}
use Rattle.asc_base.specs.declared.block.Message.{Message}
use Rattle.asc_base.specs.declared.stop.Stop.{Stop}
use Rattle.asc_base.specs.declared.stop.Stop.TheVariants.{Integrity, StashFull, TimeUp, Device, NoMemory}
use Rattle.bus_watch.specs.Log.{LogLists}
use Rattle.bus_watch.specs.declared.log.Move.{Move}
use Rattle.oram_contents.specs.Entries.{Keys}
use Rattle.log_replay.specs.Order.{SlotNotes, Nothing, Appends, IsBare, AreDone, LogOrder}

-- The last move of a log is a write, or it is a read.
pub record EndsInMove (write : Bool) (log : LogLists) : Type 0 where
  pub before : List Move
  pub last : Move
  pub are : log.moves ≡ before ++ last ∷ []
  pub is : last.write ≡ write

module _ (keys : Keys) (log : LogLists) (slots : List SlotNotes) where
  -- Each slot but the last was done, and of the last one nothing is noted but its point.
  pub record AreDoneButLast : Type 0 where
    pub before : List SlotNotes
    pub last : SlotNotes
    pub are : slots ≡ before ++ last ∷ []
    pub done : AreDone keys log [] before
    pub bare : IsBare last

  -- Each slot was done, the last one as far as what is put back: at its end no rate was chosen, and nothing stands
  -- behind it.
  pub record AreDoneToPut : Type 0 where
    pub before : List SlotNotes
    pub last : SlotNotes
    pub are : slots ≡ before ++ last ∷ []
    pub done : AreDone keys log [] slots
    pub chosen : last.chosen ≡ None
    pub behind : last.behind ≡ Nothing

  -- Each slot was done, and a message was appended behind the last one.
  pub record AreDoneToAppend : Type 0 where
    pub before : List SlotNotes
    pub last : SlotNotes
    pub are : slots ≡ before ++ last ∷ []
    pub done : AreDone keys log [] slots
    pub message : Message
    pub behind : last.behind ≡ Appends message

  -- A move failed in the last slot: a read, and nothing is noted of the slot but its point; or a write, and the slot
  -- was done as far as what is put back.
  abbrev pub BreaksOffMoving : Type 0
  BreaksOffMoving = (AreDoneButLast × EndsInMove false log) ⊎ (AreDoneToPut × EndsInMove true log)

-- How far the slots of a log were done where a stop ended it. Evidence came in the reads of the last slot, or over an
-- append behind it. The stash was full for what the last slot would have left, whose reads were right, or for an
-- append. Time was up behind slots that were done. A device failed in a move; and memory ran out in a move, or before
-- a slot.
abbrev pub AreDoneBy : Keys → Stop → LogLists → List SlotNotes → Type 0
AreDoneBy keys (Integrity evidence) log slots = AreDoneButLast keys log slots ⊎ AreDoneToAppend keys log slots
AreDoneBy keys (StashFull held) log slots = AreDoneToPut keys log slots ⊎ AreDoneToAppend keys log slots
AreDoneBy keys (TimeUp at) log slots = AreDone keys log [] slots
AreDoneBy keys Device log slots = BreaksOffMoving keys log slots
AreDoneBy keys NoMemory log slots = AreDone keys log [] slots ⊎ BreaksOffMoving keys log slots

-- A log that a stop ended notes slots in order, which were done as far as the stop says.
pub record StopsInOrder (keys : Keys) (stop : Stop) (log : LogLists) : Type 0 where
  pub order : LogOrder keys log
  pub done : AreDoneBy keys stop log order.slots
