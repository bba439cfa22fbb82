-- What a front end asks of the slots in which its accesses are served, and what these answer.
use Rattle.std.specs.Prelude.{◌≡◌, ℕ, [], Result, Ok, Err}
use Rattle.asc_base.specs.declared.block.Line.{Line}
use Rattle.asc_base.specs.declared.block.Message.{Message}
use Rattle.asc_base.specs.declared.stop.Stop.{Stop}
use Rattle.asc_base.specs.declared.stop.Stop.TheVariants.{NoMemory}
use Rattle.oram_walk.specs.declared.slots.Access.{Access}
use Rattle.oram_walk.specs.declared.slots.Seen.{Seen}

-- One access is one slot. The message of a displaced block is appended. The line of this number is answered to whoever
-- asked for it. A block that comes to be held needs room.
pub data Request : Type 0 where
  Slot : Access → Request
  Append : Message → Request
  Answer : ℕ → Line → Request
  Room : Request

-- the answer to a request that only asks for something to be done
abbrev pub nothing : Seen
nothing = record { line = record { 0 = [] }; end = 0 }

-- The steps of slots, and room beside them: that is no request to the slots, which stay as they are, and it is refused
-- by want of memory alone.
abbrev pub Steps : {S : Type 0} → (S → Request → Result Seen Stop → S → Type 0)
    → S → Request → Result Seen Stop → S → Type 0
Steps step old Room (Ok seen) new = (seen ≡ nothing) × (new ≡ old)
Steps step old Room (Err stop) new = (stop ≡ NoMemory) × (new ≡ old)
Steps step old (Slot access) answer new = step old (Slot access) answer new
Steps step old (Append message) answer new = step old (Append message) answer new
Steps step old (Answer line value) answer new = step old (Answer line value) answer new
