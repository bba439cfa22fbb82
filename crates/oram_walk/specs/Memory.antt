-- A memory that keeps each block's line, as a server of a front end's requests; and what it is shown of a walk.
use Rattle.std.specs.Prelude.{ℕ, ◌+◌, ◌==◌, if◌then◌else◌, [], ◌∷◌}
use Rattle.request_plan.specs.Play.{Turn}
use Rattle.asc_base.specs.declared.block.Counter.{Counter}
use Rattle.asc_base.specs.declared.block.Line.{Line}
use Rattle.oram_walk.specs.Request.{Request, Slot, Append, Answer, Room, nothing}
use Rattle.oram_walk.specs.declared.slots.Purpose.{Purpose}
use Rattle.oram_walk.specs.declared.slots.Purpose.TheVariants.{Refill, Keep, Replace}
use Rattle.oram_walk.specs.declared.slots.Seen.{Seen}

-- An access to a block under a counter, the counter under which it is put back or held, its purpose, and the line that
-- is found; or a displaced block, its counter and its line.
pub data Shown : Type 0 where
  Accessed : ℕ → Counter → Counter → Purpose → Line → Shown
  Displaced : ℕ → Counter → Line → Shown

-- the lines with that of one block changed
abbrev pub put_line : (ℕ → Line) → ℕ → Line → ℕ → Line
put_line lines address line other = (if other == address then line else lines other)

-- the lines after an access: a block that is kept is put back as it was, and one that is taken comes back by an append
abbrev pub put_back : (ℕ → Line) → ℕ → Purpose → ℕ → Line
put_back lines address Refill = lines
put_back lines address Keep = lines
put_back lines address (Replace value) = put_line lines address value

-- The memory, in which an access takes so many cycles from when it is asked for. It doesn't look at counters.
abbrev pub memory : ℕ → (ℕ → Line) → Request → Turn Shown (ℕ → Line) Seen
memory cycles lines (Slot access) = record {
  records =
      Accessed access.address.0 access.counter access.next access.purpose (lines access.address.0) ∷ [];
  held = put_back lines access.address.0 access.purpose;
  answer = record { line = lines access.address.0; end = access.asked + cycles };
}
memory cycles lines (Append message) = record {
  records = Displaced message.address.0 message.counter message.line ∷ [];
  held = put_line lines message.address.0 message.line;
  answer = nothing;
}
memory cycles lines (Answer line value) = record { records = []; held = lines; answer = nothing }
memory cycles lines Room = record { records = []; held = lines; answer = nothing }
