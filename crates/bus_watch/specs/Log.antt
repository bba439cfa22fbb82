-- What a tap means: the three lists of its log, its mirror, and the room that it has.
use Rattle.std.specs.Prelude.{ℕ, Bool, true, false, if◌then◌else◌, List, [], ◌∷◌, ◌++◌, length}
use Rattle.std.specs.Prelude.{Option, None, Some, slice_get, bytes_eq}
use Rattle.bus_watch.specs.declared.log.Move.{Move}
use Rattle.bus_watch.specs.declared.log.Event.{Event}
use Rattle.bus_watch.specs.declared.log.Altered.{Altered}

-- what is noted: the moves, the events and the replies that differ, each in order
pub record LogLists : Type 0 where
  pub moves : List Move
  pub events : List Event
  pub altered : List Altered

-- what a tap means
pub record TapState : Type 0 where
  pub log : LogLists
  -- each bucket as last written, zero bytes before
  pub mirror : List (List ℕ)
  -- how many moves and events can be noted without memory
  pub spare_moves : ℕ
  pub spare_events : ℕ

-- nothing is noted, and nothing prepared
abbrev pub fresh_tap : TapState
fresh_tap = record {
  log = record { moves = []; events = []; altered = [] };
  mirror = [];
  spare_moves = 0;
  spare_events = 0;
}

-- a read of a bucket at this time
abbrev pub read_move : ℕ → ℕ → Move
read_move at number = record { time = at; write = false; bucket = number }

-- a write of a bucket at this time
abbrev pub write_move : ℕ → ℕ → Move
write_move at number = record { time = at; write = true; bucket = number }

-- the log with one move more
abbrev pub with_move : LogLists → Move → LogLists
with_move log m = record { moves = log.moves ++ m ∷ []; events = log.events; altered = log.altered }

-- the log with one event more
abbrev pub with_event : LogLists → Event → LogLists
with_event log e = record { moves = log.moves; events = log.events ++ e ∷ []; altered = log.altered }

-- what is noted of a reply that differs
abbrev pub altered_reply : LogLists → ℕ → ℕ → List ℕ → Altered
altered_reply log at number text = record { time = at; bucket = number; bytes = text; before = length log.events }

-- the log with one altered reply more
abbrev pub with_altered : LogLists → Altered → LogLists
with_altered log a = record { moves = log.moves; events = log.events; altered = log.altered ++ a ∷ [] }

-- there are such bytes, and they are these
abbrev pub is_text : Option (List ℕ) → List ℕ → Bool
is_text None text = false
is_text (Some held) text = bytes_eq held text

-- whether these are the bytes of this bucket
abbrev pub is_bucket : List (List ℕ) → ℕ → List ℕ → Bool
is_bucket mirror number text = is_text (slice_get mirror number) text

-- the log after a reply: one that differs from the mirror is noted
abbrev pub with_reply : LogLists → List (List ℕ) → ℕ → ℕ → List ℕ → LogLists
with_reply log mirror at number text =
    if is_bucket mirror number text then log else with_altered log (altered_reply log at number text)
