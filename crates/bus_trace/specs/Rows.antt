-- Traces on which the definitions are computed.
use Rattle.std.specs.Prelude.{ℕ, false, [], ◌∷◌, None}
use Rattle.asc_base.specs.declared.block.Point.TheVariants.{Dummy}
use Rattle.bus_watch.specs.declared.log.Event.TheVariants.{Access, Drawn}
use Rattle.bus_watch.specs.declared.log.Move.{Move}
use Rattle.bus_watch.specs.Log.{LogLists}
use Rattle.bus_schedule.specs.Timetable.{Public}
use Rattle.bus_trace.specs.Trace.{TraceLists}

-- the public part of the default settings
abbrev pub default_public : Public
default_public = record {
  levels = 13;
  rates = 256 ∷ 1024 ∷ 4096 ∷ 16384 ∷ [];
  first = 3;
  epoch = 65536;
  leak = 16;
}

-- a run that makes no access and ends at 12
abbrev pub idle_trace : TraceLists
idle_trace = record { header = default_public; accesses = []; end = 12 }

-- Slots of 176 cycles: the first is from 128 to 304.
abbrev pub small_public : Public
small_public = record { levels = 1; rates = 64 ∷ 128 ∷ []; first = 1; epoch = 304; leak = 1 }

-- a read at a time
abbrev pub read_at : ℕ → Move
read_at at = record { time = at; write = false; bucket = 0 }

-- the first slot, whose leaf is 1, with its four moves, and the first move after it
abbrev pub slot_log : LogLists
slot_log = record {
  moves = read_at 128 ∷ read_at 168 ∷ read_at 224 ∷ read_at 264 ∷ read_at 304 ∷ [];
  events = Access 128 None ∷ Drawn (Dummy 0) (record { 0 = 1 }) ∷ [];
  altered = [];
}

-- its trace
abbrev pub slot_trace : TraceLists
slot_trace = record {
  header = small_public;
  accesses = record { start = 128; leaf = record { 0 = 1 }; moves = 4 } ∷ [];
  end = 400;
}
