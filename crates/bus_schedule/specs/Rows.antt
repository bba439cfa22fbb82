-- Public parts and logs on which the definitions are computed.
use Rattle.std.specs.Prelude.{List, [], ◌∷◌, None}
use Rattle.asc_base.specs.declared.block.Point.TheVariants.{Dummy}
use Rattle.bus_watch.specs.declared.log.Event.{Event}
use Rattle.bus_watch.specs.declared.log.Event.TheVariants.{Access, Drawn}
use Rattle.bus_watch.specs.Log.{LogLists}
use Rattle.bus_schedule.specs.Timetable.{Public}
use Rattle.bus_watch.specs.Path.{slot_moves}

-- Slots of 496 cycles, and four rates. Epoch 1 starts at 32,768.
abbrev pub four_rates : Public
four_rates = record { levels = 5; rates = 256 ∷ 1024 ∷ 4096 ∷ 16384 ∷ []; first = 0; epoch = 32768; leak = 2 }

-- Slots of 176 cycles, two rates, and one choice. The first slot is from 128 to 304, where epoch 1 starts.
abbrev pub two_rates : Public
two_rates = record { levels = 1; rates = 64 ∷ 128 ∷ []; first = 1; epoch = 304; leak = 1 }

-- The same but for epoch 1, which starts at 400, so that none starts by the end of the first slot.
abbrev pub longer_epoch : Public
longer_epoch = record { levels = 1; rates = 64 ∷ 128 ∷ []; first = 1; epoch = 400; leak = 1 }

-- the first slot, whose leaf is 0, and these events after it
abbrev pub first_slot_log : List Event → LogLists
first_slot_log events = record {
  moves = slot_moves 1 128 0;
  events = Access 128 None ∷ Drawn (Dummy 0) (record { 0 = 0 }) ∷ events;
  altered = [];
}

-- no slot, and these events
abbrev pub idle_log : List Event → LogLists
idle_log events = record { moves = []; events = events; altered = [] }
