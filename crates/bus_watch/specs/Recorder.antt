-- What the recorder's fields mean.
use Rattle.std.specs.Prelude.{◌≤◌, ◌+◌, vec_len, vec_capacity}
use Rattle.bus_watch.specs.declared.log.Log.{Log}
use Rattle.bus_watch.specs.declared.recorder.Recorder.TheInside.{Inside}
use Rattle.bus_watch.specs.Log.{LogLists, TapState}

-- a log, with a list in each vector's place
abbrev pub lists_of : Log → LogLists
lists_of log = record { moves = log.moves.items; events = log.events.items; altered = log.altered.items }

-- what a recorder means: all of its fields but the allocator
abbrev pub recorded : Inside → TapState
recorded r = record {
  log = lists_of r.log;
  mirror = r.mirror.items;
  spare_moves = r.spare_moves;
  spare_events = r.spare_events;
}

-- there is room for the spare moves and events
pub record HasRoom (r : Inside) : Type 0 where
  pub moves : vec_len r.log.moves + r.spare_moves ≤ vec_capacity r.log.moves
  pub events : vec_len r.log.events + r.spare_events ≤ vec_capacity r.log.events
