-- How a run of bus calls ends.
use Rattle.std.specs.Prelude.{Result, Ok, Err}
use Rattle.bus_watch.specs.declared.bus.BusStop.{BusStop}
use Rattle.bus_watch.specs.declared.bus.BusStop.TheVariants.{Device, NoMemory}

-- Every call was Ok; or the last move failed; or memory ran out, maybe in the last move.
pub data RunEnd : Type 0 where
  Whole : RunEnd
  MoveFailed : RunEnd
  RanOut : RunEnd

-- the end at a stop
abbrev pub end_at : BusStop → RunEnd
end_at Device = MoveFailed
end_at NoMemory = RanOut

-- the end at an answer
abbrev pub end_of : Result (Unit {0}) BusStop → RunEnd
end_of (Ok _) = Whole
end_of (Err stop) = end_at stop
