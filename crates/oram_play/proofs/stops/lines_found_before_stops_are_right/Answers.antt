use Rattle.oram_play.proofs.FoundInStops.{found-right}
use Rattle.oram_play.proofs.stops.lines_found_before_stops_are_right.Goals as goal

pub returns : goal.returns
returns c = found-right
