use Rattle.oram_play.proofs.CutRequests.{request-left}
use Rattle.oram_play.proofs.stops.stopped_walks_cut_plays.Goals as goal

pub returns : goal.returns
returns c = request-left
