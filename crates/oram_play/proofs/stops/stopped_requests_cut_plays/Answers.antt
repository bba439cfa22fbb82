use Rattle.oram_play.proofs.StopsStand.{request-cuts}
use Rattle.oram_play.proofs.stops.stopped_requests_cut_plays.Goals as goal

pub returns : goal.returns
returns c = request-cuts
