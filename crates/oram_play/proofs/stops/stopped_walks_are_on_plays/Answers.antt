use Rattle.oram_play.proofs.OnPlays.{on-play}
use Rattle.oram_play.proofs.stops.stopped_walks_are_on_plays.Goals as goal

pub returns : goal.returns
returns c config now request lines layers held below same keys levels numbers asked slots pace stop old new accesses =
    on-play config now request lines layers held below same accesses
