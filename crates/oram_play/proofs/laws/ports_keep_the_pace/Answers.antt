use Rattle.oram_play.proofs.Between.{start-taken, pace-of}
use Rattle.oram_play.proofs.laws.ports_keep_the_pace.Goals as goal

pub returns : goal.returns
returns c = record { start = start-taken; stands = pace-of }
