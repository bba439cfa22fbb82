use Rattle.oram_play.proofs.HomePlaces.{stands_somewhere, stands_once, stands_nowhere}
use Rattle.oram_play.proofs.laws.blocks_at_home_have_one_place.Goals as goal

pub returns : goal.returns
returns c = record { somewhere = stands_somewhere; once = stands_once; nowhere = stands_nowhere }
