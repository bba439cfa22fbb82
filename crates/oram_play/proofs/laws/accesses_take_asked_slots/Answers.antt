use Rattle.oram_play.proofs.Plays.{play-access}
use Rattle.oram_play.proofs.laws.accesses_take_asked_slots.Goals as goal

pub returns : goal.returns
returns c = play-access
