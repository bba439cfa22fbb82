use Rattle.run_play.proofs.Turns.{matches}
use Rattle.run_play.proofs.laws.instructions_take_slots.Goals as goal

pub returns : goal.returns
returns g c config core plan lines now fresh = matches config core plan lines now fresh
