use Rattle.run_play.proofs.Lines.{takes}
use Rattle.run_play.proofs.laws.requests_take_slots.Goals as goal

pub returns : goal.returns
returns g c config plan requests now makes fresh = takes config plan requests now makes fresh
