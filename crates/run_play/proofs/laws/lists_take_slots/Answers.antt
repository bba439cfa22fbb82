use Rattle.run_play.proofs.Answered.{whole-plays}
use Rattle.run_play.proofs.Through.{image-takes, instruction-comes}
use Rattle.run_play.proofs.laws.lists_take_slots.Goals as goal

pub returns : goal.returns
returns c = record { image = image-takes; written = whole-plays; instruction = instruction-comes }
