use Rattle.run_play.proofs.Flat.{instruction-flat, instruction-lines}
use Rattle.run_play.proofs.PlaysFlat.{whole-flat}
use Rattle.run_play.proofs.laws.plays_are_flat.Goals as goal

pub returns : goal.returns
returns c = record { instruction = instruction-flat; lines = instruction-lines; ends = whole-flat }
