use Rattle.std.proofs.Common.{refl}
use Rattle.oram_play.proofs.PlayTurns.{turns-played, request-played}
use Rattle.oram_play.proofs.laws.walked_accesses_take_play_slots.Goals as goal

pub returns : goal.returns
returns c = record {
  accesses = λ config value now walked accesses end late turn are.
      turns-played config value walked accesses now now.clock end late refl turn are;
  request = request-played;
}
