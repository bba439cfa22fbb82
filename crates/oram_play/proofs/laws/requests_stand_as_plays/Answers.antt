use Rattle.oram_play.proofs.HomeCalls.{calls_stand}
use Rattle.oram_play.proofs.Stands.{new_plays, request_stands, wait_stands}
use Rattle.oram_play.proofs.laws.requests_stand_as_plays.Goals as goal

pub returns : goal.returns
returns c = record { start = new_plays; request = request_stands; wait = wait_stands; calls = calls_stand }
