use Rattle.oram_play.proofs.StopWalks.{fetch-stops, store-stops}
use Rattle.oram_play.proofs.stops.stopped_requests_take_slots_in_turn.Goals as goal

pub returns : goal.returns
returns c = record { fetch = fetch-stops; store = store-stops }
