use Rattle.oram_play.proofs.Turns.{fetch-takes, store-takes}
use Rattle.oram_play.proofs.laws.answered_requests_take_slots_in_turn.Goals as goal

pub returns : goal.returns
returns c = record { fetch = fetch-takes; store = store-takes }
