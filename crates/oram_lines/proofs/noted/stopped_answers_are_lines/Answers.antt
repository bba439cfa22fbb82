use Rattle.oram_lines.proofs.HonestStops.{fetch_stopped, store_stopped}
use Rattle.oram_lines.proofs.noted.stopped_answers_are_lines.Goals as goal

pub returns : goal.returns
returns c = record { fetch = fetch_stopped; store = store_stopped }
