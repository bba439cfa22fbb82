use Rattle.log_replay.proofs.Requests.{new_replayed, request_replayed, request_stops, between_requests}
use Rattle.log_replay.proofs.laws.logs_say_all.Goals as goal

pub returns : goal.returns
returns c = record {
  start = new_replayed;
  request = request_replayed;
  stop = request_stops;
  between = between_requests;
}
