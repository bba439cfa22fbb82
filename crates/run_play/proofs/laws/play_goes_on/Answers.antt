use Rattle.run_play.specs.Requests.{request_slots}
use Rattle.run_play.proofs.Steps.{play-none, play-late, play-next, after_slots-twice, one_by_one-append}
use Rattle.run_play.proofs.laws.play_goes_on.Goals as goal

pub returns : goal.returns
returns c = record {
  budget = play-none;
  late = play-late;
  next = play-next;
  twice = after_slots-twice;
  requests = λ config. one_by_one-append (request_slots config);
}
